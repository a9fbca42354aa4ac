-- `unfolding::lay` meets its contract: the index falls at each call. Assumes nothing.
use Rattle.unfolding.proofs.+lay.Given as goal

abbrev pub decreases-lay : goal.decreases-lay
decreases-lay l = l.i
