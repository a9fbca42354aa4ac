-- Finding through links: a head leads to the last that was entered, and a chain from each to the one before it. Assumes nothing.
use Rattle.std.specs.Prelude.{◌≡◌, ℕ, suc, ◌≤◌}

-- A link is an index plus 1; a link that is not above low names nothing. From link x the chain comes to p.
pub data Reach (chain : ℕ → ℕ) (low : ℕ) : ℕ → ℕ → Type 0 where
  here : {x p : ℕ} → x ≡ suc p → low ≤ p → Reach chain low x p
  next : {x q p : ℕ} → x ≡ suc q → low ≤ q → Reach chain low (chain q) p → Reach chain low x p

-- all that link x leads to is ok, and the chain goes down
pub data Chain (ok : ℕ → Type 0) (chain : ℕ → ℕ) (low : ℕ) : ℕ → Type 0 where
  none : {x : ℕ} → x ≤ low → Chain ok chain low x
  some : {x p : ℕ} → x ≡ suc p → low ≤ p → ok p → chain p ≤ p → Chain ok chain low (chain p) → Chain ok chain low x
