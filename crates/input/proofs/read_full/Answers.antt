use Rattle.std.proofs.Common.{rules, ◌≡◌, ℕ, ◌+◌, ◌-◌, ◌≤◌, List, ◌++◌, length, take, sym, ap, subst, ◌∙◌}
use Rattle.std.proofs.KnownBytes.{Consumes-trans}
use Rattle.std.proofs.Math.Seq.{take-append-add, length-take-le}
use Rattle.std.proofs.lemmas.List.{take-append-le}
use Rattle.std.specs.Io.KnownBytes.{Consumes}
use borrow.Rule.Slice.PartMut.{put_mid, post_of}
use Rattle.input.proofs.read_full.Goals as goal

-- the first filled + n bytes, after n bytes were read behind those that were filled
filled_more : (filled n : ℕ) (into read : List ℕ) → filled ≤ length into → n ≤ length read → take (filled + n) (put_mid filled (length into - filled) into read) ≡ take filled into ++ take n read
filled_more filled n into read h l =
    let all = put_mid filled (length into - filled) into read in
    ap (λ m. take (m + n) all) (sym (length-take-le filled into h))
    ∙ take-append-add (take filled into) (read ++ post_of filled (length into - filled) into) n
    ∙ ap (λ t. take filled into ++ t) (take-append-le n read (post_of filled (length into - filled) into) l)

pub loop-filled-preserved : goal.loop-filled-preserved
loop-filled-preserved g c =
    let more = filled_more c.loop-filled.filled c.in_ok-n.n c.loop-filled.into c.read.new.buf c.loop-filled.invariant.within c.in_ok-n.ensures.bound.0 in
    record {
      within = search rules;
      first = subst (Consumes (g.R.Read.remaining c.args.from.now) (g.R.Read.remaining c.read.new.self)) (sym more) (Consumes-trans _ _ _ _ _ c.loop-filled.invariant.first c.in_ok-n.ensures.bytes.0);
    }
