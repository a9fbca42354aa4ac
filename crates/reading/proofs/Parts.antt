-- The sheet and piece sections put together from their parts. Assumes nothing.
use mathlib.Core.Path.{◌≡◌, sym, subst}
use mathlib.Core.List.{List, [], ◌∷◌, ◌++◌}
use Prim.Native.Nat.{ℕ}
use native.Mathlib.Omega.{arith}
use lib.ListN.{length, get_or}
use Rattle.rules.specs.Text.{Script}
use Rattle.shapes.specs.declared.PieceType.{PieceType}
use Rattle.reading.specs.Walked.{Walking}
use Rattle.reading.specs.Pieces as pieces
use Rattle.reading.specs.Pieces.{PiecesOf}
use Rattle.reading.specs.Sections.{some_sheets, one_sheet, sections_of, Holds, all, too_many}

-- the job of a sheet line's numbers and of the pieces behind it
pub sheet_job : {ns vs : List ℕ} {n : ℕ} {types : List PieceType} (us : List ℕ) → length us ≡ 3 → ns ≡ us → PiecesOf (n, types) vs →
    Holds (sections_of (record { length = get_or us 0 0; width = get_or us 1 0; kerf = get_or us 2 0; count = n; types = types })) (1 ∷ (ns ++ vs))
sheet_job [] l e p = absurd (omega arith)
sheet_job (a ∷ []) l e p = absurd (omega arith)
sheet_job (a ∷ b ∷ []) l e p = absurd (omega arith)
sheet_job {ns} {vs} {n} {types} (a ∷ b ∷ c ∷ []) l e p = subst (λ us. Holds (sections_of (record { length = a; width = b; kerf = c; count = n; types = types })) (1 ∷ (us ++ vs))) (sym e) (go p)
  where
    go : {vs : List ℕ} → PiecesOf (n, types) vs → Holds (sections_of (record { length = a; width = b; kerf = c; count = n; types = types })) (1 ∷ a ∷ b ∷ c ∷ vs)
    go (pieces.all h x) = subst (λ ws. Holds (sections_of (record { length = a; width = b; kerf = c; count = n; types = types })) (1 ∷ a ∷ b ∷ c ∷ n ∷ ws)) (sym x.numbers) (all x.size x.others h)
    go (pieces.too_many h) = too_many h
sheet_job (a ∷ b ∷ c ∷ d ∷ us) l e p = absurd (omega arith)

-- one sheet is some sheets
pub one_walk : {f : Script → Script} {t : List ℕ} {from n next : ℕ} → n ≡ 1 → Walking f t from (n ∷ []) (some_sheets n) next → Walking f t from (1 ∷ []) one_sheet next
one_walk {f} {t} {from} {next = next} e x = subst (λ m. Walking f t from (m ∷ []) (some_sheets m) next) e x
