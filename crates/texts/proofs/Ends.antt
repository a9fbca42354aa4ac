-- Where a reading of whole sections leaves a text: in the grammar, or at the place that refusal 1 names. Assumes nothing.
use mathlib.Core.Path.{◌≡◌, refl, ap, ◌∙◌}
use mathlib.Core.List.{List, [], ◌∷◌}
use Prim.Native.Nat.{ℕ, ◌≤◌, ◌<◌}
use lib.ListN.{length, drop, drop_of_length-le}
use lib.Seq.{drop-cons}
use Rattle.rules.specs.Text.{Script, end, Text, LeavesAt}
use Rattle.rules.proofs.Reading.{ok, stop, read, noted, fresh, sound, leaves}
use Rattle.reader.specs.declared.Stray.{Stray}
use Rattle.reading.specs.Walked.{noted_all, Walking, Strays}

noted_ok : (vs : List ℕ) → noted_all vs (ok []) ≡ ok vs
noted_ok [] = refl
noted_ok (v ∷ vs) = ap (noted v) (noted_ok vs)

noted_stop : (vs : List ℕ) (p : ℕ) → noted_all vs (stop p) ≡ stop p
noted_stop [] p = refl
noted_stop (v ∷ vs) p = ap (noted v) (noted_stop vs p)

nothing_left : (t : List ℕ) (next : ℕ) → length t ≤ next → read end next 0 0 (drop next t) ≡ ok []
nothing_left t next h = ap (λ l. read end next 0 0 l) (drop_of_length-le t h)

something_left : (t : List ℕ) (next : ℕ) → next < length t → read end next 0 0 (drop next t) ≡ stop next
something_left t next h = ap (λ l. read end next 0 0 l) (drop-cons t next 0 h)

module _ (f : Script → Script) (t : List ℕ) where
  -- the reading stopped within the sections
  pub leaves_within : {stray : Stray} → Strays f t 0 stray → LeavesAt (f end) t stray.place
  leaves_within {stray} x = leaves (f end) t stray.place (x.stops end)

  module _ {vs : List ℕ} {next : ℕ} (x : Walking f t 0 vs (λ s. s) next) where
    -- something follows the last line
    pub leaves_behind : next < length t → LeavesAt (f end) t next
    leaves_behind h = leaves (f end) t next (x.reads end ∙ ap (noted_all vs) (something_left t next h) ∙ noted_stop vs next)

    -- nothing does
    pub is_text : length t ≤ next → Text (f end) t vs
    is_text h = sound t (f end) [] 0 0 0 vs fresh (x.reads end ∙ ap (noted_all vs) (nothing_left t next h) ∙ noted_ok vs)
