-- The items behind a job's own do not change the job, and are its placements. Assumes nothing.
use mathlib.Core.Path.{◌≡◌, refl, sym, ap, ◌∙◌}
use mathlib.Core.List.{List, [], ◌∷◌, ◌++◌, map, append_assoc}
use Prim.Native.Nat.{ℕ, ◌+◌, ◌*◌, ◌≤◌}
use native.Mathlib.Omega.{arith}
use lib.ListN.{length, take, drop, length-map, length-append}
use lib.Seq.{drop_at, length-take-le}
use Rattle.rules.specs.Limits.{types_most}
use Rattle.rules.specs.Numbers as rules
use Rattle.rules.specs.Items.{type_items, types_from, numbers_from, placements_from}
use Rattle.rules.proofs.Ranges.{handed_length}
use Rattle.shapes.specs.Handed.{type_of, items_of}
use Rattle.shapes.specs.declared.Job.{Job}

types_behind : (ps : List rules.PieceType) (ws : List ℕ) → types_from (length ps) (type_items ps ++ ws) ≡ types_from (length ps) (type_items ps)
types_behind [] ws = refl
types_behind (p ∷ ps) ws = λ i. p ∷ types_behind ps ws i

module _ (job : Job) (size : length job.types ≡ types_most) (room : job.count ≤ types_most) where
  taken : length (take job.count (map type_of job.types)) ≡ job.count
  taken = length-take-le job.count (map type_of job.types) (omega (arith, size, length-map job.types type_of))

  pub numbers_behind : (ws : List ℕ) → numbers_from (items_of job ++ ws) ≡ numbers_from (items_of job)
  numbers_behind ws =
      let ps = take job.count (map type_of job.types) in
      let e : types_from job.count (type_items ps ++ ws) ≡ types_from job.count (type_items ps) =
      ap (λ n. types_from n (type_items ps ++ ws)) (sym taken) ∙ types_behind ps ws ∙ ap (λ n. types_from n (type_items ps)) taken in
      λ i. record { long = job.length; wide = job.width; kerf = job.kerf; types = e i }

  pub placements_behind : (n : ℕ) (flat : List ℕ) → placements_from (items_of job ++ n ∷ flat) ≡ flat
  placements_behind n flat =
      let l : length (items_of job ++ (n ∷ [])) ≡ 6 + 4 * job.count = omega (arith, length-append (items_of job) (n ∷ []), handed_length job.length job.width job.kerf job.count (map type_of job.types) (omega (arith, room, size, length-map job.types type_of))) in
      ap (drop (6 + 4 * job.count)) (sym (append_assoc (items_of job) (n ∷ []) flat)) ∙ drop_at (items_of job ++ (n ∷ [])) flat (6 + 4 * job.count) l
