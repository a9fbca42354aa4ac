-- What a caller knows of a job that is fine: its numbers are in range, and are those that its items hold. Assumes nothing.
use mathlib.Core.Path.{◌≡◌, subst}
use mathlib.Core.Option.{none}
use mathlib.Core.List.{map}
use Prim.Native.Nat.{◌≤◌}
use native.Mathlib.Omega.{arith}
use lib.ListN.{length, length-map}
use Rattle.rules.specs.Limits.{types_most}
use Rattle.rules.specs.Items.{ranges, out_of_range, numbers_from}
use Rattle.rules.proofs.Ranges.{InRange, kept, this, those, handed_numbers}
use Rattle.rules.proofs.Answers.{handed_in_range}
use Rattle.shapes.specs.Handed.{type_of, items_of, numbers_of}
use Rattle.shapes.specs.declared.Job.{Job}

module _ (j : Job) (h : length j.types ≡ types_most) (fine : out_of_range (items_of j) ≡ none) where
  twelve : length (map type_of j.types) ≡ types_most
  twelve = omega (arith, h, length-map j.types type_of)

  -- the piece count is one that the room has
  pub count_fine : j.count ≤ types_most
  count_fine = (this (those (those (those (those (kept 0 (ranges j.count) (items_of j) fine)))))).high

  pub same_numbers : numbers_from (items_of j) ≡ numbers_of j
  same_numbers = handed_numbers j.length j.width j.kerf j.count (map type_of j.types) (omega (arith, count_fine, twelve))

  pub job_in_range : InRange (numbers_of j)
  job_in_range = subst InRange same_numbers (handed_in_range j.length j.width j.kerf j.count (map type_of j.types) twelve fine)
