-- What the numbers of a key weigh together, and the bucket of a weight. Assumes nothing.
use Rattle.std.specs.Prelude.{List, [], ◌∷◌, ℕ, zero, suc, ◌+◌, ◌*◌, ◌/◌, ◌%◌}

-- weights are below
abbrev pub weight_most : ℕ
weight_most = 4_294_967_296

-- what one unit of a key's first number weighs, and of the number behind one that weighs so much
abbrev pub first_weight : ℕ
first_weight = 2_654_435_769

abbrev pub next_weight : ℕ → ℕ
next_weight w = w * 2_246_822_519 % weight_most

-- what one unit of the number at place t weighs
unfoldable pub weight_of : ℕ → ℕ
weight_of zero = first_weight
weight_of (suc t) = next_weight (weight_of t)

-- the numbers of a key, the first of them at place t
unfoldable pub weighed : ℕ → List ℕ → ℕ
weighed t [] = 0
weighed t (x ∷ xs) = x * weight_of t + weighed (suc t) xs

-- what a number of a byte weighs at most
abbrev pub key_most : ℕ
key_most = 1_099_511_627_776

-- the bucket of a weight, out of so many: as far among them as the weight is in its range
unfoldable pub spread : ℕ → ℕ → ℕ
spread buckets w = w % weight_most * buckets / weight_most

-- the bucket of a key
abbrev pub bucket_of : ℕ → List ℕ → ℕ
bucket_of buckets key = spread buckets (weighed 0 key)
