-- Walks of the reading position put together. Assumes nothing.
use mathlib.Core.Path.{◌≡◌, refl, sym, ap, ◌∙◌, subst}
use mathlib.Core.List.{List, [], ◌∷◌, ◌++◌}
use Prim.Native.Nat.{ℕ}
use lib.ListN.{drop}
use Rattle.rules.specs.Text.{End, line, byte, Script, num}
use Rattle.rules.proofs.Reading.{Read, stop, read, noted}
use Rattle.reader.specs.Number.{number_at}
use Rattle.std.specs.Prelude.{Ok, Err, Result, MatchResult, IsErr, IsErrAnd}
use Rattle.reader.specs.declared.Stray.{Stray}
use Rattle.reading.specs.Walked.{noted_all, Walking, Strays, Arrives, Reads, Passed, Passes}
use Rattle.reader.proofs.Follow.{follow, read_number}

noted_append : (vs ws : List ℕ) (r : Read) → noted_all (vs ++ ws) r ≡ noted_all vs (noted_all ws r)
noted_append [] ws r = refl
noted_append (v ∷ vs) ws r = ap (noted v) (noted_append vs ws r)

noted_stop : (vs : List ℕ) (p : ℕ) → noted_all vs (stop p) ≡ stop p
noted_stop [] p = refl
noted_stop (v ∷ vs) p = ap (noted v) (noted_stop vs p)

pub walk_start : (f : Script → Script) (t : List ℕ) (from : ℕ) → Walking f t from [] f from
walk_start f t from = record { reads = λ s. refl }

module _ {f g : Script → Script} {t : List ℕ} {from at : ℕ} {vs : List ℕ} (x : Walking f t from vs g at) where
  -- a number comes next
  module _ (e : End) (h : ℕ → Script → Script) (asks : (s : Script) → g s ≡ num e (λ v. h v s)) where
    number_read : (s : Script) → read (g s) at 0 0 (drop at t) ≡ follow (λ v. h v s) t (number_at (byte e) t at)
    number_read s = ap (λ k. read k at 0 0 (drop at t)) (asks s) ∙ read_number e (λ v. h v s) t at

    pub walk_is : (v next : ℕ) → number_at (byte e) t at ≡ Ok (v, next) → Walking f t from (vs ++ (v ∷ [])) (h v) next
    walk_is v next k = record { reads = λ s. x.reads s ∙ ap (noted_all vs) (number_read s ∙ ap (follow (λ v. h v s) t) k) ∙ sym (noted_append vs (v ∷ []) (read (h v s) next 0 0 (drop next t))) }

    pub walk_is_not : (stray : Stray) → number_at (byte e) t at ≡ Err stray → Strays f t from stray
    walk_is_not stray k = record { stops = λ s. x.reads s ∙ ap (noted_all vs) (number_read s ∙ ap (follow (λ v. h v s) t) k) ∙ noted_stop vs stray.place }

  -- another walk comes next
  module _ (h k : Script → Script) (asks : (s : Script) → g s ≡ h (k s)) where
    pub walk_on : (ws : List ℕ) (next : ℕ) → Walking h t at ws (λ s. s) next → Walking f t from (vs ++ ws) k next
    walk_on ws next y = record { reads = λ s. x.reads s ∙ ap (noted_all vs) (ap (λ r. read r at 0 0 (drop at t)) (asks s) ∙ y.reads (k s)) ∙ sym (noted_append vs ws (read (k s) next 0 0 (drop next t))) }

    pub walk_stops : {stray : Stray} → Strays h t at stray → Strays f t from stray
    walk_stops {stray} y = record { stops = λ s. x.reads s ∙ ap (noted_all vs) (ap (λ r. read r at 0 0 (drop at t)) (asks s) ∙ y.stops (k s)) ∙ noted_stop vs stray.place }

-- the same walk under another name for its script or its numbers
pub walk_same : {f g h : Script → Script} {t : List ℕ} {from at : ℕ} {vs ws : List ℕ} → Walking f t from vs g at → vs ≡ ws → ((s : Script) → g s ≡ h s) → Walking f t from ws h at
walk_same {g = g} {t = t} {at = at} {ws = ws} x e k = record { reads = λ s. x.reads s ∙ ap (λ us. noted_all us (read (g s) at 0 0 (drop at t))) e ∙ ap (λ r. noted_all ws (read r at 0 0 (drop at t))) (k s) }

-- what a reading told, where it is known which way it ended
module _ {A : Type 0} (f : Script → Script) (t : List ℕ) (from at : ℕ) (Told : A → List ℕ → Type 0) {r : Result A Stray} (x : Reads f t from Told r at) where
  pub arrived : {a : A} → r ≡ Ok a → Arrives f t from Told a at
  arrived e = subst (λ q. Reads f t from Told q at) e x

  pub left : {stray : Stray} → r ≡ Err stray → Strays f t from stray
  left e = subst (λ q. Reads f t from Told q at) e x

-- a count comes first, or none
pub count_walk : (t : List ℕ) (from n next : ℕ) (h : ℕ → Script → Script) → number_at 10 t from ≡ Ok (n, next) → Walking (λ s. num line (λ v. h v s)) t from (n ∷ []) (h n) next
count_walk t from n next h e = walk_is (walk_start (λ s. num line (λ v. h v s)) t from) line h (λ s. refl) n next e

pub count_stops : (t : List ℕ) (from : ℕ) (stray : Stray) (h : ℕ → Script → Script) → number_at 10 t from ≡ Err stray → Strays (λ s. num line (λ v. h v s)) t from stray
count_stops t from stray h e = walk_is_not (walk_start (λ s. num line (λ v. h v s)) t from) line h (λ s. refl) stray e

-- what f asks for is read before what g asks for
pub before : (f g : Script → Script) {t vs : List ℕ} {from at : ℕ} → Walking f t from vs (λ s. s) at → Walking (λ s. f (g s)) t from vs g at
before f g x = record { reads = λ s. x.reads (g s) }

pub strays_before : (f g : Script → Script) {t : List ℕ} {from : ℕ} {stray : Stray} → Strays f t from stray → Strays (λ s. f (g s)) t from stray
strays_before f g x = record { stops = λ s. x.stops (g s) }

-- a walk, and then all that is still asked for, of the same text
module _ {f g : Script → Script} {t u ns : List ℕ} {from at : ℕ} (x : Walking f t from ns g at) (e : u ≡ t) where
  pub arrives_behind : {A B : Type 0} {Told : A → List ℕ → Type 0} {Known : B → List ℕ → Type 0} {a : A} {b : B} {last : ℕ} → Arrives g u at Told a last → ((vs : List ℕ) → Told a vs → Known b (ns ++ vs)) → Arrives f t from Known b last
  arrives_behind {Told = Told} {a = a} {last = last} z k = let y = subst (λ w. Arrives g w at Told a last) e z in record { numbers = ns ++ y.numbers; told = k y.numbers y.told; walked = walk_on x g (λ s. s) (λ s. refl) y.numbers _ y.walked }

  pub passed_as : {A : Type 0} {Told : A → List ℕ → Type 0} {a : A} {last : ℕ} → Passed g u at last → ((vs : List ℕ) → Told a (ns ++ vs)) → Arrives f t from Told a last
  passed_as {last = last} z k = let y = subst (λ w. Passed g w at last) e z in record { numbers = ns ++ y.numbers; told = k y.numbers; walked = walk_on x g (λ s. s) (λ s. refl) y.numbers _ y.walked }

  pub passed_behind : {last : ℕ} → Passed g u at last → Passed f t from last
  passed_behind {last} z = let y = subst (λ w. Passed g w at last) e z in record { numbers = ns ++ y.numbers; walked = walk_on x g (λ s. s) (λ s. refl) y.numbers _ y.walked }

  pub strays_behind : {stray : Stray} → Strays g u at stray → Strays f t from stray
  strays_behind {stray} z = walk_stops x g (λ s. s) (λ s. refl) (subst (λ w. Strays g w at stray) e z)

  pub passes_behind : (r : Result Unit Stray) (last : ℕ) → Passes g u at r last → Passes f t from r last
  passes_behind (Ok _) last y = passed_behind y
  passes_behind (Err stray) last y = strays_behind y

-- an answer that `?` hands on: the reading left the grammar
module _ {f : Script → Script} {t : List ℕ} {from : ℕ} {stray : Stray} (x : Strays f t from stray) where
  pub told : {A : Type 0} (Arrives : A → Type 0) (r : Result A Stray) → IsErr r × IsErrAnd r (λ e. e ≡ stray) → MatchResult r Arrives (Strays f t from)
  told Arrives (Ok a) e = absurd e.1
  told Arrives (Err z) e = subst (Strays f t from) (sym e.1) x
