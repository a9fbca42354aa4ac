-- What is wanted is found by following a chain; it stays found where the chain's links stay. Assumes nothing.
use mathlib.Core.Path.{◌≡◌, refl, sym, subst}
use Prim.Native.Nat.{ℕ, zero, suc, ◌≤◌, ◌<◌}
use native.Mathlib.Omega.{arith}
use native.Mathlib.Decide.{dec_lt}
use Rattle.classes.specs.Chains.{Reach, here, next, Chain, none, some}

-- as far as a chain has been followed: what is left of it has everything that is wanted
pub record Chase (ok : ℕ → Type 0) (chain : ℕ → ℕ) (low : ℕ) (want : ℕ → Type 0) (x : ℕ) : Type 0 where
  pub chained : Chain ok chain low x
  pub all : (q : ℕ) → want q → Reach chain low x q

module _ {ok : ℕ → Type 0} {chain : ℕ → ℕ} {low : ℕ} {want : ℕ → Type 0} where
  -- what the chain has come to
  pub chase_at : {x : ℕ} → Chase ok chain low want x → (p : ℕ) → x ≡ suc p → low ≤ p → ok p × (chain p ≤ p)
  chase_at {x} h p e b = go h.chained
    where
      go : Chain ok chain low x → ok p × (chain p ≤ p)
      go (none z) = absurd (omega arith)
      go (some {p = q} z a k l r) = let f : q ≡ p = omega arith in subst (λ u. ok u × (chain u ≤ u)) f (k, l)

  pub chase_next : {x : ℕ} → Chase ok chain low want x → (p : ℕ) → x ≡ suc p → low ≤ p → (want p → ⊥) → Chase ok chain low want (chain p)
  chase_next {x} h p e b f = record { chained = go h.chained; all = λ q k. on q k (h.all q k) }
    where
      go : Chain ok chain low x → Chain ok chain low (chain p)
      go (none z) = absurd (omega arith)
      go (some {p = q} z a k l r) = let g : q ≡ p = omega arith in subst (λ u. Chain ok chain low (chain u)) g r

      on : (q : ℕ) → want q → Reach chain low x q → Reach chain low (chain p) q
      on q k (here z a) = let y : q ≡ p = omega arith in absurd (f (subst want y k))
      on q k (next {q = u} z a r) = let y : u ≡ p = omega arith in subst (λ v. Reach chain low (chain v) q) y r

  pub chase_end : {x : ℕ} → Chase ok chain low want x → x ≤ low → (q : ℕ) → want q → ⊥
  chase_end {x} h z q k = never (h.all q k)
    where
      never : Reach chain low x q → ⊥
      never (here y a) = omega arith
      never (next y a r) = omega arith

-- a chain stays where its links stay
module _ {ok : ℕ → Type 0} {chain chain2 : ℕ → ℕ} {low : ℕ} (same : (p : ℕ) → ok p → chain2 p ≡ chain p) where
  pub chain_stays : {more : ℕ → Type 0} → ((p : ℕ) → ok p → more p) → {x : ℕ} → Chain ok chain low x → Chain more chain2 low x
  chain_stays f (none z) = none z
  chain_stays {more} f (some {p = p} z a k l g) = let e = same p k in some z a (f p k) (omega arith) (subst (Chain more chain2 low) (sym e) (chain_stays f g))

  pub reach_stays : {x p : ℕ} → Chain ok chain low x → Reach chain low x p → Reach chain2 low x p
  reach_stays g (here e a) = here e a
  reach_stays (none z) (next e a r) = absurd (omega arith)
  reach_stays {p = p} (some {p = u} z b k l g) (next {q = q} e a r) =
      let f : u ≡ q = omega arith in
      next e a (subst (λ y. Reach chain2 low y p) (sym (same q (subst ok f k))) (reach_stays (subst (λ y. Chain ok chain low (chain y)) f g) r))

-- where the chain goes down everywhere, each link is a chain
pub chain_down : {ok : ℕ → Type 0} {chain : ℕ → ℕ} (low n : ℕ) → ((p : ℕ) → low ≤ p → p < n → ok p × (chain p ≤ p)) → (fuel x : ℕ) → x ≤ fuel → x ≤ n → Chain ok chain low x
chain_down low n f zero x a b = none {x = x} (omega arith)
chain_down low n f (suc fuel) zero a b = none {x = zero} (omega arith)
chain_down {ok} {chain} low n f (suc fuel) (suc p) a b = go (λ h l. chain_down low n f fuel (chain p) h l) (dec_lt p low)
  where
    go : (chain p ≤ fuel → chain p ≤ n → Chain ok chain low (chain p)) → Dec (p < low) → Chain ok chain low (suc p)
    go g (no h) = let r = f p (omega arith) (omega arith) in some {x = suc p} {p = p} refl (omega arith) r.0 r.1 (g (omega (arith, r.1)) (omega (arith, r.1)))
    go g (yes h) = none {x = suc p} (omega arith)
