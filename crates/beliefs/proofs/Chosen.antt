-- A belief set made to order: a belief on each target that is in a word. It shows that a state pictures some stack. Assumes nothing.
use mathlib.Core.Path.{◌≡◌, refl, sym, ap, ap₂, ◌∙◌}
use mathlib.Core.Bool.{Bool, true, false, cond, ◌&&◌, ◌||◌, and-false}
use mathlib.Core.List.{List, [], ◌∷◌}
use Prim.Native.Nat.{ℕ, zero, suc}
use native.Mathlib.Omega.{arith}
use lib.Dec.{eqb, ltb}
use borrow.Author.Tests.{eqb-true, le-ltb}
use Rattle.bits.specs.Bit.{bit}
use Rattle.beliefs.specs.Lists.{any}
use Rattle.beliefs.specs.Stack.{Principal, Belief, on}
use Rattle.beliefs.proofs.Granted.{ltb_step}

-- a belief on each target below n that is in w, with the chain of its target
unfoldable pub chosen : (ℕ → List Principal) → ℕ → ℕ → List Belief
chosen chains w zero = []
chosen chains w (suc n) = cond (bit w n) (record { chain = chains n; target = n } ∷ chosen chains w n) (chosen chains w n)

-- t is n, or is among those before it
pick : (e l y z : Bool) → (e ≡ true → y ≡ z) → ((e && y) || (l && z)) ≡ ((e || l) && z)
pick true l y true h = ap (λ (v : Bool). v || (l && true)) (h refl)
pick true l y false h = ap₂ (λ (u v : Bool). u || v) (h refl) (and-false l)
pick false l y z h = refl

module _ (chains : ℕ → List Principal) (x : List Principal → Bool) (w t : ℕ) where
  one_more : (b : Bool) (n : ℕ) (l : List Belief)
      → any (λ a. on t a && x a.chain) (cond b (record { chain = chains n; target = n } ∷ l) l)
      ≡ ((eqb n t && (b && x (chains n))) || any (λ a. on t a && x a.chain) l)
  one_more true n l = refl
  one_more false n l = ap (λ (v : Bool). v || any (λ a. on t a && x a.chain) l) (sym (and-false (eqb n t)))

  -- one of them is on t and has x: exactly where t is below n and in w, and its chain has x
  pub chosen_any : (n : ℕ) → any (λ a. on t a && x a.chain) (chosen chains w n) ≡ (ltb t n && (bit w t && x (chains t)))
  unfolding chosen
  chosen_any zero = ap (λ (v : Bool). v && (bit w t && x (chains t))) (sym (le-ltb t 0 (omega arith)))
  chosen_any (suc n) =
      one_more (bit w n) n (chosen chains w n)
      ∙ ap (λ (v : Bool). (eqb n t && (bit w n && x (chains n))) || v) (chosen_any n)
      ∙ pick (eqb n t) (ltb t n) (bit w n && x (chains n)) (bit w t && x (chains t)) (λ q. ap (λ (m : ℕ). bit w m && x (chains m)) (eqb-true n t q))
      ∙ ap (λ (v : Bool). v && (bit w t && x (chains t))) (ltb_step t n)
