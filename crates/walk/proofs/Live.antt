-- Every valid state pictures some stack of the definition, so no promise about pictured stacks is empty, and no operation on a valid state leaves another.
-- Assumes nothing.
use mathlib.Core.Path.{◌≡◌, refl, sym, ap, ap₂, ◌∙◌}
use mathlib.Core.Bool.{Bool, true, false, not, ◌&&◌, ◌||◌, and-false, and-true, or-false}
use mathlib.Core.List.{List, [], ◌∷◌, ◌++◌, map}
use Prim.Native.Nat.{ℕ, zero, suc, ◌^◌, ◌≤◌, ◌<◌}
use native.Mathlib.Omega.{arith}
use native.Mathlib.Nat.{lt_of_lt_of_le}
use lib.Pow.{pow_mono}
use lib.Dec.{ltb}
use lib.ListN.{get_or, length}
use Rattle.bits.specs.Bit.{bit}
use Rattle.bits.proofs.Laws.{below_bits}
use Rattle.beliefs.specs.declared.Marked.{Marked}
use Rattle.beliefs.specs.Lists.{any, all, keep, empty}
use Rattle.beliefs.specs.Stack.{Belief, Frame, Stack, own, said, permitted, granted, called, marked}
use Rattle.beliefs.specs.Engine.{inherited, Operate}
use Rattle.beliefs.specs.Policy.{Policy, valid}
use Rattle.beliefs.proofs.Policy.{ranges}
use Rattle.beliefs.proofs.Lists.{any_append}
use Rattle.beliefs.proofs.Granted.{any_not, own_called, inherited_called}
use Rattle.beliefs.proofs.Chosen.{chosen, chosen_any}
use Rattle.beliefs.proofs.Engine as engine
use Rattle.walk.specs.Layout.{depth, frame_at, frames_at}
use Rattle.walk.specs.Fits.{fits}
use Rattle.walk.specs.Pictures.{Sound, Coherent, Pictures, by_walk}
use Rattle.walk.proofs.Fits.{Fitting, fitting, pictured_fits}

-- what a callee is handed
handed : Stack → List Belief
handed [] = []
handed (f ∷ r) = map (said f.principal) f.beliefs

-- a frame with these marks over a stack: it owns what is enabled, and was handed what is not disabled
stand : Marked → Stack → Frame
stand m st = record {
  principal = record { place = suc (length st); signer = m.signer };
  beliefs = chosen (λ t. []) m.enabled 64 ++ keep (λ b. not (bit m.disabled b.target)) (handed st);
  enabled = m.enabled;
  disabled = m.disabled;
}

-- what is handed: nothing of its own, and all that the caller would be granted
handed_own : (t : ℕ) (st : Stack) → any (own t) (handed st) ≡ false
unfolding handed called
handed_own t [] = refl
handed_own t (f ∷ r) = own_called [] t 0 f r

handed_inherited : (p : Policy) (t : ℕ) (st : Stack) → any (inherited p t) (handed st) ≡ granted p t st
unfolding handed called granted
handed_inherited p t [] = refl
handed_inherited p t (f ∷ r) = inherited_called p t 0 f r

stand_sound : (p : Policy) (m : Marked) (st : Stack) → m.enabled < 2 ^ 64 → Sound p (stand m st) st
unfolding stand
stand_sound p m st low = record {
  owns = λ t. any_append (own t) (chosen (λ t. []) m.enabled 64) _
      ∙ ap₂ (λ (x y : Bool). x || y) (chosen_any (λ t. []) empty m.enabled t 64) (any_not (bit m.disabled) t (λ b. empty b.chain) (handed st)
      ∙ ap (λ (x : Bool). not (bit m.disabled t) && x) (handed_own t st) ∙ and-false (not (bit m.disabled t)))
      ∙ or-false _ ∙ ap (λ (x : Bool). ltb t 64 && x) (and-true (bit m.enabled t)) ∙ below_bits 64 m.enabled t low;
  inherits = λ t. any_append (inherited p t) (chosen (λ t. []) m.enabled 64) _
      ∙ ap₂ (λ (x y : Bool). x || y)
      (chosen_any (λ t. []) (λ c. not (empty c) && all (permitted p t) c) m.enabled t 64 ∙ ap (λ (x : Bool). ltb t 64 && x) (and-false (bit m.enabled t))
      ∙ and-false (ltb t 64))
      (any_not (bit m.disabled) t (λ b. not (empty b.chain) && all (permitted p t) b.chain) (handed st)
      ∙ ap (λ (x : Bool). not (bit m.disabled t) && x) (handed_inherited p t st));
}

-- the stack of the k lowest frames
stack_of : List ℕ → ℕ → Stack
stack_of s zero = []
stack_of s (suc k) = stand (frame_at s k) (stack_of s k) ∷ stack_of s k

stack_length : (s : List ℕ) (k : ℕ) → length (stack_of s k) ≡ k
unfolding stack_of
stack_length s zero = refl
stack_length s (suc k) = ap suc (stack_length s k)

stack_pictured : (p : Policy) (s : List ℕ) (k : ℕ) → ((j : ℕ) → j < k → (frame_at s j).enabled < 2 ^ 64)
    → (frames_at s k ≡ map marked (stack_of s k)) × Coherent p (stack_of s k)
unfolding stack_of stand
stack_pictured p s zero low = (refl, tt)
stack_pictured p s (suc k) low =
    let below = stack_pictured p s k (λ j l. low j (omega arith)) in
    (ap (λ (ms : List Marked). frame_at s k ∷ ms) below.0, (stand_sound p (frame_at s k) (stack_of s k) (low k (omega arith)), below.1))

pub pictured : (p : Policy) (s : List ℕ) → valid p ≡ true → fits p s ≡ true → (st : Stack) × Pictures p s st
pictured p s v h =
    let f : Fitting p s = fitting p s h in
    let room : get_or s 0 0 ≤ 63 = f.few in
    let d : depth s ≡ get_or s 0 0 = omega arith in
    let low : (j : ℕ) → j < get_or s 0 0 → (frame_at s j).enabled < 2 ^ 64 = λ j l. lt_of_lt_of_le (f.used j (omega arith)).enabled
    (pow_mono (ranges p v).targets_most) in
    let stack = stack_pictured p s (get_or s 0 0) low in (
      stack_of s (get_or s 0 0),
      record {
        room = rw (stack_length s (get_or s 0 0)) room;
        deep = sym (stack_length s (get_or s 0 0));
        same = ap (λ (n : ℕ). frames_at s n) d ∙ stack.0;
        coherent = stack.1;
        used = λ j l. f.used j (omega (arith, stack_length s (get_or s 0 0)));
        above = λ j l m. f.free j (omega (arith, stack_length s (get_or s 0 0))) m;
      },
    )

pub operate_stays : (p : Policy) (s : List ℕ) (w lent n byte : ℕ) (left : List ℕ) → Operate by_walk p s w lent n byte left → fits p s ≡ true → fits p left
    ≡ true
operate_stays p s w lent n byte left h f = engine.operate_stays by_walk p (pictured_fits p) s (λ v. pictured p s v f) w lent n byte left h f
