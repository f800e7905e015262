-- Passed states that a host nests picture the definition's stack, the newest frame's words all of it and each caller's the frames from that caller
-- down: so number 13 and 14 never come, and each answer is the definition's. Assumes nothing.
use mathlib.Core.Path.{◌≡◌, refl, sym, ap, ◌∙◌}
use mathlib.Core.Bool.{Bool, true, false, cond}
use mathlib.Core.Logic.{◌≢◌}
use mathlib.Core.List.{List, [], ◌∷◌}
use Prim.Native.Nat.{ℕ, suc, ◌≤◌}
use native.Mathlib.Omega.{arith}
use lib.Dec.{eqb}
use lib.ListN.{length}
use borrow.Author.Tests.{eq-eqb, ne_eqb, eqb-true, eqb-false}
use Rattle.bits.proofs.Laws.{never}
use Rattle.answers.specs.Numbers.{bad_policy, bad_state, first}
use Rattle.answers.specs.Answer.{Moved, refused}
use Rattle.answers.proofs.Numbers.{at_most}
use Rattle.words.specs.declared.Operation.{Operation}
use Rattle.words.specs.declared.Operation.TheVariants.{Call, Return, Enable, Disable, Revert, Check}
use Rattle.words.specs.Words.{outside, barred}
use Rattle.words.proofs.Words.{outside_most, barred_most}
use Rattle.beliefs.specs.Policy.{Policy, Target, signers, targets, valid, outside_of, refusal_in}
use Rattle.beliefs.specs.Stack.{Stack, called}
use Rattle.beliefs.specs.Trace.{below, does, step}
use Rattle.beliefs.proofs.Engine.{step_number, step_does}
use Rattle.beliefs.proofs.Policy.{let_in_with, not_refused_with, refused_by_lem}
use Rattle.passed.specs.declared.Passed.{Passed}
use Rattle.passed.specs.Fits.{fits}
use Rattle.passed.specs.Does.{passed_in, refused_by}
use Rattle.passed.specs.Pictures.{Pictures}
use Rattle.passed.proofs.Kept.{fresh_pictures}
use Rattle.passed.proofs.Live.{through}
use Rattle.galmuvesh.specs.Boundary.{Follows, Moves, Says, Asks}
use Rattle.demands.specs.Live.{Reached, fresh, moved, asked, after, PassedLived, zeros, call, enable, disable, revert, back, Numbered, Answered}

-- each state's words picture the frames from its own down; the newest first
abbrev Kept : Policy → List (List ℕ) → Stack → Type 0
Kept p [] st = Unit {0}
Kept p (s ∷ kept) st = Pictures p (passed_in s) st × Kept p kept (below st)

-- a state for each frame, and the zeros below
pub record Nest (p : Policy) (states : List (List ℕ)) (st : Stack) : Type 0 where
  pub count : length states ≡ suc (length st)
  pub known : Kept p states st
  pub reached : Reached p st

-- what an accepted operation leaves of the frames below the newest
call_over : (p : Policy) (g : ℕ) (st : Stack) → barred (length st) (Call g) ≡ 0 → after p (Call g) st ≡ called p g st ∷ st
unfolding does
call_over p g st z = ap (λ (m : Moved Stack). m.state) (step_does false p (Call g) st z)

abbrev marks : Operation → Bool
marks (Call g) = false
marks Return = false
marks (Enable t) = true
marks (Disable t) = true
marks (Revert t) = true
marks (Check t) = false

mark_over : (p : Policy) (op : Operation) → marks op ≡ true → (st : Stack) → barred (length st) op ≡ 0
    → (below (after p op st) ≡ below st) × (length (after p op st) ≡ length st)
unfolding does
mark_over p op m st z =
    let over : after p op st ≡ (does false p op st).state = ap (λ (m : Moved Stack). m.state) (step_does false p op st z) in
    rw over (go op m st)
  where
    go : (op : Operation) → marks op ≡ true → (st : Stack)
        → (below (does false p op st).state ≡ below st) × (length (does false p op st).state ≡ length st)
    go (Call g) m st = never (sym m)
    go Return m st = never (sym m)
    go (Enable t) m [] = (refl, refl)
    go (Enable t) m (f ∷ r) = (refl, refl)
    go (Disable t) m [] = (refl, refl)
    go (Disable t) m (f ∷ r) = (refl, refl)
    go (Revert t) m [] = (refl, refl)
    go (Revert t) m (f ∷ r) = (refl, refl)
    go (Check t) m st = never (sym m)

module _ (p : Policy) (v : valid p ≡ true) where
  -- an accepted operation by the newest frame: its words then picture the stack after it, which is reached
  module _ (s : List ℕ) (st : Stack) (k : Pictures p (passed_in s) st) (op : Operation) (left : List ℕ) (h : Moves p s op 0 left) where
    here : outside_of p op ≡ 0
    here = (through p (passed_in s) op (sym h.number)).outside

    follows : Follows p 0 left (step false p op st)
    follows = h.serves v here st k

    unbarred : barred (length st) op ≡ 0
    unbarred = sym (step_number false p op st) ∙ sym follows.number

    now_reached : Reached p st → Reached p (after p op st)
    now_reached r = moved op r here unbarred

  marked : (s : List ℕ) (kept : List (List ℕ)) (st : Stack) → Nest p (s ∷ kept) st → (op : Operation) → marks op ≡ true
      → (left : List ℕ) → Moves p s op 0 left → Nest p (left ∷ kept) (after p op st)
  marked s kept st n op m left h =
      let over = mark_over p op m st (unbarred s st n.known.0 op left h) in
      record {
        count = n.count ∙ ap suc (sym over.1);
        known = ((follows s st n.known.0 op left h).pictures, rw over.0 n.known.1);
        reached = now_reached s st n.known.0 op left h n.reached;
      }

  returned : (s caller : List ℕ) (kept : List (List ℕ)) (st : Stack) → Nest p (s ∷ caller ∷ kept) st → Nest p (caller ∷ kept) (after p Return st)
  unfolding does outside barred
  returned s caller kept [] n = absurd (omega (arith, n.count))
  returned s caller kept (f ∷ r) n =
      let some : length (f ∷ r) ≢ 0 = omega arith in
      let free : barred (length (f ∷ r)) Return ≡ 0 = rw (ne_eqb _ 0 some) in
      let over : after p Return (f ∷ r) ≡ r = ap (λ (m : Moved Stack). m.state) (step_does false p Return (f ∷ r) free) in
      record { count = rw over (omega (arith, n.count)); known = rw over n.known.1; reached = moved Return n.reached refl free }

  pub nested : (states : List (List ℕ)) (st : Stack) → PassedLived p states st → Nest p states st
  nested _ _ zeros = record { count = refl; known = (fresh_pictures p, tt); reached = fresh }
  nested _ _ (call {s} {kept} {st} g left l h) =
      let n : Nest p (s ∷ kept) st = nested (s ∷ kept) st l in
      let over : after p (Call g) st ≡ called p g st ∷ st = call_over p g st (unbarred s st n.known.0 (Call g) left h) in
      record {
        count = rw over (ap suc n.count);
        known = ((follows s st n.known.0 (Call g) left h).pictures, rw over n.known);
        reached = now_reached s st n.known.0 (Call g) left h n.reached;
      }
  nested _ _ (enable {s} {kept} {st} t left l h) = marked s kept st (nested (s ∷ kept) st l) (Enable t) refl left h
  nested _ _ (disable {s} {kept} {st} t left l h) = marked s kept st (nested (s ∷ kept) st l) (Disable t) refl left h
  nested _ _ (revert {s} {kept} {st} t left l h) = marked s kept st (nested (s ∷ kept) st l) (Revert t) refl left h
  nested _ _ (back {s} {caller} {kept} {st} l) = returned s caller kept st (nested (s ∷ caller ∷ kept) st l)

-- an operation on words that number 14 lets through is refused by 8 at most
pub refusal_number : (p : Policy) (s : Passed) (op : Operation) → valid p ≡ true → fits p s ≡ true
    → refused_by p s op ≡ first (outside_of p op) (barred s.depth op)
unfolding refused_by
refusal_number p s op v f = rw (eq-eqb _ 0 (not_refused_with p (fits p s) v f))

first_most : (n m k : ℕ) → n ≤ k → m ≤ k → first n m ≤ k
first_most n m k h l = at_most (eqb n 0) l h

-- where neither 13 nor 14 refuses an operation, policy and words have passed them
pub unrefused : (p : Policy) (s : List ℕ) (op : Operation) (n : ℕ) → n ≡ refused_by p (passed_in s) op → n ≢ bad_policy → n ≢ bad_state
    → fits p (passed_in s) ≡ true
unfolding refused_by
unrefused p s op n e no_13 no_14 = go (eqb (refusal_in p (fits p (passed_in s))) 0) refl e
  where
    go : (b : Bool) → eqb (refusal_in p (fits p (passed_in s))) 0 ≡ b
        → n ≡ cond b (first (outside_of p op) (barred (passed_in s).depth op)) (refusal_in p (fits p (passed_in s))) → fits p (passed_in s) ≡ true
    go true q k = (let_in_with p (fits p (passed_in s)) (eqb-true _ 0 q)).1
    go false q k = (refused_by_lem p (fits p (passed_in s)) n k no_13 no_14).1

-- the number is the definition's: within the policy the step's, outside it 5 or 6
module _ (p : Policy) (v : valid p ≡ true) (s : List ℕ) (st : Stack) (f : fits p (passed_in s) ≡ true) where
  few : (op : Operation) → refused_by p (passed_in s) op ≤ 8
  few op =
      rw (refusal_number p (passed_in s) op v f)
      (first_most (outside_of p op) (barred (passed_in s).depth op) 8 (omega (arith, outside_most (signers p) (targets p) op))
      (barred_most (passed_in s).depth op))

  -- what it is outside
  beyond : (op : Operation) → outside_of p op ≢ 0 → refused_by p (passed_in s) op ≡ outside_of p op
  beyond op nz = refusal_number p (passed_in s) op v f ∙ rw (ne_eqb _ 0 nz)

  pub numbered : (op : Operation) (n : ℕ) → n ≡ refused_by p (passed_in s) op → (outside_of p op ≡ 0 → n ≡ (step false p op st).number)
      → Numbered (asked p op st) n
  numbered op n e within =
      let low : n ≤ 8 = rw e (few op) in
      record { number = go (eqb (outside_of p op) 0) refl; never_13 = omega arith; never_14 = omega arith }
    where
      go : (b : Bool) → eqb (outside_of p op) 0 ≡ b → n ≡ (cond b (step false p op st) (refused (outside_of p op) st)).number
      go true i = within (eqb-true _ 0 i)
      go false i = e ∙ beyond op (eqb-false _ 0 i)

  pub answered : (t : Target) (n lent byte : ℕ) → n ≡ refused_by p (passed_in s) (Check t) → Asks p s t n lent byte
      → (outside_of p (Check t) ≡ 0 → Says n lent byte (step false p (Check t) st)) → Answered (asked p (Check t) st) lent n byte
  answered t n lent byte e h within =
      record { numbered = numbered (Check t) n e (λ i. (within i).number); answer = go (eqb (outside_of p (Check t)) 0) refl }
    where
      go : (b : Bool) → eqb (outside_of p (Check t)) 0 ≡ b
          → byte ≡ cond (eqb n 0) (cond b (step false p (Check t) st) (refused (outside_of p (Check t)) st)).byte lent
      go true i = let w = within (eqb-true _ 0 i) in rw w.number w.answer
      go false i =
          let nz : n ≢ 0 = λ z. eqb-false _ 0 i (sym (beyond (Check t) (eqb-false _ 0 i)) ∙ sym e ∙ z) in
          h.answer ∙ rw (← e, ne_eqb n 0 nz)
