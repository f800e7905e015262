-- An operation on the four words of a passed state serves the belief sets: where it leads pictures the stack after it, and passes number 14; a refusal
-- leaves both as they were. Assumes nothing.
use mathlib.Core.Path.{◌≡◌, refl, sym, ◌∙◌}
use mathlib.Core.Bool.{Bool, true, false, cond}
use mathlib.Core.List.{List}
use Prim.Native.Nat.{ℕ}
use lib.Dec.{eqb}
use lib.ListN.{length}
use borrow.Author.Tests.{eqb-true}
use Rattle.bits.proofs.Laws.{never}
use Rattle.words.specs.declared.Operation.{Operation}
use Rattle.words.specs.declared.Operation.TheVariants.{Call, Return, Enable, Disable, Revert, Check}
use Rattle.words.specs.Words.{barred}
use Rattle.answers.specs.Answer.{verdict_byte}
use Rattle.beliefs.specs.Policy.{Policy, valid, outside_of}
use Rattle.beliefs.specs.Stack.{Stack}
use Rattle.beliefs.specs.Trace.{step}
use Rattle.beliefs.proofs.Engine.{step_number, step_refused}
use Rattle.passed.specs.Fits.{fits}
use Rattle.passed.specs.Does.{Refused, passed_in, words_of, check_of, guarding, led_to, refused_by, operate_of}
use Rattle.passed.specs.Pictures.{Pictures, Goes}
use Rattle.passed.proofs.Fits.{Fit}
use Rattle.passed.proofs.Live.{operate_fits, operates}
use Rattle.galmuvesh.specs.Boundary.{after, returns, Follows, Moves, Says, Asks}

-- an operation of the newest frame, on the four words: refused, it leaves words and stack; else the words after it picture the stack after it
led : (p : Policy) (s : List ℕ) (op : Operation) (st : Stack) → returns op ≡ false → Goes p st (step false p op st) (led_to p (passed_in s) op)
    → Follows p 0 (words_of (after p (passed_in s) op)) (step false p op st)
unfolding led_to
led p s (Call g) st e x = record { number = sym x.number; pictures = x.pictures }
led p s Return st e x = never e
led p s (Enable t) st e x = record { number = sym x.number; pictures = x.pictures }
led p s (Disable t) st e x = record { number = sym x.number; pictures = x.pictures }
led p s (Revert t) st e x = record { number = sym x.number; pictures = x.pictures }
led p s (Check t) st e x = record { number = sym x.number; pictures = x.pictures }

module _ (p : Policy) (s : List ℕ) (st : Stack) (h : Pictures p (passed_in s) st) (n : ℕ) where
  follows : (op : Operation) → returns op ≡ false → (e : Bool) → eqb n 0 ≡ e → Goes p st (step false p op st) (cond e (led_to p (passed_in s) op) (Refused n))
      → Follows p n (cond e (words_of (after p (passed_in s) op)) s) (step false p op st)
  follows op r true q g = rw (eqb-true n 0 q) (led p s op st r g)
  follows op r false q g =
      let is : n ≡ barred (length st) op = g.number ∙ step_number false p op st in
      record { number = g.number; pictures = rw (step_refused false p op st (λ z. g.refused (is ∙ z))) h }

  says : (t lent : ℕ) (e : Bool) → eqb n 0 ≡ e → Goes p st (step false p (Check t) st) (cond e (led_to p (passed_in s) (Check t)) (Refused n))
      → Says n lent (cond e (verdict_byte (check_of p (passed_in s) t) 0) lent) (step false p (Check t) st)
  unfolding led_to
  says t lent true q g = record { number = eqb-true n 0 q ∙ sym g.number; answer = rw g.number g.byte }
  says t lent false q g = record { number = g.number; answer = rw (← g.number, q) }

module _ (p : Policy) (s : List ℕ) where
  goes : (op : Operation) → valid p ≡ true → outside_of p op ≡ 0 → (st : Stack) → Pictures p (passed_in s) st
      → Goes p st (step false p op st) (guarding (refused_by p (passed_in s) op) (led_to p (passed_in s) op))
  unfolding operate_of
  goes op v i st h = operates p (passed_in s) op v i st h

  -- what is exactly given keeps the promise of call, enable, disable and revert
  pub moves_by : (op : Operation) → returns op ≡ false → (n : ℕ) (left : List ℕ) → n ≡ refused_by p (passed_in s) op
      → left ≡ cond (eqb n 0) (words_of (after p (passed_in s) op)) s → Moves p s op n left
  moves_by op r n left a b = rw a (record {
    number = refl;
    state = rw a at b;
    serves = λ v i st h. rw (b, a) (follows p s st h (refused_by p (passed_in s) op) op r (eqb (refused_by p (passed_in s) op) 0) refl (goes op v i st h));
  })

  -- and that of check
  pub asks_by : (t n lent byte : ℕ) → n ≡ refused_by p (passed_in s) (Check t) → byte ≡ cond (eqb n 0) (verdict_byte (check_of p (passed_in s) t) 0) lent
      → Asks p s t n lent byte
  asks_by t n lent byte a b = rw a (record {
    number = refl;
    answer = rw a at b;
    serves = λ v i st h. rw (b, a) (says p s st h (refused_by p (passed_in s) (Check t)) t lent (eqb (refused_by p (passed_in s) (Check t)) 0) refl
        (goes (Check t) v i st h));
  })

-- an operation on words that number 14 lets through leaves such words
led_fit : (p : Policy) (s : List ℕ) (op : Operation) → returns op ≡ false → Fit p (led_to p (passed_in s) op) → fits p (after p (passed_in s) op) ≡ true
unfolding led_to
led_fit p s (Call g) e f = f
led_fit p s Return e f = never e
led_fit p s (Enable t) e f = f
led_fit p s (Disable t) e f = f
led_fit p s (Revert t) e f = f
led_fit p s (Check t) e f = f

pub moved_fits : (p : Policy) (s : List ℕ) (op : Operation) → returns op ≡ false → (left : List ℕ) → Moves p s op 0 left → fits p (passed_in left) ≡ true
unfolding operate_of
moved_fits p s op r left h =
    let none : refused_by p (passed_in s) op ≡ 0 = sym h.number in
    rw (h.state, none) (led_fit p s op r (rw none at (operate_fits p (passed_in s) op)))

pub moved_stays : (p : Policy) (s : List ℕ) (op : Operation) → returns op ≡ false → (n : ℕ) (left : List ℕ) → Moves p s op n left → fits p (passed_in s) ≡ true
    → fits p (passed_in left) ≡ true
moved_stays p s op r n left h f = go (eqb n 0) refl
  where
    go : (e : Bool) → eqb n 0 ≡ e → fits p (passed_in left) ≡ true
    go true q = moved_fits p s op r left (rw (eqb-true n 0 q) at h)
    go false q = rw (h.state, ← h.number, q) f
