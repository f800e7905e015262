-- The frames looked at are at most the frames there are, so the count fits beside the kind; and an engine that does not count gives the same kinds. Assumes
-- nothing.
use mathlib.Core.Path.{◌≡◌, refl}
use mathlib.Core.Bool.{Bool, true, false, cond}
use mathlib.Core.List.{List, [], ◌∷◌, map}
use Prim.Native.Nat.{ℕ, suc, ◌+◌, ◌*◌, ◌/◌, ◌≤◌}
use native.Mathlib.Omega.{arith}
use lib.Dec.{eqb}
use lib.ListN.{length, length-map}
use Rattle.bits.specs.Bit.{bit}
use Rattle.answers.specs.Answer.{kind_only}
use Rattle.answers.specs.Account.{Account, told}
use Rattle.answers.proofs.Alike.{Alike, guarded_alike}
use Rattle.words.specs.declared.Operation.{Operation}
use Rattle.words.specs.declared.Operation.TheVariants.{Call, Return, Enable, Disable, Revert, Check}
use Rattle.words.specs.Words.{barred}
use Rattle.words.proofs.Words.{room_above}
use Rattle.beliefs.specs.declared.Marked.{Marked}
use Rattle.beliefs.specs.declared.Seen.{Seen}
use Rattle.beliefs.specs.Policy.{Policy, Target, permits}
use Rattle.beliefs.specs.Stack.{Frame, Stack, marked, walk, granted, decides, goes_on}
use Rattle.beliefs.specs.Trace.{by_newest, does, step, run_refusal, run}
use Rattle.beliefs.proofs.Runs.{turned, runs_alike, Answered, run_answers, barring_answers}

looked_step : (q e d : Bool) (v : Seen) (n : ℕ) → v.looked ≤ n
    → (cond q (cond e (decides true) (cond d (decides false) (goes_on v))) (decides false)).looked ≤ suc n
looked_step false e d v n h = omega arith
looked_step true true d v n h = omega arith
looked_step true false true v n h = omega arith
looked_step true false false v n h = omega arith

pub looked_le : (p : Policy) (t : Target) (ms : List Marked) → (walk p t ms).looked ≤ length ms
unfolding walk
looked_le p t [] = omega arith
looked_le p t (m ∷ ms) =
    looked_step (permits p m.signer t) (bit m.enabled t) (bit m.disabled t) (walk p t ms) (length ms) (looked_le p t ms)

-- the same stack, of at most 63 frames
pub record Low (st su : Stack) : Type 0 where
  pub same : st ≡ su
  pub room : length su ≤ 63

abbrev pub Uncounted : (op : Operation) (p : Policy) (st : Stack) → Type 0
Uncounted op p st = Alike Low kind_only (does false p op st) (does true p op st)

module _ (p : Policy) where
  by_newest_lem : (g : Frame → Frame) (st : Stack) → length st ≤ 63 → length (by_newest g st) ≤ 63
  by_newest_lem g [] h = h
  by_newest_lem g (f ∷ r) h = h

  does_uncounted : (op : Operation) (st : Stack) → length st ≤ 63 → barred (length st) op ≡ 0 → Uncounted op p st
  unfolding does
  does_uncounted (Call s) st h z = record { number = refl; byte = refl; states = record { same = refl; room = room_above (length st) s z } }
  does_uncounted Return [] h z = record { number = refl; byte = refl; states = record { same = refl; room = h } }
  does_uncounted Return (f ∷ r) h z = record { number = refl; byte = refl; states = record { same = refl; room = omega arith } }
  does_uncounted (Enable t) st h z = record { number = refl; byte = refl; states = record { same = refl; room = by_newest_lem _ st h } }
  does_uncounted (Disable t) st h z = record { number = refl; byte = refl; states = record { same = refl; room = by_newest_lem _ st h } }
  does_uncounted (Revert t) st h z = record { number = refl; byte = refl; states = record { same = refl; room = by_newest_lem _ st h } }
  does_uncounted (Check t) st h z =
      let few : (walk p t (map marked st)).looked ≤ 63 = omega (arith, looked_le p t (map marked st), length-map st marked) in
      record { number = refl; byte = kind (granted p t st) _ few; states = record { same = refl; room = h } }
    where
      kind : (v : Bool) (n : ℕ) → n ≤ 63 → cond v 1 2 * 64 + 0 ≡ kind_only (cond v 1 2 * 64 + n)
      kind v n l = omega arith

  step_uncounted : (op : Operation) (st su : Stack) → Low st su → Alike Low kind_only (step false p op st) (step true p op su)
  step_uncounted op st su h =
      rw h.same (guarded_alike Low kind_only refl (record { same = refl; room = h.room }) (barred (length su) op) (does_uncounted op su h.room))

-- every trace, with any room: the same number and figure, and the same kinds
pub run_uncounted : (p : Policy) (trace : List ℕ) (room : ℕ) → run false p trace room ≡ turned kind_only (run true p trace room)
unfolding run
run_uncounted p trace room =
    go (run_refusal p (length trace) room) (eqb (run_refusal p (length trace) room) 0) _ _
    (runs_alike (step false) (step true) p Low kind_only refl (step_uncounted p) 0 trace [] [] (record { same = refl; room = omega arith }))
  where
    go : (n : ℕ) (e : Bool) (x y : Account) → x ≡ turned kind_only y → cond e x (told n 0) ≡ turned kind_only (cond e y (told n 0))
    go n true x y q = q
    go n false x y q = refl

pub run_answered : (counts : Bool) (p : Policy) (trace : List ℕ) (room : ℕ) → Answered (length trace / 2) 0 (run counts p trace room)
unfolding run
run_answered counts p trace room = barring_answers _ (run_refusal p (length trace) room) _ (run_answers (step counts) p 0 trace [])
