-- A lent state that lives from zeros by accepted words pictures the definition's stack, which is reached; so number 13 and 14 never come, and each
-- answer is the definition's. Assumes nothing.
use mathlib.Core.Path.{◌≡◌, refl, sym, ap, ◌∙◌}
use mathlib.Core.Bool.{Bool, true, false, cond}
use mathlib.Core.List.{List, [], ◌∷◌, map}
use mathlib.Core.Logic.{◌≢◌}
use Prim.Native.Nat.{ℕ, ◌≤◌, ◌<◌}
use native.Mathlib.Omega.{arith}
use lib.Dec.{eqb}
use lib.ListN.{length, replicate}
use borrow.Author.Tests.{lt-ltb, eqb-true, ne_eqb}
use Rattle.answers.specs.Numbers.{bad_policy, bad_state}
use Rattle.answers.specs.Answer.{Moved, verdict_byte}
use Rattle.words.specs.declared.Operation.TheVariants.{Check}
use Rattle.words.specs.Words.{Decoded, Word, Refused}
use Rattle.words.specs.Words.{word_operation, word_signer, word_target, word_spare, operation_of, stray_in, outside, barred, decoded, number_of}
use Rattle.words.proofs.Words.{Fair, decoded_fair, decoded_most, barred_most}
use Rattle.beliefs.specs.Policy.{Policy, Target, signers, targets, valid, refusal_in, reading}
use Rattle.beliefs.specs.Stack.{Frame, Stack, granted, marked, walk}
use Rattle.beliefs.specs.Trace.{does, step, served}
use Rattle.beliefs.specs.Engine.{Engine, acts, worded, Answers, Operate}
use Rattle.beliefs.proofs.Engine.{step_number, step_state}
use Rattle.beliefs.proofs.Policy.{let_in_with, refused_by_lem}
use Rattle.demands.specs.Live.{Reached, fresh, moved, outcome, asked, next, Lived, zeros, word, Live, Answered, check_word}

-- a word refuses by 8 at most
served_number : (counts : Bool) (p : Policy) (st : Stack) (d : Decoded) → number_of d ≤ 6 → (served (step counts p) d st).number ≤ 8
served_number counts p st (Word x) h = rw (step_number counts p x.op st) (barred_most (length st) x.op)
served_number counts p st (Refused n) h = omega arith

pub outcome_number : (counts : Bool) (p : Policy) (w : ℕ) (st : Stack) → (outcome counts p w st).number ≤ 8
outcome_number counts p w st = served_number counts p st (reading p w 0) (decoded_most (signers p) (targets p) w 0)

-- whether frames are counted or not, it has one number, and leads to one stack
pub one_number : (counts other : Bool) (p : Policy) (st : Stack) (d : Decoded) → (served (step counts p) d st).number ≡ (served (step other p) d st).number
one_number counts other p st (Word x) = step_number counts p x.op st ∙ sym (step_number other p x.op st)
one_number counts other p st (Refused n) = refl

served_state : (counts : Bool) (p : Policy) (st : Stack) (d : Decoded) → (served (step counts p) d st).state ≡ (served (step false p) d st).state
served_state counts p st (Word x) = step_state counts p x.op st false
served_state counts p st (Refused n) = refl

-- the word of a check is decoded as one
pub check_decoded : (p : Policy) (t : Target) → t < targets p → targets p ≤ 64 → reading p (check_word t) 0 ≡ Word (record { op = Check t; index = 0 })
unfolding decoded stray_in outside operation_of
check_decoded p t l few =
    let operation : word_operation (check_word t) ≡ 5 = omega arith in
    let signer : word_signer (check_word t) ≡ 0 = omega arith in
    let target : word_target (check_word t) ≡ t = omega arith in
    let spare : word_spare (check_word t) ≡ 0 = omega arith in
    rw (operation, signer, target, spare, lt-ltb t (targets p) l)

-- and answered with the verdict of the belief sets
pub check_answered : (counts : Bool) (p : Policy) (f : Frame) (r : Stack) (t : Target) → t < targets p → targets p ≤ 64
    → (lent n byte : ℕ) → Answered (outcome counts p (check_word t) (f ∷ r)) lent n byte
    → (n ≡ 0) × (byte ≡ verdict_byte (granted p t (f ∷ r)) (cond counts (walk p t (map marked (f ∷ r))).looked 0))
unfolding does barred
check_answered counts p f r t l few lent n byte a =
    let some : length (f ∷ r) ≢ 0 = omega arith in
    let same : outcome counts p (check_word t) (f ∷ r) ≡ does counts p (Check t) (f ∷ r) =
    ap (λ (d : Decoded). served (step counts p) d (f ∷ r)) (check_decoded p t l few) ∙ rw (ne_eqb _ 0 some) in
    let accepted : n ≡ 0 = a.numbered.number ∙ ap (λ (m : Moved Stack). m.number) same in
    (accepted, a.answer ∙ rw (accepted, same))

-- by the passed state likewise, which does not count
pub asked_answered : (p : Policy) (f : Frame) (r : Stack) (t : Target) → t < targets p → (lent n byte : ℕ) → Answered (asked p (Check t) (f ∷ r)) lent n byte
    → (n ≡ 0) × (byte ≡ verdict_byte (granted p t (f ∷ r)) 0)
unfolding does outside barred
asked_answered p f r t l lent n byte b =
    let some : length (f ∷ r) ≢ 0 = omega arith in
    let a = rw (lt-ltb t (targets p) l, ne_eqb (length (f ∷ r)) 0 some) at b in
    let accepted : n ≡ 0 = a.numbered.number in
    (accepted, a.answer ∙ rw accepted)

module _ (e : Engine) (p : Policy) where
  -- where neither 13 nor 14 refuses a word, policy and state have passed them
  pub unrefused : (s : List ℕ) (w n : ℕ) → n ≡ (worded e p w s).number → n ≢ bad_policy → n ≢ bad_state → (valid p ≡ true) × (e.fits p s ≡ true)
  unfolding worded
  unrefused s w n q no_13 no_14 = go (eqb (refusal_in p (e.fits p s)) 0) refl q
    where
      go : (b : Bool) → eqb (refusal_in p (e.fits p s)) 0 ≡ b
          → n ≡ (cond b (served (acts e p) (reading p w 0) s) (record { number = refusal_in p (e.fits p s); byte = 0; state = s })).number
          → (valid p ≡ true) × (e.fits p s ≡ true)
      go true z k = let_in_with p (e.fits p s) (eqb-true _ 0 z)
      go false z k = refused_by_lem p (e.fits p s) n k no_13 no_14

  -- an engine with a lent state: its zeros picture no frame, and what pictures a stack passes number 14
  module _ (v : valid p ≡ true) (begins : e.Pictures p (replicate e.size 0) [])
      (fitting : (s : List ℕ) (st : Stack) → e.Pictures p s st → e.fits p s ≡ true) where
    -- an accepted word leads from a stack that is reached to another
    reaches : (st : Stack) (d : Decoded) → Fair (signers p) (targets p) d → (served (step e.counts p) d st).number ≡ 0 → Reached p st
        → Reached p (served (step false p) d st).state
    reaches st (Word x) f z r = moved x.op r f (sym (step_number e.counts p x.op st) ∙ z)
    reaches st (Refused n) f z r = absurd (f z)

    pub live : (s : List ℕ) (st : Stack) → Lived e p s st → Live (e.Pictures p) (e.fits p) p s st
    live _ _ zeros = record { let_through = fitting (replicate e.size 0) [] begins; pictures = begins; reached = fresh }
    live _ _ (word {s} {st} w lent byte left l h) =
        let was : Live (e.Pictures p) (e.fits p) p s st = live s st l in
        let now : Answers e p lent 0 byte left (outcome e.counts p w st) = h.answers v was.let_through st was.pictures in
        let pictures : e.Pictures p left (next p w st) = rw (served_state e.counts p st (reading p w 0)) at now.pictures in
        record {
          let_through = fitting left (next p w st) pictures;
          pictures = pictures;
          reached = reaches st (reading p w 0) (decoded_fair (signers p) (targets p) w 0) (sym now.number) was.reached;
        }

    pub answered : (s : List ℕ) (st : Stack) → Lived e p s st → (w lent n byte : ℕ) (left : List ℕ) → Operate e p s w lent n byte left
        → Answered (outcome e.counts p w st) lent n byte
    answered s st l w lent n byte left h =
        let is : Live (e.Pictures p) (e.fits p) p s st = live s st l in
        let now : Answers e p lent n byte left (outcome e.counts p w st) = h.answers v is.let_through st is.pictures in
        let few : n ≤ 8 = rw now.number (outcome_number e.counts p w st) in
        record { numbered = record { number = now.number; never_13 = omega arith; never_14 = omega arith }; answer = rw now.number now.answer }
