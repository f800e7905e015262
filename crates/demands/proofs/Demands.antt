-- The three demands. Each theorem stands under the mission's sentence that it answers, and ends at functions of the C boundary: it speaks of what
-- they promise (specs/Exported.antt), of document 01's definitions, and of what each engine's crate says of its own state (`fits`: number 14;
-- `Pictures`; `frames`). Assumes nothing.
use mathlib.Core.Path.{◌≡◌, refl, sym, ap, ◌∙◌}
use mathlib.Core.Logic.{◌≢◌}
use mathlib.Core.Bool.{Bool, true, false}
use mathlib.Core.List.{List, ◌∷◌, map}
use Prim.Native.Nat.{ℕ, suc, ◌+◌, ◌*◌, ◌/◌, ◌%◌, ◌≤◌, ◌<◌}
use native.Mathlib.Omega.{arith}
use lib.ListN.{length, length-map, get_or, take}
use lib.Seq.{sets}
use borrow.Author.Tests.{eq-eqb, ne_eqb}
use Rattle.answers.specs.Answer.{kind_of, verdict_byte}
use Rattle.words.specs.declared.Operation.{Operation}
use Rattle.words.specs.declared.Operation.TheVariants.{Check}
use Rattle.words.specs.Words.{Decoded, Word}
use Rattle.words.proofs.Words.{decoded_fair}
use Rattle.beliefs.specs.Policy.{Policy, Target, signers, targets, valid, outside_of, reading, read_number}
use Rattle.beliefs.specs.Stack.{Frame, Stack, marked, granted, walk}
use Rattle.beliefs.specs.Trace.{step, served}
use Rattle.beliefs.specs.Derivation.{judged}
use Rattle.beliefs.specs.Engine.{Answers, Operate}
use Rattle.beliefs.proofs.Counts.{looked_le}
use Rattle.beliefs.proofs.Engine.{step_number}
use Rattle.beliefs.proofs.Policy.{ranges, not_refused_with}
use Rattle.policy.specs.Read.{PolicyRead, Bytes}
use Rattle.policy.proofs.RoundTrip as round
use Rattle.walk.specs.Layout.{frames}
use Rattle.walk.specs.Fits as walks
use Rattle.walk.specs.Pictures as stacks
use Rattle.walk.specs.Pictures.{by_walk}
use Rattle.walk.proofs.Agree.{agree}
use Rattle.walk.proofs.Fits as walk_fits
use Rattle.walk.proofs.Kept as walk_kept
use Rattle.walk.proofs.Live as walk_live'
use Rattle.record.specs.Fits as records
use Rattle.record.specs.Pictures as chains
use Rattle.record.specs.Pictures.{by_record}
use Rattle.record.proofs.Fits as record_fits
use Rattle.record.proofs.Kept as record_kept
use Rattle.record.proofs.Live as record_live'
use Rattle.passed.specs.Fits.{fits}
use Rattle.passed.specs.Does.{passed_in, fresh}
use Rattle.passed.specs.Pictures.{Framed, Pictures}
use Rattle.passed.proofs.Fits.{fits_fresh, fits_framed, pictured_fits}
use Rattle.runner.specs.Equal.{OneVerdict}
use Rattle.runner.proofs.Equal.{three_runs}
use Rattle.derivation.specs.Promise.{checking}
use Rattle.derivation.proofs.Demand.{unbarred}
use Rattle.galmuvesh.specs.Boundary.{report, returns, Moves, Asks}
use Rattle.galmuvesh.proofs.Passing as passing
use Rattle.demands.specs.Exported.{PolicyWrote, Ran, DerivationWrote, DerivationChecked}
use Rattle.demands.specs.Live.{outcome, asked, Lived, PassedLived, Live, Numbered, Answered, check_word}
use Rattle.demands.specs.Shown.{Settled}
use Rattle.demands.proofs.Refused.{walk_accepts, record_accepts, word_leaves, run_bytes, nothing_written, policy_silent, derivation_silent}
use Rattle.demands.proofs.Live as live
use Rattle.demands.proofs.Nested as nested
use Rattle.demands.proofs.Shown as showing

-- 1. "Every policy, trace, state and derivation, damaged or invented, gets an answer, and every run ends." Each function of the C boundary is total:
-- its promise has no premise, and the check proves that it returns. What it answers is a definition's value at those very arguments: `read_number`,
-- `cut_at`, `writing`, `run`, `worded`, `refused_by`, `checking`, `writing` of a derivation.

-- "A refused operation changes no state": neither a word of it nor the answer byte, whichever number refuses it.
pub walk_refused : (p : Policy) (s : List ℕ) (w lent n byte : ℕ) (left : List ℕ) → Operate by_walk p s w lent n byte left → n ≢ 0 → (left ≡ s) × (byte ≡ lent)
walk_refused p s w lent n byte left h nz = word_leaves by_walk p s (walk_accepts p s) w lent n byte left h nz

pub record_refused : (p : Policy) (s : List ℕ) (w lent n byte : ℕ) (left : List ℕ) → Operate by_record p s w lent n byte left → n ≢ 0
    → (left ≡ s) × (byte ≡ lent)
record_refused p s w lent n byte left h nz = word_leaves by_record p s (record_accepts p s) w lent n byte left h nz

pub passed_refused : (p : Policy) (s : List ℕ) (op : Operation) (n : ℕ) (left : List ℕ) → Moves p s op n left → n ≢ 0 → left ≡ s
passed_refused p s op n left h nz = h.state ∙ rw (ne_eqb _ 0 (λ e. nz (h.number ∙ e)))

pub passed_unanswered : (p : Policy) (s : List ℕ) (t : Target) (n lent byte : ℕ) → Asks p s t n lent byte → n ≢ 0 → byte ≡ lent
passed_unanswered p s t n lent byte h nz = h.answer ∙ rw (ne_eqb _ 0 (λ e. nz (h.number ∙ e)))

-- A refused reading leaves the value as it was lent.
pub read_refused : (bytes lent : List ℕ) (n : ℕ) (left : List ℕ) → PolicyRead bytes lent n left → n ≢ 0 → left ≡ lent
read_refused bytes lent n left h nz = h.value ∙ rw (ne_eqb (read_number bytes) 0 (λ e. nz (h.number ∙ e)))

-- "Document 01 says which bytes of a lent buffer are written, and no others are": a run writes as many answers as its figure says, at the front.
pub walk_run_writes : (p : Policy) (trace lent : List ℕ) (n figure : ℕ) (left : List ℕ) → Ran true p trace lent n figure left
    → (written : List ℕ) × (left ≡ sets lent 0 written) × (figure ≡ length written)
walk_run_writes p trace lent n figure left h = run_bytes true p trace lent left (report n figure) h

pub record_run_writes : (p : Policy) (trace lent : List ℕ) (n figure : ℕ) (left : List ℕ) → Ran false p trace lent n figure left
    → (written : List ℕ) × (left ≡ sets lent 0 written) × (figure ≡ length written)
record_run_writes p trace lent n figure left h = run_bytes false p trace lent left (report n figure) h

pub passed_run_writes : (p : Policy) (trace lent : List ℕ) (n figure : ℕ) (left : List ℕ) → Ran false p trace lent n figure left
    → (written : List ℕ) × (left ≡ sets lent 0 written) × (figure ≡ length written)
passed_run_writes = record_run_writes

-- A writer, of a policy or of a derivation, that refuses writes nothing.
pub policy_write_refused : (p : Policy) (lent : List ℕ) (n figure : ℕ) (left : List ℕ) → PolicyWrote p lent n figure left → n ≢ 0 → left ≡ lent
policy_write_refused p lent n figure left h nz = nothing_written lent left (report n figure) _ h (policy_silent p (length lent)) nz

pub derivation_write_refused : (p : Policy) (s : List ℕ) (t : Target) (lent : List ℕ) (n figure : ℕ) (left : List ℕ) → DerivationWrote p s t lent n figure left
    → n ≢ 0 → left ≡ lent
derivation_write_refused p s t lent n figure left h nz = nothing_written lent left (report n figure) _ h (derivation_silent p s t (length lent)) nz

-- 2. "In every trace each check's verdict is the one that the belief sets of Wallach and Felten give, as document 01 condenses them. Stack walk,
-- belief record and passed state all give it, and the walk's number of frames looked at is the definition's." In a run: `run` answers each check by
-- `granted`, the belief sets, and by the walk's count; the three report one such account.
pub one_verdict : (p : Policy) (trace lent : List ℕ) (n m k figure figure' figure'' : ℕ) (of_walk of_record of_passed : List ℕ)
    → Ran true p trace lent n figure of_walk → Ran false p trace lent m figure' of_record → Ran false p trace lent k figure'' of_passed
    → OneVerdict p trace lent (report n figure) (report m figure') (report k figure'') of_walk of_record of_passed
one_verdict p trace lent n m k figure figure' figure'' of_walk of_record of_passed =
    three_runs p trace lent (report n figure) (report m figure') (report k figure'') of_walk of_record of_passed

-- On any state, however it came about: where neither 13 nor 14 refuses a word, the state pictures some stack of the definition, and the word is
-- answered as the definition answers it there. Of four words of a passed state: they are those of no frame, or of a frame as document 01 allows one.
pub walk_on_any : (p : Policy) (s : List ℕ) (w lent n byte : ℕ) (left : List ℕ) → Operate by_walk p s w lent n byte left → n ≢ 13 → n ≢ 14
    → (st : Stack) × stacks.Pictures p s st × Answers by_walk p lent n byte left (outcome true p w st)
walk_on_any p s w lent n byte left h no_13 no_14 =
    let let_through = live.unrefused by_walk p s w n h.exact.number no_13 no_14 in
    let some = walk_live'.pictured p s let_through.0 let_through.1 in
    (some.0, some.1, h.answers let_through.0 let_through.1 some.0 some.1)

pub record_on_any : (p : Policy) (s : List ℕ) (w lent n byte : ℕ) (left : List ℕ) → length s ≡ 4096 → Operate by_record p s w lent n byte left → n ≢ 13 → n ≢ 14
    → (st : Stack) × chains.Pictures p s st × Answers by_record p lent n byte left (outcome false p w st)
record_on_any p s w lent n byte left long h no_13 no_14 =
    let let_through = live.unrefused by_record p s w n h.exact.number no_13 no_14 in
    let some = record_live'.pictured p s long let_through.1 in
    (some.0, some.1, h.answers let_through.0 let_through.1 some.0 some.1)

pub passed_on_any : (p : Policy) (s : List ℕ) (op : Operation) (n : ℕ) (left : List ℕ) → Moves p s op n left → n ≢ 13 → n ≢ 14
    → (get_or s 0 0 ≡ 0 → passed_in s ≡ fresh) × (get_or s 0 0 ≢ 0 → Framed p (passed_in s))
passed_on_any p s op n left h no_13 no_14 =
    let let_through = nested.unrefused p s op n h.number no_13 no_14 in
    (λ d. fits_fresh p (passed_in s) let_through d, λ d. fits_framed p (passed_in s) let_through d)

pub passed_asked_on_any : (p : Policy) (s : List ℕ) (t : Target) (n lent byte : ℕ) → Asks p s t n lent byte → n ≢ 13 → n ≢ 14
    → (get_or s 0 0 ≡ 0 → passed_in s ≡ fresh) × (get_or s 0 0 ≢ 0 → Framed p (passed_in s))
passed_asked_on_any p s t n lent byte h no_13 no_14 =
    let let_through = nested.unrefused p s (Check t) n h.number no_13 no_14 in
    (λ d. fits_fresh p (passed_in s) let_through d, λ d. fits_framed p (passed_in s) let_through d)

-- Live: an operation on a state that number 14 lets through leaves one that it lets through. (Of a passed state, each that has a function: a return
-- is the host's. A lent record has 4096 words, as its type says.)
pub walk_stays : (p : Policy) (s : List ℕ) (w lent n byte : ℕ) (left : List ℕ) → Operate by_walk p s w lent n byte left → walks.fits p s ≡ true
    → walks.fits p left ≡ true
walk_stays p s w lent n byte left h = walk_live'.operate_stays p s w lent n byte left h

pub record_stays : (p : Policy) (s : List ℕ) (w lent n byte : ℕ) (left : List ℕ) → length s ≡ 4096 → Operate by_record p s w lent n byte left
    → records.fits p s ≡ true → records.fits p left ≡ true
record_stays p s w lent n byte left long h = record_live'.operate_stays p s w lent n byte left long h

pub passed_stays : (p : Policy) (s : List ℕ) (op : Operation) (n : ℕ) (left : List ℕ) → returns op ≡ false → Moves p s op n left → fits p (passed_in s) ≡ true
    → fits p (passed_in left) ≡ true
passed_stays p s op n left r h f = passing.moved_stays p s op r n left h f

-- So under one valid policy: a state that lives from zeros by accepted operations is let through by number 14 and pictures the definition's stack,
-- which is reached; so no operation is then refused by 13 or 14, and every answer is the definition's.
module _ (p : Policy) (v : valid p ≡ true) where
  pub walk_live : (s : List ℕ) (st : Stack) → Lived by_walk p s st → Live (stacks.Pictures p) (walks.fits p) p s st
  walk_live = live.live by_walk p v (walk_kept.fresh p) (walk_fits.pictured_fits p)

  pub walk_answers : (s : List ℕ) (st : Stack) → Lived by_walk p s st → (w lent n byte : ℕ) (left : List ℕ) → Operate by_walk p s w lent n byte left
      → Answered (outcome true p w st) lent n byte
  walk_answers = live.answered by_walk p v (walk_kept.fresh p) (walk_fits.pictured_fits p)

  pub record_live : (s : List ℕ) (st : Stack) → Lived by_record p s st → Live (chains.Pictures p) (records.fits p) p s st
  record_live = live.live by_record p v (record_kept.fresh p) (record_fits.pictured_fits p)

  pub record_answers : (s : List ℕ) (st : Stack) → Lived by_record p s st → (w lent n byte : ℕ) (left : List ℕ) → Operate by_record p s w lent n byte left
      → Answered (outcome false p w st) lent n byte
  record_answers = live.answered by_record p v (record_kept.fresh p) (record_fits.pictured_fits p)

  -- The passed state, over a host's own nesting: it keeps a state for each frame below the newest, and the zeros, so that each return finds the
  -- caller's words. `op` is an operation that has a function there: call, enable, disable, revert.
  module _ (s : List ℕ) (kept : List (List ℕ)) (st : Stack) (l : PassedLived p (s ∷ kept) st) where
    pub passed_live : Live (λ words. Pictures p (passed_in words)) (λ words. fits p (passed_in words)) p s st
    passed_live = let n = nested.nested p v (s ∷ kept) st l in record {
      let_through = pictured_fits p (passed_in s) st n.known.0;
      pictures = n.known.0;
      reached = n.reached;
    }

    pub passed_kept : length kept ≡ length st
    passed_kept = omega (arith, (nested.nested p v (s ∷ kept) st l).count)

    pub passed_moves : (op : Operation) (n : ℕ) (left : List ℕ) → Moves p s op n left → Numbered (asked p op st) n
    passed_moves op n left h = nested.numbered p v s st passed_live.let_through op n h.number (λ i. (h.serves v i st passed_live.pictures).number)

    pub passed_answers : (t : Target) (n lent byte : ℕ) → Asks p s t n lent byte → Answered (asked p (Check t) st) lent n byte
    passed_answers t n lent byte h =
        nested.answered p v s st passed_live.let_through t n lent byte h.number h (λ i. h.serves v i st passed_live.pictures)

  -- Over one stack a word has one number by walk and record, and so has its operation on a passed state: the three accept together, and go on over
  -- one stack. (For a check there is `passed_verdict`; a return is the host's, which wherever there is a frame has a caller's words to go on with:
  -- `passed_kept`.)
  pub one_number_live : (st : Stack) (s q : List ℕ) → Lived by_walk p s st → Lived by_record p q st → (w lent n byte lent' m byte' : ℕ) (left left' : List ℕ)
      → Operate by_walk p s w lent n byte left → Operate by_record p q w lent' m byte' left' → n ≡ m
  one_number_live st s q h k w lent n byte lent' m byte' left left' a b =
      (walk_answers s st h w lent n byte left a).numbered.number ∙ live.one_number true false p st (reading p w 0)
      ∙ sym (record_answers q st k w lent' m byte' left' b).numbered.number

  pub passed_number_live : (st : Stack) (s x : List ℕ) (kept : List (List ℕ)) → Lived by_walk p s st → PassedLived p (x ∷ kept) st → (w : ℕ) (op : Operation)
      → reading p w 0 ≡ Word (record { op = op; index = 0 }) → (lent n byte k : ℕ) (left left' : List ℕ) → Operate by_walk p s w lent n byte left
      → Moves p x op k left' → k ≡ n
  passed_number_live st s x kept h l w op d lent n byte k left left' a b =
      let own : outside_of p op ≡ 0 = rw d at (decoded_fair (signers p) (targets p) w 0) in
      let answer : n ≡ (served (step true p) (Word (record { op = op; index = 0 })) st).number =
      (walk_answers s st h w lent n byte left a).numbered.number ∙ ap (λ (x : Decoded). (served (step true p) x st).number) d in
      (passed_moves x kept st l op k left' b).number ∙ rw (eq-eqb _ 0 own) (step_number false p op st ∙ sym (answer ∙ step_number true p op st))

  -- So the three give one verdict live, the belief sets', and the walk the definition's count with it.
  module _ (f : Frame) (r : Stack) (t : Target) (l : t < targets p) where
    abbrev verdict : Bool
    verdict = granted p t (f ∷ r)

    abbrev count : ℕ
    count = (walk p t (map marked (f ∷ r))).looked

    pub walk_verdict : (s : List ℕ) → Lived by_walk p s (f ∷ r) → (lent n byte : ℕ) (left : List ℕ) → Operate by_walk p s (check_word t) lent n byte left
        → (n ≡ 0) × (byte ≡ verdict_byte verdict count)
    walk_verdict s h lent n byte left o =
        live.check_answered true p f r t l (ranges p v).targets_most lent n byte (walk_answers s (f ∷ r) h (check_word t) lent n byte left o)

    pub record_verdict : (s : List ℕ) → Lived by_record p s (f ∷ r) → (lent n byte : ℕ) (left : List ℕ) → Operate by_record p s (check_word t) lent n byte left
        → (n ≡ 0) × (byte ≡ verdict_byte verdict 0)
    record_verdict s h lent n byte left o =
        live.check_answered false p f r t l (ranges p v).targets_most lent n byte (record_answers s (f ∷ r) h (check_word t) lent n byte left o)

    pub passed_verdict : (s : List ℕ) (kept : List (List ℕ)) → PassedLived p (s ∷ kept) (f ∷ r) → (lent n byte : ℕ) → Asks p s t n lent byte
        → (n ≡ 0) × (byte ≡ verdict_byte verdict 0)
    passed_verdict s kept h lent n byte o = live.asked_answered p f r t l lent n byte (passed_answers s kept (f ∷ r) h t n lent byte o)

    pub one_verdict_live : (s q x : List ℕ) (kept : List (List ℕ)) → Lived by_walk p s (f ∷ r) → Lived by_record p q (f ∷ r) → PassedLived p (x ∷ kept) (f ∷ r)
        → (lent n m k of_walk of_record of_passed : ℕ) (left left' : List ℕ)
        → Operate by_walk p s (check_word t) lent n of_walk left → Operate by_record p q (check_word t) lent m of_record left' → Asks p x t k lent of_passed
        → (n ≡ 0) × (m ≡ 0) × (k ≡ 0) × (of_walk ≡ verdict_byte verdict count) × (of_record ≡ verdict_byte verdict 0) × (of_passed ≡ verdict_byte verdict 0)
    one_verdict_live s q x kept h h' h'' lent n m k of_walk of_record of_passed left left' o o' o'' =
        let few = (ranges p v).targets_most in
        let walked = live.check_answered true p f r t l few lent n of_walk (walk_answers s (f ∷ r) h (check_word t) lent n of_walk left o) in
        let recorded = live.check_answered false p f r t l few lent m of_record (record_answers q (f ∷ r) h' (check_word t) lent m of_record left' o') in
        let passed = live.asked_answered p f r t l lent k of_passed (passed_answers x kept (f ∷ r) h'' t k lent of_passed o'') in
        (walked.0, recorded.0, passed.0, walked.1, recorded.1, passed.1)

-- "A policy has exactly one byte form, and comes back the same when written and read": bytes that are read as one value are the same bytes; what is
-- written for a value is read as that value, and bytes that are read are written again for the value that they gave. (A lent value has 35 words, as
-- its type says.)
pub one_form : (a b lent lent' value : List ℕ) → Bytes a → Bytes b → PolicyRead a lent 0 value → PolicyRead b lent' 0 value → a ≡ b
one_form a b lent lent' value h k x y =
    round.one_form a b h k (sym x.number) (sym y.number) (sym (round.value_of a lent value x) ∙ round.value_of b lent' value y)

pub comes_back : (p : Policy) (lent left : List ℕ) (figure : ℕ) → length p ≡ 35 → PolicyWrote p lent 0 figure left → (other value : List ℕ) (n : ℕ)
    → PolicyRead (take figure left) other n value → (n ≡ 0) × (value ≡ p)
comes_back p lent left figure long h other value n r = round.read_after_write p lent left (report 0 figure) long h refl other value n r

pub written_again : (bytes other value : List ℕ) → Bytes bytes → PolicyRead bytes other 0 value
    → (lent left : List ℕ) (n figure : ℕ) → length bytes ≤ length lent → PolicyWrote value lent n figure left → (n ≡ 0) × (take figure left ≡ bytes)
written_again bytes other value b r lent left n figure room h = round.write_after_read bytes other value 0 b r refl lent left (report n figure) room h

-- 3. "A verdict can be shown to a stranger. Our checker accepts just what document 01's rules allow." On a valid policy and a state that number 14
-- lets through, the checker answers as `judged` does of the state's frames: rule by rule, step by step.
pub checker_judges : (p : Policy) (s : List ℕ) (t : Target) (steps : List ℕ) (n figure : ℕ) → valid p ≡ true → walks.fits p s ≡ true
    → DerivationChecked p s t steps n figure
    → (n ≡ (judged p (frames s) t steps).number) × (figure ≡ (judged p (frames s) t steps).figure)
unfolding checking
checker_judges p s t steps n figure v f h = let a = rw (eq-eqb _ 0 (not_refused_with p (walks.fits p s) v f)) at h in (a.number, a.figure)

-- "Some derivation is accepted exactly when the check is granted, whoever wrote it. For each granted check we write one, of 3n + 1 steps when n
-- frames were looked at; it is accepted, and no shorter one is." In the state's own terms, of any state that number 14 lets through, with a frame and
-- a target of the policy: with the walk's verdict and count.
module _ (p : Policy) (s : List ℕ) (t : Target) (v : valid p ≡ true) (f : walks.fits p s ≡ true) (framed : get_or s 0 0 ≢ 0) (l : t < targets p) where
  pub shown_on_state : Settled p s t (walk p t (frames s)).looked (walk p t (frames s)).granted
  shown_on_state = showing.settled p s t (unbarred p s t v f framed l)

-- What the writer leaves where it returns 0, on any arguments, is accepted, and the checker's figure is the writer's: 3n + 1.
pub written_accepted : (p : Policy) (s : List ℕ) (t : Target) (lent : List ℕ) (figure : ℕ) (left : List ℕ) → DerivationWrote p s t lent 0 figure left
    → (n f : ℕ) → DerivationChecked p s t (take figure left) n f → (n ≡ 0) × (f ≡ figure) × (figure ≡ 3 * (walk p t (frames s)).looked + 1)
written_accepted p s t lent figure left h n f c =
    let a = showing.left_accepted p s t lent figure left h n f c in (a.0, a.1, showing.left_figure p s t lent figure left h)

-- "In any state reached from a fresh start under one policy, with a frame present and a target of that policy": the verdict is then the belief sets',
-- and the answer byte of the walk's check has both, the verdict in its kind and n in its count.
pub shown : (p : Policy) → valid p ≡ true → (s : List ℕ) (f : Frame) (r : Stack) → Lived by_walk p s (f ∷ r) → (t : Target) → t < targets p
    → (lent m byte : ℕ) (left : List ℕ) → Operate by_walk p s (check_word t) lent m byte left
    → (m ≡ 0) × (byte / 64 ≡ kind_of (granted p t (f ∷ r))) × Settled p s t (byte % 64) (granted p t (f ∷ r))
shown p v s f r h t l lent m byte left o =
    let is = walk_live p v s (f ∷ r) h in
    let deep : get_or s 0 0 ≡ suc (length r) = is.pictures.deep in
    let answer = live.check_answered true p f r t l (ranges p v).targets_most lent m byte (walk_answers p v s (f ∷ r) h (check_word t) lent m byte left o) in
    let few : (walk p t (map marked (f ∷ r))).looked ≤ 63 = omega (arith, looked_le p t (map marked (f ∷ r)), length-map (f ∷ r) marked, is.pictures.room) in
    let whole : byte ≡ kind_of (granted p t (f ∷ r)) * 64 + (walk p t (map marked (f ∷ r))).looked = answer.1 in
    let count : byte % 64 ≡ (walk p t (map marked (f ∷ r))).looked = omega arith in
    let kind : byte / 64 ≡ kind_of (granted p t (f ∷ r)) = omega arith in
    let walked_here : Settled p s t (walk p t (map marked (f ∷ r))).looked (walk p t (map marked (f ∷ r))).granted =
    rw is.pictures.same at (shown_on_state p s t v is.let_through (omega arith) l) in
    (answer.0, kind, rw (count, agree p t (f ∷ r) is.pictures.coherent) walked_here)
