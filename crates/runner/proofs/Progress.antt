-- How a run goes on: from nothing answered, word by word, a callee's run at a stretch, to where it stops. Assumes nothing.
use mathlib.Core.Path.{◌≡◌, refl, sym, ap, ap₂, ◌∙◌}
use mathlib.Core.Logic.{◌≢◌}
use mathlib.Core.Bool.{Bool, true, cond}
use mathlib.Core.List.{List, [], ◌∷◌, ◌++◌, append_assoc, append-nil}
use Prim.Native.Nat.{ℕ, suc, ◌+◌, ◌*◌, ◌/◌, ◌%◌, ◌≤◌, ◌<◌}
use native.Mathlib.Omega.{arith}
use native.Mathlib.Nat.{add-zero}
use native.Mathlib.Numerals.{add-one}
use lib.Dec.{eqb, ltb}
use lib.ListN.{length, get_or, drop, set, length-append, drop_of_length-le}
use lib.Seq.{drop-cons, sets}
use borrow.Author.Tests.{eq-eqb, ne_eqb, lt-ltb, eqb-true, ltb-false}
use Rattle.answers.specs.Numbers.{too_few, unless}
use Rattle.answers.specs.Answer.{Moved}
use Rattle.answers.specs.Account.{Account, told, before, Reports}
use Rattle.answers.proofs.Numbers.{held, neither, spared}
use Rattle.words.specs.declared.Operation.{Operation}
use Rattle.words.specs.Words.{Decoded, word_of, word_at}
use Rattle.beliefs.specs.Policy.{Policy, valid, refusal, reading}
use Rattle.beliefs.specs.Trace.{step, served, run_from, run_refusal, run}
use Rattle.beliefs.proofs.Lists.{sets_more}
use Rattle.beliefs.proofs.Policy.{let_in}
use Rattle.runner.specs.Progress.{decoded_at, Answered, Stopped}

-- answers, one after the other
before_more : (vs ws : List ℕ) (a : Account) → before vs (before ws a) ≡ before (vs ++ ws) a
before_more vs ws a = ap (λ (l : List ℕ). record { number = a.number; figure = a.figure; written = l }) (sym (append_assoc vs ws a.written))

-- the two bytes of a word
drop_word : (l : List ℕ) (i : ℕ) → 2 * i + 1 < length l → drop (2 * i) l ≡ (get_or l (2 * i) 0 ∷ get_or l (2 * i + 1) 0 ∷ drop (2 * suc i) l)
drop_word l i h =
    let e : 2 * i + 1 ≡ suc (2 * i) = omega arith in
    let e2 : 2 * suc i ≡ suc (suc (2 * i)) = omega arith in
    drop-cons l (2 * i) 0 (omega arith) ∙ ap (λ (t : List ℕ). get_or l (2 * i) 0 ∷ t) (drop-cons l (suc (2 * i)) 0 (omega arith))
    ∙ sym (ap₂ (λ (x y : ℕ). get_or l (2 * i) 0 ∷ get_or l x 0 ∷ drop y l) e e2)

module _ {S : Type 0} (act : Policy → Operation → S → Moved S) (p : Policy) (trace : List ℕ) where
  -- one word of the definition's run
  turn : (i : ℕ) (s : S) (d : Decoded) → 2 * i + 1 < length trace → d ≡ decoded_at p trace i
      → run_from act p i (drop (2 * i) trace) s
      ≡ cond (eqb (served (act p) d s).number 0)
      (before ((served (act p) d s).byte ∷ []) (run_from act p (suc i) (drop (2 * suc i) trace) (served (act p) d s).state))
      (told (served (act p) d s).number i)
  unfolding run_from
  turn i s d more e =
      let whole : i < length trace / 2 = omega arith in
      let there : word_at trace i ≡ word_of (get_or trace (2 * i) 0) (get_or trace (2 * i + 1) 0) = rw (lt-ltb i (length trace / 2) whole) in
      let read : d ≡ reading p (word_of (get_or trace (2 * i) 0) (get_or trace (2 * i + 1) 0)) i = e ∙ ap (λ (w : ℕ). reading p w i) there in
      ap (λ (l : List ℕ). run_from act p i l s) (drop_word trace i more) ∙ rw read

  pub none_yet : (lent : List ℕ) (s : S) (from : ℕ) → Answered act p trace lent s from from s lent
  none_yet lent s from = record { written = []; count = add-zero from; buffer = refl; total = refl }

  module _ (lent : List ℕ) (s : S) (from at : ℕ) (reached : S) (answers : List ℕ) (so_far : Answered act p trace lent s from at reached answers) where
    -- and then the run from there
    pub then_more : (to : ℕ) (last : S) (left : List ℕ) → Answered act p trace answers reached at to last left → Answered act p trace lent s from to last left
    then_more to last left m = record {
      written = so_far.written ++ m.written;
      count = omega (arith, length-append so_far.written m.written, so_far.count, m.count);
      buffer = m.buffer ∙ ap₂ (λ (l : List ℕ) (n : ℕ). sets l n m.written) so_far.buffer (sym so_far.count)
          ∙ sets_more lent from so_far.written m.written;
      total = so_far.total ∙ ap (before so_far.written) m.total ∙ before_more so_far.written m.written _;
    }

    pub then_stopped : (to number : ℕ) (left : List ℕ) → Stopped act p trace answers reached at to number left → Stopped act p trace lent s from to number left
    then_stopped to number left m = record {
      written = so_far.written ++ m.written;
      buffer = m.buffer ∙ ap₂ (λ (l : List ℕ) (n : ℕ). sets l n m.written) so_far.buffer (sym so_far.count)
          ∙ sets_more lent from so_far.written m.written;
      total = so_far.total ∙ ap (before so_far.written) m.total ∙ before_more so_far.written m.written _;
    }

    stops : (number : ℕ) → run_from act p at (drop (2 * at) trace) reached ≡ told number at → Stopped act p trace lent s from at number answers
    stops number e = then_stopped at number answers (record { written = []; buffer = refl; total = e })

    pub finished : length trace ≤ 2 * at → Stopped act p trace lent s from at 0 answers
    unfolding run_from
    finished h = stops 0 (ap (λ (l : List ℕ). run_from act p at l reached) (drop_of_length-le trace h))

    module _ (more : 2 * at + 1 < length trace) (d : Decoded) (e : d ≡ decoded_at p trace at) where
      pub refused : (number : ℕ) → number ≡ (served (act p) d reached).number → number ≢ 0 → Stopped act p trace lent s from at number answers
      refused number q nz = stops number (turn at reached d more e ∙ rw (← q, ne_eqb number 0 nz))

      pub one_more : (byte : ℕ) → (served (act p) d reached).number ≡ 0 → byte ≡ (served (act p) d reached).byte
          → Answered act p trace lent s from (at + 1) (served (act p) d reached).state (set answers at byte)
      one_more byte z q = rw (add-one at) (then_more (suc at) (served (act p) d reached).state (set answers at byte) (record {
        written = byte ∷ [];
        count = omega arith;
        buffer = refl;
        total = turn at reached d more e ∙ rw (eq-eqb (served (act p) d reached).number 0 z, ← q);
      }))

-- a run from a fresh start, barred before its first word or stopped
module _ (counts : Bool) (p : Policy) (trace lent : List ℕ) where
  pub at_once : (n : ℕ) → n ≡ run_refusal p (length trace) (length lent) → n ≢ 0
      → Reports (record { number = n; figure = 0 }) lent lent (run counts p trace (length lent))
  unfolding run
  at_once n e nz = rw (← e, ne_eqb n 0 nz) (record { number = refl; figure = refl; buffer = refl })

  pub not_barred : run_refusal p (length trace) (length lent) ≡ 0 → (valid p ≡ true) × (length trace % 2 ≡ 0) × (length trace / 2 ≤ length lent)
  unfolding run_refusal
  not_barred e =
      let a = neither (refusal p) _ e in
      let b = neither (unless (eqb (length trace % 2) 0) too_few) _ a.1 in
      let c = spared (ltb (length lent) (length trace / 2)) 8 0 b.1 in
      (let_in p a.0, eqb-true _ 0 (held (eqb (length trace % 2) 0) 0 b.0), ltb-false _ _ c.0)

  pub in_the_end : run_refusal p (length trace) (length lent) ≡ 0 → (at number : ℕ) (left : List ℕ) → Stopped (step counts) p trace lent [] 0 at number left
      → Reports (record { number = number; figure = at }) lent left (run counts p trace (length lent))
  unfolding run
  in_the_end e at number left s =
      let t : run_from (step counts) p 0 trace [] ≡ before s.written (told number at) = s.total in
      let w : s.written ++ [] ≡ s.written = append-nil s.written in
      rw (eq-eqb _ 0 e, t) (record { number = refl; figure = refl; buffer = rw w s.buffer })
