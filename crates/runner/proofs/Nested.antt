-- A frame's run by the passed state: its own words, and a callee's run at a stretch. Assumes nothing.
use mathlib.Core.Path.{◌≡◌, refl, sym, ◌∙◌}
use mathlib.Core.Logic.{◌≢◌, ◌⊎◌, ⊎_elim}
use mathlib.Core.Bool.{Bool, true, false}
use mathlib.Core.List.{List, []}
use Prim.Native.Nat.{ℕ, ◌+◌, ◌*◌, ◌≤◌, ◌<◌}
use native.Mathlib.Omega.{arith}
use lib.ListN.{length, set}
use Rattle.bits.proofs.Laws.{never}
use Rattle.words.specs.declared.Word.{Word as Held}
use Rattle.words.specs.Words.{Word, Refused as Bad}
use Rattle.beliefs.specs.Policy.{Policy}
use Rattle.beliefs.specs.Stack.{Stack}
use Rattle.answers.specs.Answer.{Moved}
use Rattle.beliefs.specs.Trace.{below, step}
use Rattle.passed.specs.declared.Passed.{Passed}
use Rattle.passed.specs.Does.{Led, Stay, Down, Up, Refused}
use Rattle.passed.specs.Pictures.{Pictures, Goes, Passes, Stays, Descends, Ascends, Refuses}
use Rattle.runner.specs.Progress.{decoded_at, Answered, Stopped}
use Rattle.std.specs.Prelude.{Ok}
use Rattle.runner.specs.declared.Left.{Left as Run}
use Rattle.runner.specs.declared.Left.TheVariants as runs
use Rattle.runner.specs.Nested.{leaving, Leaves}
use Rattle.runner.proofs.Progress.{none_yet, then_more, then_stopped, finished, refused, one_more}
use Rattle.runner.proofs.Going.{fair, Reads}

-- the words of a frame up to i: the stack is the one that the state pictures, over the same frames
pub record Far (p : Policy) (trace lent : List ℕ) (st : Stack) (from i : ℕ) (s : Passed) (answers : List ℕ) : Type 0 where
  pub stack : Stack
  pub pictures : Pictures p s stack
  pub level : length stack ≡ length st
  pub under : below stack ≡ below st
  pub answered : Answered (step false) p trace lent st from i stack answers

begin : (p : Policy) (trace lent : List ℕ) (st : Stack) (from : ℕ) (s : Passed) → Pictures p s st → Far p trace lent st from from s lent
begin p trace lent st from s h = record { stack = st; pictures = h; level = refl; under = refl; answered = none_yet (step false) p trace lent st from }

module _ (p : Policy) (trace lent : List ℕ) (st : Stack) (from i : ℕ) (s : Passed) (answers : List ℕ) (g : Far p trace lent st from i s answers) where
  over : length trace ≤ 2 * i → Stopped (step false) p trace lent st from i 0 answers
  over h = finished (step false) p trace lent st from i g.stack answers g.answered h

  bad_word : 2 * i + 1 < length trace → (n : ℕ) → Bad n ≡ decoded_at p trace i → Stopped (step false) p trace lent st from i n answers
  bad_word more n word = refused (step false) p trace lent st from i g.stack answers g.answered more (Bad n) word n refl (fair p trace i (Bad n) word)

  module _ (x : Held) (w : Reads p trace i x) (n : Led) (h : Passes p s x.op n) where
    abbrev after : Moved Stack
    after = step false p x.op g.stack

    goes : (k : Led) → n ≡ k → Goes p g.stack after k
    goes k q = rw q at (h.serves w.policy (fair p trace i (Word x) w.word) g.stack g.pictures)

    bad_op : (m : ℕ) → n ≡ Refused m → Stopped (step false) p trace lent st from i m answers
    bad_op m q = let o : Refuses after m = goes (Refused m) q in
        refused (step false) p trace lent st from i g.stack answers g.answered w.more (Word x) w.word m o.number o.refused

    -- one word answered
    word : (byte : ℕ) → after.number ≡ 0 → byte ≡ after.byte → Answered (step false) p trace lent st from (i + 1) after.state (set answers i byte)
    word byte z b = one_more (step false) p trace lent st from i g.stack answers g.answered w.more (Word x) w.word byte z b

    up : n ≡ Up → (length st ≢ 0) × Answered (step false) p trace lent st from (i + 1) (below st) (set answers i 0)
    up q = let o : Ascends g.stack after = goes Up q in
        (λ z. o.framed (g.level ∙ z), rw (o.stack ∙ g.under) at (word 0 o.number (sym o.byte)))

    stay : (s' : Passed) (byte : ℕ) → n ≡ Stay s' byte → Far p trace lent st from (i + 1) s' (set answers i byte)
    stay s' byte q = let o : Stays p g.stack after s' byte = goes (Stay s' byte) q in record {
      stack = after.state;
      pictures = o.pictures;
      level = o.level ∙ g.level;
      under = o.under ∙ g.under;
      answered = word byte o.number o.byte;
    }

    -- a callee's run, over or come back from
    module _ (s' : Passed) (q : n ≡ Down s') (at m : ℕ) (left : List ℕ) where
      down_over : Leaves p trace (set answers i 0) s' (i + 1) at m false left → Stopped (step false) p trace lent st from at m left
      down_over l = let o : Descends p g.stack after s' = goes (Down s') q in
          then_stopped (step false) p trace lent st from (i + 1) after.state (set answers i 0) (word 0 o.number (sym o.byte)) at m left
          (l.left _ o.pictures)

      down_back : Leaves p trace (set answers i 0) s' (i + 1) at m true left → Far p trace lent st from at s left
      down_back l = let o : Descends p g.stack after s' = goes (Down s') q in record {
        stack = g.stack;
        pictures = g.pictures;
        level = g.level;
        under = g.under;
        answered = rw o.under at (then_more (step false) p trace lent st from (i + 1) after.state (set answers i 0)
            (word 0 o.number (sym o.byte)) at _ left (l.left _ o.pictures).1);
      }

-- the same for every stack that the frame's first state pictures
pub record Onward (p : Policy) (trace lent : List ℕ) (s₀ : Passed) (from i : ℕ) (s : Passed) (answers : List ℕ) : Type 0 where
  pub later : from ≤ i
  pub far : (st : Stack) → Pictures p s₀ st → Far p trace lent st from i s answers

pub onward : (p : Policy) (trace lent : List ℕ) (from : ℕ) (s : Passed) → Onward p trace lent s from from s lent
onward p trace lent from s = record { later = omega arith; far = λ st h. begin p trace lent st from s h }

module _ {p : Policy} {trace lent : List ℕ} {s₀ : Passed} {from i : ℕ} {s : Passed} {answers : List ℕ} (f : Onward p trace lent s₀ from i s answers) where
  left_over_lem : (at n : ℕ) (left : List ℕ) → ((st : Stack) → Pictures p s₀ st → Stopped (step false) p trace lent st from at n left)
      → Leaves p trace lent s₀ from at n false left
  left_over_lem at n left h = record { later = λ e. never (sym e); left = h }

  pub leaves_over : length trace ≤ 2 * i → Leaves p trace lent s₀ from i 0 false answers
  leaves_over h = left_over_lem i 0 answers (λ st k. over p trace lent st from i s answers (f.far st k) h)

  pub leaves_bad_word : 2 * i + 1 < length trace → (n : ℕ) → Bad n ≡ decoded_at p trace i → Leaves p trace lent s₀ from i n false answers
  leaves_bad_word more n word = left_over_lem i n answers (λ st k. bad_word p trace lent st from i s answers (f.far st k) more n word)

  module _ {x : Held} (w : Reads p trace i x) {n : Led} (h : Passes p s x.op n) where
    pub leaves_bad_op : (m : ℕ) → n ≡ Refused m → Leaves p trace lent s₀ from i m false answers
    leaves_bad_op m q = left_over_lem i m answers (λ st k. bad_op p trace lent st from i s answers (f.far st k) x w n h m q)

    pub leaves_up : n ≡ Up → Leaves p trace lent s₀ from (i + 1) 0 true (set answers i 0)
    leaves_up q = record { later = λ b. omega (arith, f.later); left = λ st k. up p trace lent st from i s answers (f.far st k) x w n h q }

    pub onward_stay : (s' : Passed) (byte : ℕ) → n ≡ Stay s' byte → Onward p trace lent s₀ from (i + 1) s' (set answers i byte)
    onward_stay s' byte q = record { later = omega (arith, f.later); far = λ st k. stay p trace lent st from i s answers (f.far st k) x w n h s' byte q }

    module _ (s' : Passed) (q : n ≡ Down s') (at m : ℕ) (left : List ℕ) where
      pub leaves_down : (back : Bool) → back ≡ false → Leaves p trace (set answers i 0) s' (i + 1) at m back left → Leaves p trace lent s₀ from at m back left
      leaves_down true b l = never b
      leaves_down false b l = left_over_lem at m left (λ st k. down_over p trace lent st from i s answers (f.far st k) x w n h s' q at m left l)

      pub onward_back : (back : Bool) → back ≡ true → Leaves p trace (set answers i 0) s' (i + 1) at m back left
          → (i < at) × Onward p trace lent s₀ from at s left
      onward_back true b l =
          let up : i + 1 ≤ at = l.later refl in (
            omega arith,
            record {
              later = omega (arith, f.later);
              far = λ st k. down_back p trace lent st from i s answers (f.far st k) x w n h s' q at m left l;
            },
          )
      onward_back false b l = never (sym b)

-- with no frame there is nothing to return to, so a run from a fresh start is left only where it is over
pub whole_run : (p : Policy) (trace lent : List ℕ) (s : Passed) (at n : ℕ) (back : Bool) (left : List ℕ) → Pictures p s []
    → Leaves p trace lent s 0 at n back left → Stopped (step false) p trace lent [] 0 at n left
whole_run p trace lent s at n true left h l = absurd ((l.left [] h).0 refl)
whole_run p trace lent s at n false left h l = l.left [] h

-- wherever it says that it is left
pub whole_end : (p : Policy) (trace lent : List ℕ) (s : Passed) (r : Run) (at : ℕ) (left : List ℕ) → (r ≡ runs.Back at) ⊎ (r ≡ runs.Over at) → Pictures p s []
    → Leaves p trace lent s 0 (leaving (Ok r)).at (leaving (Ok r)).number (leaving (Ok r)).back left → Stopped (step false) p trace lent [] 0 at 0 left
whole_end p trace lent s r at left e h =
    ⊎_elim (λ b l. whole_run p trace lent s at 0 true left h (rw b at l)) (λ o l. whole_run p trace lent s at 0 false left h (rw o at l)) e
