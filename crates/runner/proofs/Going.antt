-- A run over a lent state, for every engine that keeps the promise of one operation: the state pictures the stack that is reached. Assumes nothing.
use mathlib.Core.Path.{◌≡◌, refl, sym}
use mathlib.Core.Bool.{true}
use mathlib.Core.List.{List, []}
use Prim.Native.Nat.{ℕ, ◌+◌, ◌*◌, ◌≤◌, ◌<◌}
use lib.ListN.{length, set, replicate}
use Rattle.std.specs.Prelude.{Result, Ok, Err}
use borrow.Author.Tests.{eqb-false}
use Rattle.answers.specs.declared.Refusal.{Refusal}
use Rattle.answers.specs.Numbers.{number}
use Rattle.answers.specs.Answer.{answer_of}
use Rattle.answers.proofs.Refusals.{some_number}
use Rattle.words.specs.declared.Word.{Word as Held}
use Rattle.words.specs.Words.{Decoded, Word, Refused, decoding, word_at}
use Rattle.words.proofs.Words.{Fair, decoded_fair, decoded_index}
use Rattle.beliefs.specs.Policy.{Policy, signers, targets, valid}
use Rattle.beliefs.specs.Stack.{Stack}
use Rattle.beliefs.specs.Trace.{step}
use Rattle.beliefs.specs.Engine.{Engine, Serves, Serve}
use Rattle.runner.specs.Progress.{decoded_at, Answered, Stopped}
use Rattle.runner.proofs.Progress.{none_yet, finished, refused, one_more}

-- a decoded word is fair
pub fair : (p : Policy) (trace : List ℕ) (i : ℕ) (d : Decoded) → d ≡ decoded_at p trace i → Fair (signers p) (targets p) d
fair p trace i d e = rw (sym e) at (decoded_fair (signers p) (targets p) (word_at trace i) i)

-- the word at i is x
pub record Reads (p : Policy) (trace : List ℕ) (i : ℕ) (x : Held) : Type 0 where
  pub more : 2 * i + 1 < length trace
  pub word : Word x ≡ decoded_at p trace i
  pub policy : valid p ≡ true

-- it holds the index that the run reports
pub its_index : {p : Policy} {trace : List ℕ} {i : ℕ} {x : Held} → Reads p trace i x → x.index ≡ i
its_index w = decoded_index _ _ _ _ _ w.word

-- that zeros picture no frame is the engine's to say, at the first word that it serves
module _ (e : Engine) (p : Policy) (trace lent : List ℕ) where
  pub record Going (i : ℕ) (state answers : List ℕ) : Type 0 where
    pub stack : Stack
    pub pictures : e.Pictures p (replicate e.size 0) [] → e.Pictures p state stack
    pub answered : Answered (step e.counts) p trace lent [] 0 i stack answers

  pub start : Going 0 (replicate e.size 0) lent
  start = record { stack = []; pictures = λ h. h; answered = none_yet (step e.counts) p trace lent [] 0 }

  module _ (i : ℕ) (state answers : List ℕ) (g : Going i state answers) where
    abbrev Stops : (at number : ℕ) → Type 0
    Stops at number = Stopped (step e.counts) p trace lent [] 0 at number answers

    pub over : length trace ≤ 2 * i → Stops i 0
    over h = finished (step e.counts) p trace lent [] 0 i g.stack answers g.answered h

    pub bad_word : 2 * i + 1 < length trace → (d : Result Held Refusal) → decoding d ≡ decoded_at p trace i
        → (why : Refusal) → d ≡ Err why → Stops i (number why)
    bad_word more d word why q = let n : ℕ = number why in let word : Refused n ≡ decoded_at p trace i = rw q at word in
        refused (step e.counts) p trace lent [] 0 i g.stack answers g.answered more (Refused n) word n refl (fair p trace i (Refused n) word)

    module _ (x : Held) (w : Reads p trace i x) (r : Result ℕ Refusal) (left : List ℕ) (s : Serve e p state x.op (answer_of r) left) where
      serves : Serves e p (answer_of r) left (step e.counts p x.op g.stack)
      serves = s.serves w.policy (fair p trace i (Word x) w.word) g.stack (g.pictures s.begins)

      pub bad_op : (why : Refusal) → r ≡ Err why → Stops i (number why)
      bad_op why q = refused (step e.counts) p trace lent [] 0 i g.stack answers g.answered w.more (Word x) w.word (number why)
          (rw q at serves.number) (eqb-false _ 0 (some_number why))

      pub onward : (byte : ℕ) → r ≡ Ok byte → Going (i + 1) left (set answers i byte)
      onward byte q = let serves : Serves e p (answer_of (Ok byte)) left (step e.counts p x.op g.stack) = rw q at serves in record {
        stack = (step e.counts p x.op g.stack).state;
        pictures = λ begins. serves.pictures;
        answered = one_more (step e.counts) p trace lent [] 0 i g.stack answers g.answered w.more (Word x) w.word byte
            (sym serves.number) serves.byte;
      }
