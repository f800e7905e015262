-- A run in progress, over any step: what has been answered between two words, and where a run is stopped.
use Rattle.std.specs.Prelude.{◌≡◌, List, ℕ, ◌+◌, ◌*◌, length, drop}
use Rattle.std.proofs.lemmas.List.Edits.{sets}
use Rattle.answers.specs.Answer.{Moved}
use Rattle.answers.specs.Account.{told, before}
use Rattle.words.specs.declared.Operation.{Operation}
use Rattle.words.specs.Words.{Decoded, word_at}
use Rattle.beliefs.specs.Policy.{Policy, reading}
use Rattle.beliefs.specs.Trace.{run_from}

-- the word at an index, decoded under the policy
abbrev pub decoded_at : Policy → List ℕ → ℕ → Decoded
decoded_at p trace i = reading p (word_at trace i) i

module _ {S : Type 0} (act : Policy → Operation → S → Moved S) (p : Policy) (trace lent : List ℕ) (s : S) (from : ℕ) where
  -- the words from `from` up to `at` are answered, and lead from the state s to the state `reached`
  pub record Answered (at : ℕ) (reached : S) (answers : List ℕ) : Type 0 where
    pub written : List ℕ
    pub count : from + length written ≡ at
    pub buffer : answers ≡ sets lent from written
    pub total : run_from act p from (drop (2 * from) trace) s ≡ before written (run_from act p at (drop (2 * at) trace) reached)

  -- the run is over: at the trace's end, or at a refused word
  pub record Stopped (at number : ℕ) (answers : List ℕ) : Type 0 where
    pub written : List ℕ
    pub buffer : answers ≡ sets lent from written
    pub total : run_from act p from (drop (2 * from) trace) s ≡ before written (told number at)
