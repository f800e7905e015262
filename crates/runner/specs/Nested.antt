-- The run of one frame and its callees by the passed state: where it is left, and what it has answered.
use Rattle.std.specs.Prelude.{◌≡◌, ◌≢◌, Bool, true, false, List, ℕ, ◌≤◌, length, Result, Ok, Err}
use Rattle.answers.specs.Numbers.{number as number_named}
use Rattle.answers.specs.declared.Stop.{Stop}
use Rattle.runner.specs.declared.Left.{Left as Run}
use Rattle.runner.specs.declared.Left.TheVariants as runs
use Rattle.beliefs.specs.Policy.{Policy}
use Rattle.beliefs.specs.Stack.{Stack}
use Rattle.beliefs.specs.Trace.{below, step}
use Rattle.passed.specs.declared.Passed.{Passed}
use Rattle.passed.specs.Pictures.{Pictures}
use Rattle.runner.specs.Progress.{Answered, Stopped}

-- where it is left, the number that stopped it (0 for none), and whether it has come back
pub record Leaving : Type 0 where
  pub at : ℕ
  pub number : ℕ
  pub back : Bool

abbrev pub leaving : Result Run Stop → Leaving
leaving (Ok (runs.Back i)) = record { at = i; number = 0; back = true }
leaving (Ok (runs.Over i)) = record { at = i; number = 0; back = false }
leaving (Err s) = record { at = s.at; number = number_named s.why; back = false }

-- left past its return, with the caller's stack as it was at the call; else the run is over
abbrev pub Left : Policy → List ℕ → List ℕ → Stack → ℕ → ℕ → ℕ → List ℕ → Bool → Type 0
Left p trace lent st from at number answers true = (length st ≢ 0) × Answered (step false) p trace lent st from at (below st) answers
Left p trace lent st from at number answers false = Stopped (step false) p trace lent st from at number answers

-- for every stack that the frame's state pictures
pub record Leaves (p : Policy) (trace lent : List ℕ) (s : Passed) (from at number : ℕ) (back : Bool) (answers : List ℕ) : Type 0 where
  pub later : back ≡ true → from ≤ at
  pub left : (st : Stack) → Pictures p s st → Left p trace lent st from at number answers back
