-- What the functions of the C boundary promise, over what is lent to them: first the arguments, then what is returned and what is left. A promise
-- that has a name of its own, as `PolicyRead`, `Operate by_walk`, `Operate by_record`, `Moves` and `Asks`, keeps it. That each is its function's own
-- clause is shown in proofs/Exported.antt.
use Rattle.std.specs.Prelude.{Bool, List, ℕ, length}
use Rattle.answers.specs.Account.{Reports, Tells}
use Rattle.beliefs.specs.Policy as policies
use Rattle.beliefs.specs.Policy.{Policy, Target}
use Rattle.beliefs.specs.Trace.{run}
use Rattle.derivation.specs.Promise.{checking, writing}
use Rattle.galmuvesh.specs.Boundary.{report}

-- galmuvesh_policy_write
abbrev pub PolicyWrote : (p : Policy) (lent : List ℕ) (n figure : ℕ) (left : List ℕ) → Type 0
PolicyWrote p lent n figure left = Reports (report n figure) lent left (policies.writing p (length lent))

-- galmuvesh_walk_run, which counts the frames looked at; galmuvesh_record_run and galmuvesh_passed_run, which do not
abbrev pub Ran : (counts : Bool) (p : Policy) (trace lent : List ℕ) (n figure : ℕ) (left : List ℕ) → Type 0
Ran counts p trace lent n figure left = Reports (report n figure) lent left (run counts p trace (length lent))

-- galmuvesh_derivation_write, galmuvesh_derivation_check
abbrev pub DerivationWrote : (p : Policy) (s : List ℕ) (t : Target) (lent : List ℕ) (n figure : ℕ) (left : List ℕ) → Type 0
DerivationWrote p s t lent n figure left = Reports (report n figure) lent left (writing p s t (length lent))

abbrev pub DerivationChecked : (p : Policy) (s : List ℕ) (t : Target) (steps : List ℕ) (n figure : ℕ) → Type 0
DerivationChecked p s t steps n figure = Tells (report n figure) (checking p s t steps)
