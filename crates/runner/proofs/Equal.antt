-- Stack walk, belief record and passed state give one verdict on every check of every trace. Assumes nothing.
use mathlib.Core.Path.{◌≡◌, sym, ◌∙◌}
use mathlib.Core.Bool.{true, false}
use mathlib.Core.List.{List}
use Prim.Native.Nat.{ℕ}
use lib.ListN.{length}
use Rattle.answers.specs.Account.{Report, Reports}
use Rattle.beliefs.specs.Trace.{run}
use Rattle.answers.specs.Answer.{kind_only}
use Rattle.beliefs.specs.Policy.{Policy}
use Rattle.beliefs.proofs.Runs.{turned}
use Rattle.beliefs.proofs.Counts.{run_uncounted}
use Rattle.runner.specs.Equal.{OneVerdict}

-- from the three promises alone, for every policy, trace and lent buffer
pub three_runs : (p : Policy) (trace lent : List ℕ) (w r q : Report) (by_walk by_record by_passed : List ℕ)
    → Reports w lent by_walk (run true p trace (length lent)) → Reports r lent by_record (run false p trace (length lent))
    → Reports q lent by_passed (run false p trace (length lent))
    → OneVerdict p trace lent w r q by_walk by_record by_passed
three_runs p trace lent w r q by_walk by_record by_passed walk record' passed' =
    let same : run false p trace (length lent) ≡ turned kind_only (run true p trace (length lent)) = run_uncounted p trace (length lent) in
    let x : Reports r lent by_record (turned kind_only (run true p trace (length lent))) = rw same at record' in
    let y : Reports q lent by_passed (turned kind_only (run true p trace (length lent))) = rw same at passed' in
    record {
      walked = walk.buffer;
      recorded = x.buffer;
      passed = y.buffer;
      record_report = λ i. record { number = (x.number ∙ sym walk.number) i; figure = (x.figure ∙ sym walk.figure) i };
      passed_report = λ i. record { number = (y.number ∙ sym walk.number) i; figure = (y.figure ∙ sym walk.figure) i };
    }
