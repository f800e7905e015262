-- One verdict on every check of a trace, by three runs.
use Rattle.std.specs.Prelude.{◌≡◌, true, List, map, ℕ, length}
use Rattle.std.proofs.lemmas.List.Edits.{sets}
use Rattle.answers.specs.Account.{Report}
use Rattle.answers.specs.Answer.{kind_only}
use Rattle.beliefs.specs.Policy.{Policy}
use Rattle.beliefs.specs.Trace.{run}

-- the walk writes the definition's answer bytes, the other two the kind of each; all three report the same
pub record OneVerdict (p : Policy) (trace lent : List ℕ) (w r q : Report) (by_walk by_record by_passed : List ℕ) : Type 0 where
  pub walked : by_walk ≡ sets lent 0 (run true p trace (length lent)).written
  pub recorded : by_record ≡ sets lent 0 (map kind_only (run true p trace (length lent)).written)
  pub passed : by_passed ≡ sets lent 0 (map kind_only (run true p trace (length lent)).written)
  pub record_report : r ≡ w
  pub passed_report : q ≡ w
