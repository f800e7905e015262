-- The rows stored so far and those still to store are together the value's.
use mathlib.Core.Path.{◌≡◌}
use lib.ListN.{drop}
use lib.Seq.{sets}
use Rattle.beliefs.specs.Policy.{value_read}
use Rattle.policy.proofs.store.Given as goal

abbrev pub invariant-loop-s : goal.invariant-loop-s
invariant-loop-s l =
    let rows = drop 3 (value_read l.bytes) in
    sets l.row-items l.s (drop l.s rows) ≡ sets l.initial.row-items 0 rows
