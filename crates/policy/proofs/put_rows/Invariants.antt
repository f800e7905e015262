-- The rows stored so far and those still to store are together the rows' bytes.
use mathlib.Core.Path.{◌≡◌}
use Prim.Native.Nat.{◌+◌, ◌*◌}
use lib.ListN.{take, drop}
use lib.Seq.{sets}
use Rattle.beliefs.specs.Policy.{signers, rows_bytes}
use Rattle.policy.proofs.put_rows.Given as goal

abbrev pub invariant-loop-s : goal.invariant-loop-s
invariant-loop-s l =
    let rows = take (signers l.policy) (drop 3 l.policy) in
    sets l.bytes (2 + l.s * l.wide) (rows_bytes l.wide (drop l.s rows)) ≡ sets l.initial.bytes 2 (rows_bytes l.wide rows)
