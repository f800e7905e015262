-- What is stored and what is still to store are together the row's bytes.
use Rattle.std.proofs.Common.{◌≡◌, ◌-◌, ◌≤◌, length}
use lib.Seq.{sets}
use Rattle.beliefs.specs.Policy.{row_bytes}
use Rattle.policy.proofs.put_row.Given as goal

abbrev pub invariant-loop-byte : goal.invariant-loop-byte
invariant-loop-byte l =
    let n = length l.initial.place in
    (l.byte-index ≤ n) × (sets l.place l.byte-index (row_bytes (n - l.byte-index) l.rest) ≡ sets l.initial.place 0 (row_bytes n l.row))
