-- What is stored and what is still to store are together the row's bytes.
use native.Mathlib.Nat.{sub-zero}
use native.Mathlib.Omega.{arith}
use mathlib.Core.Path.{◌≡◌, ◌∙◌}
use Prim.Native.Nat.{◌-◌}
use lib.ListN.{length}
use Rattle.beliefs.specs.Policy.{row_bytes}
use Rattle.policy.proofs.Written.{put_turn, row_stored}
use Rattle.policy.proofs.put_row.Goals as goal

pub loop-byte-init : goal.loop-byte-init
loop-byte-init c = (omega arith, rw sub-zero)

pub loop-byte-preserved : goal.loop-byte-preserved
loop-byte-preserved c =
    let at_loop = c.loop-byte in
    let turn = put_turn at_loop.place at_loop.byte-index (length c.args.place.now) at_loop.rest c.loop-byte-test.true in
    (omega arith, rw c.mirrored.ensures (turn ∙ at_loop.invariant.1))

pub returns : goal.returns
unfolding row_bytes
returns c =
    let z : length c.args.place.now - c.loop-byte.byte-index ≡ 0 = omega arith in
    (rw z at c.loop-byte.invariant.1) ∙ row_stored c.args.place.now c.args.row
