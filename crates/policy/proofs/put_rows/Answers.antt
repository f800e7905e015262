-- The rows stored so far and those still to store are together the rows' bytes.
use native.Mathlib.Omega.{arith}
use mathlib.Core.Path.{sym, ◌∙◌}
use Prim.Native.Nat.{◌+◌, ◌*◌, ◌<◌}
use Rattle.beliefs.specs.Policy.{signers}
use Rattle.policy.proofs.Rows.{row_within}
use Rattle.policy.proofs.Written.{row_placed, put_rows_turn, rows_put}
use Rattle.policy.proofs.put_rows.Goals as goal

pub loop-s-preserved : goal.loop-s-preserved
loop-s-preserved c =
    let a = c.args in
    let at_loop = c.loop-s in
    let rows = signers a.policy.now in
    let one_of : at_loop.s < rows = omega arith in
    let at = 2 + at_loop.s * a.wide in
    let placed = row_placed at_loop.bytes _ at a.wide _ c.row.result (omega arith) (omega (arith, row_within rows a.wide at_loop.s one_of)) c.put_row.ensures in
    rw (placed, c.row.ensures) (put_rows_turn at_loop.bytes a.policy.now rows a.wide at_loop.s c.told-policy c.requires.0 one_of ∙ at_loop.invariant)

pub returns : goal.returns
returns c =
    let a = c.args in
    let at_loop = c.loop-s in
    sym (rows_put at_loop.bytes a.policy.now (signers a.policy.now) a.wide at_loop.s _ (omega arith)) ∙ at_loop.invariant
