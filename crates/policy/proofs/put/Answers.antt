-- The header's two bytes, then the rows: the bytes of the definition in its order.
use native.Mathlib.Omega.{arith}
use mathlib.Core.Path.{◌∙◌}
use Prim.Native.Nat.{◌≤◌}
use lib.ListN.{length, take, drop, length-append, length-take, length-drop}
use Rattle.beliefs.specs.Policy.{signers, targets, width, rows_bytes, bytes_written}
use Rattle.beliefs.proofs.Policy.{ranges}
use Rattle.policy.proofs.Written.{header_put}
use Rattle.policy.proofs.put.Goals as goal

pub put_rows-requires : goal.put_rows-requires
put_rows-requires c =
    let room : 2 ≤ length c.args.bytes.now = omega arith in (
      (ranges _ c.requires.0).signers_most,
      simp (length-append, length-drop, c.copy_from_slice.ensures.len, length-take) (rw (c.width.ensures, c.targets.ensures) (omega arith)),
    )

pub returns : goal.returns
unfolding bytes_written
returns c =
    let p = c.args.policy.now in
    let rows = rows_bytes (width (targets p)) (take (signers p) (drop 3 p)) in
    c.put_rows.ensures
    ∙ rw (
      c.copy_from_slice.ensures.after,
      c.to_be_bytes.ensures,
      c.width.ensures,
      c.targets.ensures,
    ) (header_put c.args.bytes.now c.headed.result rows (omega arith) c.headed.type_inv ∙ rw c.headed.ensures)
