-- The rows stored so far and those still to store are together the value's, and no other word of the policy is left.
use native.Mathlib.Omega.{arith}
use mathlib.Core.Path.{◌≡◌, ◌∙◌}
use Prim.Native.Nat.{◌/◌, ◌<◌}
use lib.ListN.{drop}
use Rattle.beliefs.specs.Policy.{rows_of, rows_read}
use Rattle.policy.proofs.Accepted.{accepted}
use Rattle.policy.proofs.Value.{length_lent, store_turn, stored, all_stored}
use Rattle.policy.proofs.store.Goals as goal
use Rattle.policy.proofs.store.Goals.{After-width-wide}

-- the rows that the definition reads
rows_are : (c : goal.After-width-wide) → let bs = c.args.bytes.now in
    rows_of c.head_signers-rows.result c.width-wide.result (drop 2 bs) ≡ rows_read bs
rows_are c =
    rw (
      c.width-wide.ensures,
      c.head_targets-n.ensures,
      c.head_signers-rows.ensures,
      c.header-h.ensures,
    )

pub header-h-requires : goal.header-h-requires
header-h-requires c = (accepted _ c.requires).headed

pub row_in-requires : goal.row_in-requires
row_in-requires c =
    let a = accepted _ c.requires in (
      rw (
        c.width-wide.ensures,
        c.head_targets-n.ensures,
        c.head_signers-rows.ensures,
        c.header-h.ensures,
      ) (omega arith),
      omega arith,
    )

pub loop-s-preserved : goal.loop-s-preserved
loop-s-preserved c =
    let at_loop = c.loop-s in
    let more : at_loop.s < 32 = omega (
      arith,
      length_lent c.args.policy.now (c.header-h.result / 32768) c.head_signers-rows.result c.head_targets-n.result c.told-policy,
    ) in
    rw (c.row_in.ensures, rows_are (goal.at.loop-s-preserved c).After-width-wide)
    (store_turn at_loop.row-items c.args.bytes.now at_loop.s more ∙ at_loop.invariant)

pub returns : goal.returns
returns c =
    let a = c.args in
    let at_loop = c.loop-s in
    let long = length_lent a.policy.now (c.header-h.result / 32768) c.head_signers-rows.result c.head_targets-n.result c.told-policy in
    let rows = stored at_loop.row-items _ a.bytes.now at_loop.s long (omega (arith, long)) at_loop.invariant in
    rw (
      rows,
      c.head_targets-n.ensures,
      c.head_signers-rows.ensures,
      c.header-h.ensures,
    ) (all_stored a.policy.now a.bytes.now c.told-policy)
