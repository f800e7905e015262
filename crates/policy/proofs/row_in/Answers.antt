-- Row s is the `wide` bytes from `2 + s * wide` on, and there is no row from `rows` on.
use native.Mathlib.Omega.{arith}
use mathlib.Core.Path.{◌≡◌, sym, ◌∙◌}
use Prim.Native.Nat.{◌+◌, ◌-◌, ◌*◌, ◌≤◌}
use lib.ListN.{drop, get_or-eq_default}
use Rattle.beliefs.specs.Policy.{rows_of}
use Rattle.policy.proofs.Rows.{row_at, row_within, length_rows}
use Rattle.policy.proofs.row_in.Goals as goal
use Rattle.policy.proofs.row_in.Goals.{Else-rows-s}

within : (c : goal.Else-rows-s) → let a = c.args in a.s * a.wide + a.wide ≤ a.rows * a.wide
within c = row_within _ c.args.wide _ c.if-rows-s.false

pub returns-then-rows-s : goal.returns-then-rows-s
returns-then-rows-s c =
    let a = c.args in
    let rest = drop 2 a.bytes.now in
    sym (get_or-eq_default (rows_of a.rows a.wide rest) 0 (omega (arith, length_rows a.rows a.wide rest)))

pub overflow_mul-at : goal.overflow_mul-at
overflow_mul-at c = omega (arith, within (goal.at.overflow_mul-at c).Else-rows-s)

pub overflow_add-at : goal.overflow_add-at
overflow_add-at c = omega (arith, within (goal.at.overflow_add-at c).Else-rows-s)

pub overflow_add-end : goal.overflow_add-end
overflow_add-end c = omega (arith, within (goal.at.overflow_add-end c).Else-rows-s)

pub slice_bounds-row_of-end : goal.slice_bounds-row_of-end
slice_bounds-row_of-end c = omega (arith, within (goal.at.slice_bounds-row_of-end c).Else-rows-s)

pub returns : goal.returns
returns c =
    let a = c.args in
    let e : 2 + a.s * a.wide + a.wide - (2 + a.s * a.wide) ≡ a.wide = omega arith in
    c.row_of.ensures ∙ rw e (sym (row_at a.rows a.wide a.bytes.now a.s c.if-rows-s.false))
