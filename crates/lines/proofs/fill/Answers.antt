-- The loop composes the line at `place` apart, and puts it after those before it while it fits, as the definition of a page does.
use native.Mathlib.Omega.{arith}
use mathlib.Core.Path.{◌≡◌, refl, sym, ap, ◌∙◌}
use lib.ListN.{length}
use Rattle.lines.specs.Page.{run_line}
use Rattle.lines.proofs.After.{length_rest, nothing_behind, behind}
use Rattle.lines.proofs.Pages.{onward, full, finished}
use Rattle.lines.proofs.fill.Goals as goal
use Rattle.lines.proofs.fill.Goals.{After-line}

-- the line at the page's next place
next_line : (c : After-line) → c.line.new.line.bytes ≡ run_line c.args.run.now c.loop-place.page.next
next_line c = c.line.ensures ∙ ap (run_line c.args.run.now) (sym c.loop-place.invariant.0)

pub returns-in_default : goal.returns-in_default
returns-in_default c =
    let at = c.loop-place in
    let (short, same) = c.in_default.ensures in
    let room = length_rest at.out at.page.len in
    let line = ap length (next_line (goal.at.returns-in_default c).After-line) in
    rw (← c.words-place-end.ensures, nothing_behind at.page.len same) (full _ at.invariant.2 (omega (arith, at.auto.out)))

pub loop-place-preserved : goal.loop-place-preserved
loop-place-preserved c =
    let at = c.loop-place in
    let (fits, puts) = c.in-Some.ensures in
    let room = length_rest at.out at.page.len in
    let put = rw (next_line (goal.at.loop-place-preserved c).After-line) at (behind at.page.len (omega arith) fits puts) in
    let further = onward _ at.invariant.2 (omega (arith, at.invariant.0)) (omega arith) put in
    (refl, omega (arith, puts.until), rw (← at.invariant.0) further)

pub returns : goal.returns
returns c =
    let at = c.loop-place in
    rw (← c.words-place-end.ensures) (finished _ at.invariant.2 (omega (arith, at.invariant.0)))
