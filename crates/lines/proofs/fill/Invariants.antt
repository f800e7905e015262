-- The loop composes the line at `place` apart, and puts it after those before it while it fits, as the definition of a page does.
use mathlib.Core.Path.{◌≡◌}
use Prim.Native.Nat.{◌≤◌}
use lib.ListN.{length}
use Rattle.lines.specs.Page.{run_line}
use Rattle.lines.proofs.Pages.{Filling}
use Rattle.lines.proofs.fill.Given as goal

abbrev pub invariant-loop-place : goal.invariant-loop-place
invariant-loop-place l =
    (l.page.next ≡ l.place) × (l.page.len ≤ length l.initial.out)
    × Filling (run_line l.run) l.initial.out l.place-end l.from l.page l.out
