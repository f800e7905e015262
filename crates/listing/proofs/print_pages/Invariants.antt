-- Each page ends at a later place than it began, or the loop is left.
use Rattle.std.proofs.Common.{length, ◌-◌, ◌≡◌}
use Rattle.lines.specs.Page.{run_places}
use Rattle.listing.proofs.print_pages.Given as goal

abbrev pub invariant-loop-place : goal.invariant-loop-place
invariant-loop-place g l = length l.page ≡ 65536

abbrev pub decreases-loop-place : goal.decreases-loop-place
decreases-loop-place g l = run_places l.run - l.place
