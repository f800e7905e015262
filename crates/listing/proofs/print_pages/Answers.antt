-- Each page ends at a later place than it began, or the loop is left.
use Prim.Native.Nat.{◌-◌}
use Rattle.lines.specs.Page.{run_places}
use Rattle.lines.proofs.Pages.{filled_falls}
use Rattle.lines.proofs.Within.{Front, filled_front}
use Rattle.listing.proofs.print_pages.Given.{Over}
use Rattle.listing.proofs.print_pages.Goals as goal
use Rattle.listing.proofs.print_pages.Goals.{After-fill-next}

-- the page just filled, as a slice of it asks
page_front : (g : Over) (c : After-fill-next g) → Front c.fill-next.result.len c.fill-next.new.out
page_front g c = filled_front _ c.loop-place.place (run_places c.args.run.now - c.loop-place.place) c.fill-next.ensures

pub slice_bounds-page-end : goal.slice_bounds-page-end
slice_bounds-page-end g c = (page_front g (goal.at.slice_bounds-page-end g c).After-fill-next).within

pub slice_bounds-write_all-end : goal.slice_bounds-write_all-end
slice_bounds-write_all-end g c = (page_front g (goal.at.slice_bounds-write_all-end g c).After-fill-next).span

pub loop-place-smaller : goal.loop-place-smaller
loop-place-smaller g c = filled_falls _ c.loop-place.place (run_places c.args.run.now) c.fill-next.ensures c.if-next-place.false
