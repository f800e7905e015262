-- The input is cut within it.
use Rattle.listing.proofs.Cut.{cut_most}
use Rattle.listing.proofs.print_listing.Goals as goal

pub split_at-requires : goal.split_at-requires
split_at-requires g c = rw c.cut.ensures (cut_most c.args.input.now)
