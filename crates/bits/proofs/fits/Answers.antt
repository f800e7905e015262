-- From 64 on every word is below `2 ^ n`; below 64 that is the shifted 1.
use borrow.Author.Tests.{le-leb}
use mathlib.Core.Path.{sym}
use Rattle.bits.specs.Bit.{below}
use Rattle.bits.proofs.Laws.{one_shl, below_high}
use Rattle.bits.proofs.fits.Goals as goal

pub returns-then-n-ge64 : goal.returns-then-n-ge64
returns-then-n-ge64 c = rw (le-leb _ _ c.if-n-ge64.true) (sym (below_high _ _ c.ranges.w.fits c.if-n-ge64.true))

pub returns-else-n-ge64 : goal.returns-else-n-ge64
unfolding below
returns-else-n-ge64 c = rw (one_shl _ c.if-n-ge64.false)
