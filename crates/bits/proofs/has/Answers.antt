-- Below 64 the quotient says it; no word has a bit from 64 on.
use borrow.Author.Rules.{rules}
use borrow.Author.Tests.{le-ltb}
use mathlib.Core.Path.{sym}
use Rattle.bits.specs.Bit.{bit}
use Rattle.bits.proofs.Laws.{bit_high}
use Rattle.bits.proofs.has.Goals as goal

pub returns-then-t-lt64 : goal.returns-then-t-lt64
unfolding bit
returns-then-t-lt64 c = search rules

pub returns-else-t-lt64 : goal.returns-else-t-lt64
returns-else-t-lt64 c = rw (le-ltb _ _ c.if-t-lt64.false) (sym (bit_high 64 _ _ c.ranges.w.fits c.if-t-lt64.false))
