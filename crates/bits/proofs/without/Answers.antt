-- What the word has of that bit is taken from it; a word has nothing of a bit from 64 on.
use native.Mathlib.Nat.{lt_of_lt_of_le}
use lib.Pow.{pow_mono}
use Rattle.bits.proofs.Laws.{without_in, without_out}
use Rattle.bits.proofs.without.Goals as goal

pub returns-then-t-lt64 : goal.returns-then-t-lt64
returns-then-t-lt64 c = without_in _ _ c.ranges.w.fits c.if-t-lt64.true

pub returns-else-t-lt64 : goal.returns-else-t-lt64
returns-else-t-lt64 c = without_out _ _ (lt_of_lt_of_le c.ranges.w.fits (pow_mono c.if-t-lt64.false))
