-- Where the other is one bit alone, the law of a bit says which.
use mathlib.Core.Path.{refl, ap, ◌∙◌}
use Prim.Native.Nat.{ℕ}
use Rattle.bits.specs.Bit.{meet}
use Rattle.bits.proofs.Laws.{meet_alone}
use Rattle.bits.proofs.meet.Goals as goal

pub returns : goal.returns
unfolding meet
returns c = record { exact = refl; alone = λ t e. ap (λ (b : ℕ). meet c.args.a b) e ∙ meet_alone c.args.a t c.ranges.a.fits }
