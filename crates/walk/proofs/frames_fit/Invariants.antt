-- The marks of the frames below k together are for targets below N exactly where those frames are as number 14 asks.
use mathlib.Core.Path.{◌≡◌}
use Rattle.bits.specs.Bit.{below}
use Rattle.beliefs.specs.Lists.{each}
use Rattle.beliefs.specs.Policy as policies
use Rattle.walk.specs.Fits.{in_use}
use Rattle.walk.proofs.frames_fit.Given as goal

abbrev pub invariant-loop-k : goal.invariant-loop-k
invariant-loop-k l = each (in_use l.policy l.state) l.k ≡ below l.marks (policies.targets l.policy)
