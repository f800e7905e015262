-- The loop: what the whole walk finds is what the walk over the frames left finds, after the frames looked at.
use mathlib.Core.Path.{◌≡◌}
use Prim.Native.Nat.{◌+◌}
use Rattle.beliefs.specs.Stack.{walk}
use Rattle.walk.specs.Layout.{depth, frames, frames_at}
use Rattle.walk.proofs.Turn.{after}
use Rattle.walk.proofs.check.Given as goal

abbrev pub invariant-loop-left : goal.invariant-loop-left
invariant-loop-left l =
    (l.looked + l.left ≡ depth l.state) × (walk l.policy l.target (frames l.state) ≡ after l.looked (walk l.policy l.target (frames_at l.state l.left)))

abbrev pub decreases-loop-left : goal.decreases-loop-left
decreases-loop-left l = l.left
