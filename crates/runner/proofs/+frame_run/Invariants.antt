-- A frame's run answers its own words and its callees', and every word takes one from the words left over. For every stack that the
-- frame's state pictures the answers are the definition's (Nested).
use mathlib.Core.Path.{◌≡◌}
use Prim.Native.Nat.{◌-◌, ◌/◌}
use lib.ListN.{length}
use Rattle.runner.proofs.Nested.{Onward}
use Rattle.runner.proofs.+frame_run.Given as goal

abbrev pub decreases-frame_run : goal.decreases-frame_run
decreases-frame_run l = length l.trace.now / 2 - l.from

abbrev pub invariant-loop-i : goal.invariant-loop-i
invariant-loop-i l = (length l.answers ≡ length l.initial.answers) × Onward l.policy l.trace l.initial.answers l.initial.state l.from l.i l.state l.answers

abbrev pub decreases-loop-i : goal.decreases-loop-i
decreases-loop-i l = l.words - l.i
