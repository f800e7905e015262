-- The state pictures the stack that is reached, and the answers so far are the definition's (Going).
use mathlib.Core.Path.{◌≡◌}
use lib.ListN.{length}
use Rattle.runner.proofs.Going.{Going}
use Rattle.runner.proofs.run.Given as goal

abbrev pub invariant-loop-i : goal.invariant-loop-i
invariant-loop-i g l =
    (length l.answers ≡ length l.initial.answers)
    × Going g.E.Engine.by l.policy l.trace l.initial.answers l.i (g.E.Engine.words l.state) l.answers
