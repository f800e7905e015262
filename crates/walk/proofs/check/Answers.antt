-- The loop: the frame decides, or the walk goes on below it (Turn).
use mathlib.Core.Path.{sym}
use native.Mathlib.Omega.{arith}
use Rattle.walk.proofs.Turn.{bottom, decides_here, onward}
use Rattle.walk.proofs.check.Goals as goal

pub returns-then-left-eq0 : goal.returns-then-left-eq0
returns-then-left-eq0 c = bottom _ _ _ _ _ _ c.if-left-eq0.true c.loop-left.invariant.1

pub returns-in-Some : goal.returns-in-Some
returns-in-Some c =
    let said = c.in-Some.ensures c.args.target c.with-asked.ensures in
    decides_here _ _ _ _ _ c.loop-left.left c.if-left-eq0.false c.loop-left.invariant.1 _ (sym (rw c.frame_at.ensures at said))

pub loop-left-preserved : goal.loop-left-preserved
loop-left-preserved c =
    let said = c.in_default.ensures c.args.target c.with-asked.ensures in (
      omega (arith, c.loop-left.invariant.0),
      onward _ _ _ _ _ c.loop-left.left c.if-left-eq0.false c.loop-left.invariant.1 (sym (rw c.frame_at.ensures at said)),
    )
