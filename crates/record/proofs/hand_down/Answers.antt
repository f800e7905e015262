-- After t turns the words of the first t targets are one longer, and those that are read stay as they were.
use mathlib.Core.Path.{◌≡◌, sym, ap}
use native.Mathlib.Omega.{arith}
use Rattle.record.specs.Does.{longer}
use Rattle.record.proofs.Frames.{filled_none, filled_more, below_held}
use Rattle.record.proofs.hand_down.Goals as goal

pub loop-t-init : goal.loop-t-init
loop-t-init c = sym (filled_none _ _ _)

pub loop-t-preserved : goal.loop-t-preserved
loop-t-preserved c =
    let inv = c.loop-t.invariant in
    filled_more _ _ _ _ _ _ _ (omega arith) inv (ap longer (rw inv (below_held _ _ _ _ _ _ (omega arith) (omega arith))))

pub returns : goal.returns
returns c = let e : c.loop-t.t ≡ 64 = omega arith in rw e at c.loop-t.invariant
