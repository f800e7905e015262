-- After t turns the first t words are those of the start.
use mathlib.Core.Path.{◌≡◌, sym}
use native.Mathlib.Omega.{arith}
use Rattle.record.specs.Does.{start_word}
use Rattle.record.proofs.Frames.{filled_none, filled_more}
use Rattle.record.proofs.start.Goals as goal

pub loop-t-init : goal.loop-t-init
loop-t-init c = sym (filled_none _ _ _)

pub loop-t-preserved : goal.loop-t-preserved
unfolding start_word
loop-t-preserved c = filled_more _ _ _ _ _ _ _ (omega arith) c.loop-t.invariant (rw (← c.start_targets-n.ensures) c.start_word.ensures)

pub returns : goal.returns
returns c = let e : c.loop-t.t ≡ 64 = omega arith in rw e at c.loop-t.invariant
