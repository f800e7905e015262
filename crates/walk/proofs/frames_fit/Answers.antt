-- A frame whose signer is below S has its marks tested with those of the frames before it (Fits).
use Prim.Native.Nat.{◌<◌}
use Rattle.beliefs.specs.Policy.{signers}
use Rattle.walk.specs.Layout.{frame_at}
use Rattle.walk.proofs.Fits.{one_in_use}
use Rattle.walk.proofs.frames_fit.Goals as goal

pub loop-k-preserved : goal.loop-k-preserved
loop-k-preserved c =
    let a = c.args in
    let m = c.frame_at-frame in
    let below_s : (frame_at a.state.now c.loop-k.k).signer < signers a.policy.now = rw (← c.signers-signers.ensures, ← m.ensures) c.if-signers-frame.false in
    rw m.ensures (one_in_use a.policy.now a.state.now c.loop-k.k c.loop-k.marks c.loop-k.invariant below_s)
