-- The tests come in the definition's order, and each callee says what its part of the definition is.
use borrow.Author.Tests.{le-leb}
use Prim.Native.Nat.{◌≤◌}
use lib.ListN.{get_or}
use native.Mathlib.Omega.{arith}
use Rattle.walk.specs.Fits.{fits}
use Rattle.walk.proofs.valid.Goals as goal

pub returns-then-frames_fit : goal.returns-then-frames_fit
unfolding fits
returns-then-frames_fit c =
    let room : get_or c.args.state.now 0 0 ≤ 63 = omega arith in
    rw (le-leb _ 63 room, ← c.frames_fit.ensures, c.if-frames_fit.true) c.unused_above.ensures
