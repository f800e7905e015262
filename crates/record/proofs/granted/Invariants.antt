-- At each turn the k newest frames are permitted, and none of the lengths below k is held.
use mathlib.Core.Path.{◌≡◌}
use mathlib.Core.Bool.{true, false}
use Prim.Native.Nat.{ℕ, ◌<◌}
use Rattle.bits.specs.Bit.{bit}
use Rattle.record.specs.Layout.{held}
use Rattle.record.specs.Does.{newest_permitted}
use Rattle.record.proofs.granted.Given as goal

abbrev pub invariant-loop-k : goal.invariant-loop-k
invariant-loop-k l = (newest_permitted l.policy l.target l.state l.k ≡ true) × ((i : ℕ) → i < l.k → bit (held l.state l.target) i ≡ false)
