-- A bit of what the frame would be granted is the verdict.
use mathlib.Core.Path.{ap, ◌∙◌}
use Prim.Native.Nat.{ℕ}
use Rattle.bits.specs.Bit.{bit}
use Rattle.passed.proofs.Kept.{granted_bit}
use Rattle.passed.proofs.Passed.check.Goals as goal

pub returns : goal.returns
returns c =
    let a = c.args in
    c.has.ensures ∙ ap (λ (w : ℕ). bit w a.target) c.granted-granted.ensures ∙ granted_bit a.policy.now a.self a.target
