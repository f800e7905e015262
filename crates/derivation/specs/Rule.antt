-- The number of each rule, the two high bits of a step.
use Rattle.std.specs.Prelude.{ℕ}
use Rattle.derivation.specs.declared.Rule.{Rule}
use Rattle.derivation.specs.declared.Rule.TheVariants.{Take, Speak, Permit, Drop}

abbrev pub number : Rule → ℕ
number Take = 0
number Speak = 1
number Permit = 2
number Drop = 3
