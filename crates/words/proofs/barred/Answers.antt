-- Call looks at the greatest depth, every other operation at depth 0.
use mathlib.Core.Path.{◌≡◌, refl, ◌∙◌}
use Prim.Native.Nat.{ℕ}
use Rattle.words.specs.declared.Operation.{Operation}
use Rattle.words.specs.declared.Operation.TheVariants.{Call, Return, Enable, Disable, Revert, Check}
use Rattle.words.specs.Words.{framed, barred}
use Rattle.words.proofs.barred.Goals as goal

-- an operation that is not call
other : (depth : ℕ) (op : Operation) → ((g : ℕ) → op ≡ Call g → ⊥) → framed depth ≡ barred depth op
unfolding barred
other depth (Call g) h = absurd (h g refl)
other depth Return h = refl
other depth (Enable t) h = refl
other depth (Disable t) h = refl
other depth (Revert t) h = refl
other depth (Check t) h = refl

pub returns-in-Call : goal.returns-in-Call
unfolding barred
returns-in-Call c = rw c.in-Call.is c.deeper.ensures

pub returns-in_default : goal.returns-in_default
returns-in_default c = c.framed.ensures ∙ other _ _ c.in_default.not-Call
