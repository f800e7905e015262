-- Call looks at the signer, return at neither, every other operation at the target.
use mathlib.Core.Logic.{◌⊎◌, ⊎_elim}
use mathlib.Core.Path.{◌≡◌, sym, ◌∙◌}
use Prim.Native.Nat.{ℕ}
use lib.Dec.{ltb}
use Rattle.answers.proofs.Refusals.{unless_number}
use Rattle.answers.specs.Numbers.{no_target, unless}
use Rattle.words.specs.declared.Operation.{Operation}
use Rattle.words.specs.declared.Operation.TheVariants.{Enable, Disable, Revert, Check}
use Rattle.words.specs.Words.{outside}
use Rattle.words.proofs.outside.Goals as goal

-- an operation that uses a target
aims : (s n : ℕ) (op : Operation) (t : ℕ) → (op ≡ Enable t) ⊎ ((op ≡ Disable t) ⊎ ((op ≡ Revert t) ⊎ (op ≡ Check t)))
    → outside s n op ≡ unless (ltb t n) no_target
unfolding outside
aims s n op t = ⊎_elim (λ e. rw e) (⊎_elim (λ e. rw e) (⊎_elim (λ e. rw e) (λ e. rw e)))

pub returns-in-Call : goal.returns-in-Call
unfolding outside
returns-in-Call c = rw c.in-Call.is (unless_number _ _ _ c.unless.ensures)

pub returns-in-Return : goal.returns-in-Return
unfolding outside
returns-in-Return c = rw c.in-Return.is

pub returns-in-Enable : goal.returns-in-Enable
returns-in-Enable c = unless_number _ _ _ c.unless-in-Enable.ensures ∙ sym (aims _ _ _ _ c.in-Enable.is)
