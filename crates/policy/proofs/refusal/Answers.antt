-- Number 13 where the value is not valid.
use mathlib.Core.Path.{ap, ◌∙◌}
use mathlib.Core.Bool.{Bool}
use Rattle.answers.proofs.Refusals.{unless_number}
use Rattle.answers.specs.Numbers.{bad_policy, unless}
use Rattle.beliefs.specs.Policy.{refusal}
use Rattle.policy.proofs.refusal.Goals as goal

pub returns : goal.returns
unfolding refusal
returns c = unless_number _ _ _ c.unless.ensures ∙ ap (λ (b : Bool). unless b bad_policy) c.valid.ensures
