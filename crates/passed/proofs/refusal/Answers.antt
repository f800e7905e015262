-- The policy's own order, with what `valid` says of the state.
use mathlib.Core.Path.{ap, ◌∙◌}
use mathlib.Core.Bool.{Bool}
use Rattle.beliefs.specs.Policy.{refusal_of}
use Rattle.passed.specs.Does.{refused_by}
use Rattle.passed.proofs.refusal.Goals as goal

pub returns : goal.returns
unfolding refused_by
returns c =
    let a = c.args in
    c.refusal_of.ensures ∙ ap (λ (fits : Bool). refusal_of a.policy.now fits a.s.depth a.op) c.valid.ensures
