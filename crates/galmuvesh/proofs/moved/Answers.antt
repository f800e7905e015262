-- Let through, the words are those of the state that the operation leads to, else as they were lent; what is exactly given serves the belief sets (Passing).
use mathlib.Core.Path.{ap, ◌∙◌}
use Rattle.std.proofs.lemmas.Result.{err_from_is_err_and}
use Rattle.answers.proofs.Refusals.{some_number}
use Rattle.passed.specs.declared.Passed.{Passed}
use Rattle.passed.specs.Does.{words_of, refused_by}
use Rattle.galmuvesh.specs.Boundary.{after}
use Rattle.galmuvesh.proofs.Passing.{moves_by}
use Rattle.galmuvesh.proofs.moved.Goals as goal

pub returns-in_err-refusal : goal.returns-in_err-refusal
returns-in_err-refusal c =
    let a = c.args in
    let p = err_from_is_err_and c.from_residual.result c.from_residual.ensures.1 in
    rw (p.1, p.2)
    (moves_by _ _ _ c.requires _ _ (c.in_err-refusal.ensures ∙ ap (λ (s : Passed). refused_by a.policy.now s a.op) c.from-s.ensures)
    (rw (some_number c.in_err-refusal.field-0.0)))

pub returns : goal.returns
returns c =
    let a = c.args in
    moves_by _ _ _ c.requires _ _ (c.in_ok-refusal.ensures ∙ ap (λ (s : Passed). refused_by a.policy.now s a.op) c.from-s.ensures)
    (c.from.ensures ∙ ap words_of (c.after.ensures ∙ ap (λ (s : Passed). after a.policy.now s a.op) c.from-s.ensures))
