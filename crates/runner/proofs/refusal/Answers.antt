-- The tests come in the definition's order.
use mathlib.Core.Path.{◌∙◌}
use Rattle.std.proofs.lemmas.Result.{err_from_is_err_and}
use Rattle.std.specs.Prelude.{Ok, Err}
use Rattle.answers.proofs.Numbers.{room}
use Rattle.answers.proofs.Refusals.{first_refuses, first_passes, unless_number}
use Rattle.beliefs.specs.Trace.{run_refusal}
use Rattle.runner.proofs.refusal.Goals as goal

pub returns-in_err-refusal : goal.returns-in_err-refusal
unfolding run_refusal
returns-in_err-refusal c =
    let p = err_from_is_err_and c.from_residual.result c.from_residual.ensures.1 in
    rw (p.1, p.2) (first_refuses _ _ _ c.in_err-refusal.ensures)

pub returns-in_err-unless : goal.returns-in_err-unless
unfolding run_refusal
returns-in_err-unless c =
    let p = err_from_is_err_and c.from_residual-in_err-unless.result c.from_residual-in_err-unless.ensures.1 in
    rw (p.1, p.2) (first_passes _ _ _ c.in_ok-refusal.ensures (first_refuses _ _ _ (unless_number _ _ (Err c.in_err-unless.field-0.0) c.in_err-unless.ensures)))

pub returns : goal.returns
unfolding run_refusal
returns c =
    first_passes _ _ _ c.in_ok-refusal.ensures
    (first_passes _ _ _ (unless_number _ _ (Ok tt) c.in_ok-unless.ensures) (unless_number _ _ _ c.unless-2.ensures ∙ room _ _))
