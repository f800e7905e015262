-- Barred at once, or the account of the run with no frame.
use mathlib.Core.Path.{sym}
use mathlib.Core.Bool.{false}
use borrow.Author.Tests.{eqb-false}
use Rattle.std.proofs.lemmas.Result.{err_from_is_err_and}
use Rattle.answers.proofs.Refusals.{some_number}
use Rattle.runner.proofs.Progress.{at_once, in_the_end}
use Rattle.runner.proofs.Nested.{whole_run, whole_end}
use Rattle.runner.proofs.passed_run.Goals as goal

pub returns-in_err-refusal : goal.returns-in_err-refusal
returns-in_err-refusal c =
    let p = err_from_is_err_and c.from_residual.result c.from_residual.ensures.1 in
    rw (p.1, p.2) (at_once false _ _ _ _ c.in_err-refusal.ensures (eqb-false _ 0 (some_number c.in_err-refusal.field-0.0)))

pub frame_run-requires : goal.frame_run-requires
frame_run-requires c = sym c.in_ok-refusal.ensures

pub returns-in_err-at : goal.returns-in_err-at
returns-in_err-at c =
    let p = err_from_is_err_and c.from_residual-in_err-at.result c.from_residual-in_err-at.ensures.1 in
    rw (p.1, p.2)
    (in_the_end false _ _ _ (sym c.in_ok-refusal.ensures) _ _ _ (whole_run _ _ _ _ _ _ _ _ (c.fresh.ensures.pictures _) c.in_err-at.ensures))

pub returns-in-Back : goal.returns-in-Back
returns-in-Back c =
    in_the_end false _ _ _ (sym c.in_ok-refusal.ensures) _ _ _
    (whole_end _ _ _ _ _ _ _ c.in-Back.is (c.fresh.ensures.pictures _) c.in_ok-at.ensures)

pub returns-in-Back-2 : goal.returns-in-Back-2
returns-in-Back-2 c =
    in_the_end false _ _ _ (sym c.in_ok-refusal.ensures) _ _ _
    (whole_end _ _ _ _ _ _ _ c.in-Back.is (c.fresh.ensures.pictures _) c.in_ok-at.ensures)
