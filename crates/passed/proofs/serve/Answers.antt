-- `words::barred` says whether the operation is refused, `led` where it leads; the rest of the promise is the law `served`.
use Rattle.std.proofs.lemmas.Result.{err_from_is_err_and}
use Rattle.answers.proofs.Refusals.{some_number}
use Rattle.passed.specs.Does.{next_of}
use Rattle.passed.proofs.Kept.{served}
use Rattle.passed.proofs.serve.Goals as goal

pub returns-in_err-barred : goal.returns-in_err-barred
unfolding next_of
returns-in_err-barred c =
    let p = err_from_is_err_and c.from_residual.result c.from_residual.ensures.1 in
    rw (p.1, p.2) (served _ _ _ _ (rw (← c.in_err-barred.ensures, some_number c.in_err-barred.field-0.0)))

pub returns : goal.returns
unfolding next_of
returns c = served _ _ _ _ (rw (← c.in_ok-barred.ensures) c.led.ensures)
