-- Without room for what is shown, 9; the rest the search finds by the laws of the front door (Judged).
use mathlib.Core.Path.{◌≡◌, refl, sym}
use Rattle.std.specs.Prelude.{Ok}
use Rattle.std.proofs.lemmas.Result.{err_from_is_err_and}
use Rattle.answers.specs.Numbers.{forbidden, unless}
use Rattle.answers.proofs.Refusals.{some_number, unless_number, too_short}
use Rattle.derivation.proofs.Judged.{written_here}
use Rattle.derivation.proofs.write.Goals as goal

pub returns-in_err-unless-2 : goal.returns-in_err-unless-2
returns-in_err-unless-2 c =
    let p = err_from_is_err_and c.from_residual-in_err-unless-2.result c.from_residual-in_err-unless-2.ensures.1 in
    let granted : unless c.check-seen.result.granted forbidden ≡ 0 = sym (unless_number _ _ (Ok tt) c.in_ok-unless.ensures) in
    let no = some_number c.in_err-unless-2.field-0.0 in
    rw (
      p.1,
      p.2,
      written_here _ _ _ (sym c.in_ok-barred.ensures) c.check-seen.result c.check-seen.ensures _,
      granted,
      too_short _ _ _ c.in_err-unless-2.ensures,
      no,
    )
    (record { number = refl; figure = refl; buffer = refl })
