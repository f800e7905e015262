-- Each promise fixes its report and the bytes left: of two that both keep it, one is the other. Assumes nothing.
use mathlib.Core.Path.{refl}
use Rattle.bits.proofs.Unique.{Fixes, one_result}
use Rattle.answers.proofs.Unique.{reported_unique}
use Rattle.answers.proofs.Refusals.{one_report}
use Rattle.derivation.specs.contracts as contracts
use Rattle.derivation.proofs.check as check
use Rattle.derivation.proofs.write as write

pub check_unique : Fixes contracts.check.ended check.Reads.Post
check_unique _ _ _ _ _ _ h k = (one_report (λ i. record { number = one_result h.number k.number i; figure = one_result h.figure k.figure i }), refl)

pub write_unique : Fixes contracts.write.ended write.Reads.Post
write_unique _ _ _ _ _ _ = reported_unique (λ w. (tt, (tt, (tt, (w, tt)))))
