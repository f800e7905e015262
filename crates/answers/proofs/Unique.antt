-- Each promise fixes its result: of two results that both keep it, one is the other. Assumes nothing.
use mathlib.Core.Path.{◌≡◌, refl}
use mathlib.Core.List.{List}
use Prim.Native.Nat.{ℕ}
use denote.RattleType.{RattleType}
use denote.Param.Laws.{Laws}
use mir.Syntax.{Dict}
use Rattle.bits.proofs.Unique.{Fixes, one_result, alone}
use Rattle.std.specs.Prelude.{Result}
use Rattle.answers.specs.declared.Refusal.{Refusal}
use Rattle.answers.specs.declared.Stop.{Stop}
use Rattle.answers.specs.Account.{Account, Report, report_of, Reports}
use Rattle.answers.specs.Answer.{answer_of, Moved, Gives, Operated}
use Rattle.answers.specs.Numbers.{number_of}
use Rattle.answers.proofs.Refusals.{one_refused, one_answer, one_report}
use Rattle.answers.specs.contracts as contracts
use Rattle.answers.proofs.Refusal.number as number
use Rattle.answers.proofs.Refusal.at as at
use Rattle.answers.proofs.done as done
use Rattle.answers.proofs.verdict as verdict
use Rattle.answers.proofs.verdict_byte as verdict_byte
use Rattle.answers.proofs.unless as unless
use Rattle.answers.proofs.StopFromRefusal.from as from

pub number_unique : Fixes contracts.Refusal.number.ended number.Reads.Post
number_unique _ _ _ _ _ _ = alone

pub at_unique : Fixes contracts.Refusal.at.ended at.Reads.Post
at_unique _ _ _ _ _ _ = alone

pub from_unique : Fixes contracts.StopFromRefusal.from.ended from.Reads.Post
from_unique _ _ _ _ _ _ = alone

pub done_unique : Fixes contracts.done.ended done.Reads.Post
done_unique _ _ _ _ _ _ = alone

pub verdict_unique : Fixes contracts.verdict.ended verdict.Reads.Post
verdict_unique _ _ _ _ _ _ = alone

pub verdict_byte_unique : Fixes contracts.verdict_byte.ended verdict_byte.Reads.Post
verdict_byte_unique _ _ _ _ _ _ = alone

-- for every function that refuses or says nothing: the refusal
pub refused_unique {ℓ} : {W : Type ℓ} {w : W} {n : ℕ} {r q : Result Unit Refusal} → number_of r ≡ n → number_of q ≡ n → (r ≡ q) × (w ≡ w)
refused_unique h k = (one_refused (one_result h k), refl)

pub unless_unique : (E : RattleType) (l : Laws E) (d : Dict) → Fixes (contracts.unless.ended E d) (unless.Reads.Post E l d)
unless_unique _ _ _ _ _ _ _ _ _ h k = (one_result h k, λ i. (tt, (tt, tt)))

-- for every function that reports: the report and what is left in the lent buffer, which is handed over at its place among the parameters
pub reports_unique {ℓ} : {W : Type ℓ} (place : List ℕ → W) {lent left other : List ℕ} {a : Account} {r q : Report}
    → Reports r lent left a → Reports q lent other a → (r ≡ q) × (place left ≡ place other)
reports_unique place h k = (
  λ i. record { number = one_result h.number k.number i; figure = one_result h.figure k.figure i },
  λ i. place (one_result h.buffer k.buffer i),
)

-- the same where it comes as a result
pub reported_unique {ℓ} : {W : Type ℓ} (place : List ℕ → W) {lent left other : List ℕ} {a : Account} {r q : Result ℕ Stop}
    → Reports (report_of r) lent left a → Reports (report_of q) lent other a → (r ≡ q) × (place left ≡ place other)
reported_unique place h k = let same = reports_unique place h k in (one_report same.0, same.1)

-- for every engine: the answer and the words left
pub gives_unique {ℓ} : {W : Type ℓ} (place : List ℕ → W) {m : Moved (List ℕ)} {r q : Result ℕ Refusal} {left other : List ℕ}
    → Gives (answer_of r) left m → Gives (answer_of q) other m → (r ≡ q) × (place left ≡ place other)
gives_unique place h k = (
  one_answer (λ i. record { number = one_result h.number k.number i; byte = one_result h.byte k.byte i }),
  λ i. place (one_result h.state k.state i),
)

-- and where the number is returned, and the byte goes through a pointer
pub operated_unique {ℓ} : {W : Type ℓ} (place : List ℕ → ℕ → W) {m : Moved (List ℕ)} {lent n k b c : ℕ} {left other : List ℕ}
    → Operated lent n b left m → Operated lent k c other m → (n ≡ k) × (place left b ≡ place other c)
operated_unique place h k =
    (one_result h.number k.number, λ i. place (one_result h.state k.state i) (one_result h.answer k.answer i))
