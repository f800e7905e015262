-- Each C function's promise fixes what it returns and every word and byte that is lent to it: of two that keep it, one is the other.
-- Assumes nothing.
use mathlib.Core.Path.{◌≡◌}
use mathlib.Core.List.{List}
use Prim.Native.Nat.{ℕ}
use Rattle.bits.proofs.Unique.{Fixes, one_result}
use Rattle.answers.proofs.Unique.{operated_unique}
use Rattle.words.specs.declared.Operation.{Operation}
use Rattle.answers.specs.Account.{Account, Reports}
use Rattle.policy.proofs.Unique.{cut_unique}
use Rattle.galmuvesh.specs.Boundary.{report, Moves}
use Rattle.galmuvesh.specs.contracts as contracts
use Rattle.galmuvesh.proofs.galmuvesh_policy_read as galmuvesh_policy_read
use Rattle.galmuvesh.proofs.galmuvesh_policy_cut as galmuvesh_policy_cut
use Rattle.galmuvesh.proofs.galmuvesh_policy_write as galmuvesh_policy_write
use Rattle.galmuvesh.proofs.galmuvesh_walk_run as galmuvesh_walk_run
use Rattle.galmuvesh.proofs.galmuvesh_record_run as galmuvesh_record_run
use Rattle.galmuvesh.proofs.galmuvesh_passed_run as galmuvesh_passed_run
use Rattle.galmuvesh.proofs.galmuvesh_walk_operate as galmuvesh_walk_operate
use Rattle.galmuvesh.proofs.galmuvesh_record_operate as galmuvesh_record_operate
use Rattle.galmuvesh.proofs.galmuvesh_passed_call as galmuvesh_passed_call
use Rattle.galmuvesh.proofs.galmuvesh_passed_enable as galmuvesh_passed_enable
use Rattle.galmuvesh.proofs.galmuvesh_passed_disable as galmuvesh_passed_disable
use Rattle.galmuvesh.proofs.galmuvesh_passed_revert as galmuvesh_passed_revert
use Rattle.galmuvesh.proofs.galmuvesh_passed_check as galmuvesh_passed_check
use Rattle.galmuvesh.proofs.galmuvesh_derivation_write as galmuvesh_derivation_write
use Rattle.galmuvesh.proofs.galmuvesh_derivation_check as galmuvesh_derivation_check

pub galmuvesh_policy_read_unique : Fixes contracts.galmuvesh_policy_read.ended galmuvesh_policy_read.Reads.Post
galmuvesh_policy_read_unique _ _ _ _ _ _ h k = (one_result h.number k.number, λ i. (tt, (one_result h.value k.value i, tt)))

pub galmuvesh_policy_cut_unique : Fixes contracts.galmuvesh_policy_cut.ended galmuvesh_policy_cut.Reads.Post
galmuvesh_policy_cut_unique = cut_unique

-- the number, the figure, and what is left in the lent buffer; both are handed over at their places among the parameters
reported {ℓ} : {W : Type ℓ} (place : List ℕ → ℕ → W) {lent left other : List ℕ} {r q f g : ℕ} {a : Account}
    → Reports (report r f) lent left a → Reports (report q g) lent other a → (r ≡ q) × (place left f ≡ place other g)
reported place h k = (one_result h.number k.number, λ i. place (one_result h.buffer k.buffer i) (one_result h.figure k.figure i))

pub galmuvesh_policy_write_unique : Fixes contracts.galmuvesh_policy_write.ended galmuvesh_policy_write.Reads.Post
galmuvesh_policy_write_unique _ _ _ _ _ _ = reported (λ w f. (tt, (w, (f, tt))))

pub galmuvesh_walk_run_unique : Fixes contracts.galmuvesh_walk_run.ended galmuvesh_walk_run.Reads.Post
galmuvesh_walk_run_unique _ _ _ _ _ _ = reported (λ w f. (tt, (tt, (w, (f, tt)))))

pub galmuvesh_record_run_unique : Fixes contracts.galmuvesh_record_run.ended galmuvesh_record_run.Reads.Post
galmuvesh_record_run_unique _ _ _ _ _ _ = reported (λ w f. (tt, (tt, (w, (f, tt)))))

pub galmuvesh_passed_run_unique : Fixes contracts.galmuvesh_passed_run.ended galmuvesh_passed_run.Reads.Post
galmuvesh_passed_run_unique _ _ _ _ _ _ = reported (λ w f. (tt, (tt, (w, (f, tt)))))

pub galmuvesh_walk_operate_unique : Fixes contracts.galmuvesh_walk_operate.ended galmuvesh_walk_operate.Reads.Post
galmuvesh_walk_operate_unique _ _ _ _ _ _ h k = operated_unique (λ w b. (tt, (w, (tt, (b, tt))))) h.exact k.exact

pub galmuvesh_record_operate_unique : Fixes contracts.galmuvesh_record_operate.ended galmuvesh_record_operate.Reads.Post
galmuvesh_record_operate_unique _ _ _ _ _ _ h k = operated_unique (λ w b. (tt, (w, (tt, (b, tt))))) h.exact k.exact

-- the number, and what is left in the four words
moved {ℓ} : {W : Type ℓ} (place : List ℕ → W) {p s left other : List ℕ} {op : Operation} {r q : ℕ}
    → Moves p s op r left → Moves p s op q other → (r ≡ q) × (place left ≡ place other)
moved place h k = (one_result h.number k.number, λ i. place (one_result h.state k.state i))

pub galmuvesh_passed_call_unique : Fixes contracts.galmuvesh_passed_call.ended galmuvesh_passed_call.Reads.Post
galmuvesh_passed_call_unique _ _ _ _ _ _ = moved (λ w. (tt, (w, (tt, tt))))

pub galmuvesh_passed_enable_unique : Fixes contracts.galmuvesh_passed_enable.ended galmuvesh_passed_enable.Reads.Post
galmuvesh_passed_enable_unique _ _ _ _ _ _ = moved (λ w. (tt, (w, (tt, tt))))

pub galmuvesh_passed_disable_unique : Fixes contracts.galmuvesh_passed_disable.ended galmuvesh_passed_disable.Reads.Post
galmuvesh_passed_disable_unique _ _ _ _ _ _ = moved (λ w. (tt, (w, (tt, tt))))

pub galmuvesh_passed_revert_unique : Fixes contracts.galmuvesh_passed_revert.ended galmuvesh_passed_revert.Reads.Post
galmuvesh_passed_revert_unique _ _ _ _ _ _ = moved (λ w. (tt, (w, (tt, tt))))

pub galmuvesh_passed_check_unique : Fixes contracts.galmuvesh_passed_check.ended galmuvesh_passed_check.Reads.Post
galmuvesh_passed_check_unique _ _ _ _ _ _ h k = (one_result h.number k.number, λ i. (tt, (tt, (tt, (one_result h.answer k.answer i, tt)))))

pub galmuvesh_derivation_write_unique : Fixes contracts.galmuvesh_derivation_write.ended galmuvesh_derivation_write.Reads.Post
galmuvesh_derivation_write_unique _ _ _ _ _ _ = reported (λ w f. (tt, (tt, (tt, (w, (f, tt))))))

pub galmuvesh_derivation_check_unique : Fixes contracts.galmuvesh_derivation_check.ended galmuvesh_derivation_check.Reads.Post
galmuvesh_derivation_check_unique _ _ _ _ _ _ h k =
    (one_result h.number k.number, λ i. (tt, (tt, (tt, (tt, (one_result h.figure k.figure i, tt))))))
