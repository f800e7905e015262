-- Each promise fixes its result, and what is left in what is lent: of two that both keep it, one is the other. Assumes nothing.
use Rattle.bits.proofs.Unique.{Fixes, one_result, alone}
use Rattle.answers.proofs.Unique.{refused_unique, reported_unique}
use Rattle.answers.proofs.Refusals.{one_refused}
use Rattle.words.proofs.Words.{one_decoded}
use mathlib.Core.Path.{refl}
use Rattle.policy.specs.contracts as contracts
use Rattle.policy.proofs.is_full as is_full
use Rattle.policy.proofs.start_marks as start_marks
use Rattle.policy.proofs.signers as signers
use Rattle.policy.proofs.targets as targets
use Rattle.policy.proofs.row as row
use Rattle.policy.proofs.refusal as refusal
use Rattle.policy.proofs.refusal_in as refusal_in
use Rattle.policy.proofs.refusal_of as refusal_of
use Rattle.policy.proofs.decode as decode
use Rattle.policy.proofs.cut as cut
use Rattle.policy.proofs.read as read
use Rattle.policy.proofs.write as write

pub is_full_unique : Fixes contracts.is_full.ended is_full.Reads.Post
is_full_unique _ _ _ _ _ _ = alone

pub start_marks_unique : Fixes contracts.start_marks.ended start_marks.Reads.Post
start_marks_unique _ _ _ _ _ _ = alone

pub signers_unique : Fixes contracts.signers.ended signers.Reads.Post
signers_unique _ _ _ _ _ _ = alone

pub targets_unique : Fixes contracts.targets.ended targets.Reads.Post
targets_unique _ _ _ _ _ _ = alone

pub row_unique : Fixes contracts.row.ended row.Reads.Post
row_unique _ _ _ _ _ _ = alone

pub refusal_unique : Fixes contracts.refusal.ended refusal.Reads.Post
refusal_unique _ _ _ _ _ _ = refused_unique

pub refusal_in_unique : Fixes contracts.refusal_in.ended refusal_in.Reads.Post
refusal_in_unique _ _ _ _ _ _ = refused_unique

pub refusal_of_unique : Fixes contracts.refusal_of.ended refusal_of.Reads.Post
refusal_of_unique _ _ _ _ _ _ = refused_unique

pub decode_unique : Fixes contracts.decode.ended decode.Reads.Post
decode_unique _ _ _ _ _ _ h k = (one_decoded (one_result h k), refl)

pub cut_unique : Fixes contracts.cut.ended cut.Reads.Post
cut_unique _ _ _ _ _ _ = alone

pub read_unique : Fixes contracts.read.ended read.Reads.Post
read_unique _ _ _ _ _ _ h k = (one_refused (one_result h.number k.number), λ i. (tt, (one_result h.value k.value i, tt)))

pub write_unique : Fixes contracts.write.ended write.Reads.Post
write_unique _ _ _ _ _ _ = reported_unique (λ w. (tt, (w, tt)))
