-- Each promise fixes its result: of two results that both keep it, one is the other. Assumes nothing.
use mathlib.Core.Path.{refl}
use Rattle.bits.proofs.Unique.{Fixes, one_result, alone}
use Rattle.answers.proofs.Unique.{refused_unique}
use Rattle.passed.proofs.Led.{one_led}
use Rattle.passed.specs.contracts as contracts
use Rattle.passed.proofs.PassedFromState.from as passed_from
use Rattle.passed.proofs.StateFromPassed.from as state_from
use Rattle.passed.proofs.Passed.fresh as fresh
use Rattle.passed.proofs.Passed.call as call
use Rattle.passed.proofs.Passed.enable as enable
use Rattle.passed.proofs.Passed.disable as disable
use Rattle.passed.proofs.Passed.revert as revert
use Rattle.passed.proofs.Passed.check as check
use Rattle.passed.proofs.serve as serve
use Rattle.passed.proofs.valid as valid
use Rattle.passed.proofs.refusal as refusal

pub passed_from_unique : Fixes contracts.PassedFromState.from.ended passed_from.Reads.Post
passed_from_unique _ _ _ _ _ _ = alone

pub state_from_unique : Fixes contracts.StateFromPassed.from.ended state_from.Reads.Post
state_from_unique _ _ _ _ _ _ = alone

pub fresh_unique : Fixes contracts.Passed.fresh.ended fresh.Reads.Post
fresh_unique _ _ _ _ _ _ h k = alone h.exact k.exact

pub call_unique : Fixes contracts.Passed.call.ended call.Reads.Post
call_unique _ _ _ _ _ _ = alone

pub enable_unique : Fixes contracts.Passed.enable.ended enable.Reads.Post
enable_unique _ _ _ _ _ _ = alone

pub disable_unique : Fixes contracts.Passed.disable.ended disable.Reads.Post
disable_unique _ _ _ _ _ _ = alone

pub revert_unique : Fixes contracts.Passed.revert.ended revert.Reads.Post
revert_unique _ _ _ _ _ _ = alone

pub check_unique : Fixes contracts.Passed.check.ended check.Reads.Post
check_unique _ _ _ _ _ _ = alone

pub serve_unique : Fixes contracts.serve.ended serve.Reads.Post
serve_unique _ _ _ _ _ _ h k = (one_led (one_result h.exact k.exact), refl)

pub valid_unique : Fixes contracts.valid.ended valid.Reads.Post
valid_unique _ _ _ _ _ _ = alone

pub refusal_unique : Fixes contracts.refusal.ended refusal.Reads.Post
refusal_unique _ _ _ _ _ _ = refused_unique
