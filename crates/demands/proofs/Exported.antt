-- The promises of the C boundary are its functions' own clauses: each follows from what the kit makes of the clause, as it stands. Assumes nothing.
use mathlib.Core.Path.{◌≡◌}
use mathlib.Core.Bool.{true, false}
use contract.Lifetimes.{Lfts}
use denote.Triple.Clauses.{Ended, Lasts, at_exit}
use denote.Triple.Entry.{Args, Res}
use Rattle.bits.proofs.Unique.{Clause}
use Rattle.words.specs.declared.Operation.TheVariants.{Call, Enable, Disable, Revert}
use Rattle.beliefs.specs.Engine.{Operate}
use Rattle.policy.specs.Read.{PolicyRead, cut_at}
use Rattle.walk.specs.Pictures.{by_walk}
use Rattle.record.specs.Pictures.{by_record}
use Rattle.galmuvesh.specs.Boundary.{Moves, Asks}
use Rattle.galmuvesh.specs.contracts as contracts
use Rattle.galmuvesh.proofs.galmuvesh_policy_read as policy_read
use Rattle.galmuvesh.proofs.galmuvesh_policy_cut as policy_cut
use Rattle.galmuvesh.proofs.galmuvesh_policy_write as policy_write
use Rattle.galmuvesh.proofs.galmuvesh_walk_run as walk_run
use Rattle.galmuvesh.proofs.galmuvesh_record_run as record_run
use Rattle.galmuvesh.proofs.galmuvesh_passed_run as passed_run
use Rattle.galmuvesh.proofs.galmuvesh_walk_operate as walk_operate
use Rattle.galmuvesh.proofs.galmuvesh_record_operate as record_operate
use Rattle.galmuvesh.proofs.galmuvesh_passed_call as passed_call
use Rattle.galmuvesh.proofs.galmuvesh_passed_enable as passed_enable
use Rattle.galmuvesh.proofs.galmuvesh_passed_disable as passed_disable
use Rattle.galmuvesh.proofs.galmuvesh_passed_revert as passed_revert
use Rattle.galmuvesh.proofs.galmuvesh_passed_check as passed_check
use Rattle.galmuvesh.proofs.galmuvesh_derivation_write as derivation_write
use Rattle.galmuvesh.proofs.galmuvesh_derivation_check as derivation_check
use Rattle.demands.specs.Exported.{PolicyWrote, Ran, DerivationWrote, DerivationChecked}

-- of every call, with any arguments: what its clause says of its result, and of what it leaves in everything that was lent to be changed
abbrev Promises : (T : Ended) → Clause T → ((κs : Lfts T.signature.lifetimes) (a : Args T.signature κs) → Res T.signature κs → Lasts T κs a → Type 0)
    → Type 0
Promises T Promise Says = (κs : Lfts T.signature.lifetimes) (a : Args T.signature κs) (r : Res T.signature κs) (left : Lasts T κs a)
    → Promise κs a r (at_exit T κs a left) → Says κs a r left

pub policy_reads : Promises contracts.galmuvesh_policy_read.ended policy_read.Reads.Post (λ κs a r left. PolicyRead a.0.now a.1.0.now r left.1.0)
policy_reads κs a r left h = h

pub policy_cuts : Promises contracts.galmuvesh_policy_cut.ended policy_cut.Reads.Post (λ κs a r left. r ≡ cut_at a.0.now)
policy_cuts κs a r left h = h

pub policy_writes : Promises contracts.galmuvesh_policy_write.ended policy_write.Reads.Post (λ κs a r left. PolicyWrote a.0.now a.1.0.now r left.1.1.0 left.1.0)
policy_writes κs a r left h = h

pub walk_runs : Promises contracts.galmuvesh_walk_run.ended walk_run.Reads.Post
    (λ κs a r left. Ran true a.0.now a.1.0.now a.1.1.0.now r left.1.1.1.0 left.1.1.0)
walk_runs κs a r left h = h

pub record_runs : Promises contracts.galmuvesh_record_run.ended record_run.Reads.Post
    (λ κs a r left. Ran false a.0.now a.1.0.now a.1.1.0.now r left.1.1.1.0 left.1.1.0)
record_runs κs a r left h = h

pub passed_runs : Promises contracts.galmuvesh_passed_run.ended passed_run.Reads.Post
    (λ κs a r left. Ran false a.0.now a.1.0.now a.1.1.0.now r left.1.1.1.0 left.1.1.0)
passed_runs κs a r left h = h

pub walk_operates : Promises contracts.galmuvesh_walk_operate.ended walk_operate.Reads.Post
    (λ κs a r left. Operate by_walk a.0.now a.1.0.now a.1.1.0 a.1.1.1.0.now r left.1.1.1.0 left.1.0)
walk_operates κs a r left h = h

pub record_operates : Promises contracts.galmuvesh_record_operate.ended record_operate.Reads.Post
    (λ κs a r left. Operate by_record a.0.now a.1.0.now a.1.1.0 a.1.1.1.0.now r left.1.1.1.0 left.1.0)
record_operates κs a r left h = h

pub passed_calls : Promises contracts.galmuvesh_passed_call.ended passed_call.Reads.Post (λ κs a r left. Moves a.0.now a.1.0.now (Call a.1.1.0) r left.1.0)
passed_calls κs a r left h = h

pub passed_enables : Promises contracts.galmuvesh_passed_enable.ended passed_enable.Reads.Post
    (λ κs a r left. Moves a.0.now a.1.0.now (Enable a.1.1.0) r left.1.0)
passed_enables κs a r left h = h

pub passed_disables : Promises contracts.galmuvesh_passed_disable.ended passed_disable.Reads.Post
    (λ κs a r left. Moves a.0.now a.1.0.now (Disable a.1.1.0) r left.1.0)
passed_disables κs a r left h = h

pub passed_reverts : Promises contracts.galmuvesh_passed_revert.ended passed_revert.Reads.Post
    (λ κs a r left. Moves a.0.now a.1.0.now (Revert a.1.1.0) r left.1.0)
passed_reverts κs a r left h = h

pub passed_checks : Promises contracts.galmuvesh_passed_check.ended passed_check.Reads.Post
    (λ κs a r left. Asks a.0.now a.1.0.now a.1.1.0 r a.1.1.1.0.now left.1.1.1.0)
passed_checks κs a r left h = h

pub derivation_writes : Promises contracts.galmuvesh_derivation_write.ended derivation_write.Reads.Post
    (λ κs a r left. DerivationWrote a.0.now a.1.0.now a.1.1.0 a.1.1.1.0.now r left.1.1.1.1.0 left.1.1.1.0)
derivation_writes κs a r left h = h

pub derivation_checks : Promises contracts.galmuvesh_derivation_check.ended derivation_check.Reads.Post
    (λ κs a r left. DerivationChecked a.0.now a.1.0.now a.1.1.0 a.1.1.1.0.now r left.1.1.1.1.0)
derivation_checks κs a r left h = h
