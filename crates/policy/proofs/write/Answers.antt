-- The tests come in the definition's order, and each callee says what its part of the definition is.
use borrow.Author.Tests.{leb-true}
use mathlib.Core.Path.{◌≡◌, refl, sym}
use native.Mathlib.Omega.{arith}
use Rattle.std.proofs.lemmas.Result.{err_from_is_err_and}
use Rattle.std.specs.Prelude.{Ok, Err}
use lib.Dec.{leb}
use lib.ListN.{length}
use Rattle.answers.specs.Numbers.{no_room, unless}
use Rattle.answers.proofs.Numbers.{held, room}
use Rattle.answers.proofs.Refusals.{some_number, unless_number}
use Rattle.beliefs.specs.Policy.{signers, targets, size, writing}
use Rattle.beliefs.proofs.Policy.{ranges, let_in}
use Rattle.policy.proofs.write.Goals as goal
use Rattle.policy.proofs.write.Goals.{After-size-wanted, In_ok-unless}

-- the bytes wanted, as the definition counts them
wanted : (c : goal.After-size-wanted)
    → let p = c.args.policy.now in c.size-wanted.result ≡ size (signers p) (targets p)
wanted c = rw (← c.targets.ensures, ← c.signers.ensures) c.size-wanted.ensures

-- and there is room for them
passed : (c : goal.In_ok-unless) → 0 ≡ unless (leb c.size-wanted.result (length c.args.bytes.now)) no_room
passed c = unless_number _ _ (Ok tt) c.in_ok-unless.ensures

pub returns-in_err-refusal : goal.returns-in_err-refusal
unfolding writing
returns-in_err-refusal c =
    let p = err_from_is_err_and c.from_residual.result c.from_residual.ensures.1 in
    let no = some_number c.in_err-refusal.field-0.0 in
    rw (p.1, p.2, ← c.in_err-refusal.ensures, no, no) (record { number = refl; figure = refl; buffer = refl })

pub size-wanted-requires : goal.size-wanted-requires
size-wanted-requires c = let r = ranges _ (let_in _ (sym c.in_ok-refusal.ensures)) in omega arith

pub returns-in_err-unless : goal.returns-in_err-unless
unfolding writing
returns-in_err-unless c =
    let p = err_from_is_err_and c.from_residual-in_err-unless.result c.from_residual-in_err-unless.ensures.1 in
    rw (
      p.1,
      p.2,
      ← c.in_ok-refusal.ensures,
      ← wanted (goal.at.returns-in_err-unless c).After-size-wanted,
      ← room _ _,
      ← unless_number _ _ (Err c.in_err-unless.field-0.0) c.in_err-unless.ensures,
      some_number c.in_err-unless.field-0.0,
    )
    (record { number = refl; figure = refl; buffer = refl })

pub put-requires : goal.put-requires
put-requires c = (
  let_in _ (sym c.in_ok-refusal.ensures),
  rw (← wanted (goal.at.put-requires c).After-size-wanted) (leb-true _ _ (held _ 8 (sym (passed (goal.at.put-requires c).In_ok-unless)))),
)

pub returns : goal.returns
unfolding writing
returns c =
    rw (← c.in_ok-refusal.ensures, ← wanted (goal.at.returns c).After-size-wanted, ← room _ _, ← passed (goal.at.returns c).In_ok-unless)
    (record { number = refl; figure = refl; buffer = c.put.ensures })
