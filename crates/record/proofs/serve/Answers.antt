-- Each callee gives exactly what its operation comes to, and that serves the belief sets (Kept).
use borrow.Author.Rules.{rules}
use mathlib.Core.List.{List}
use Prim.Native.Nat.{ℕ}
use Rattle.answers.specs.Answer.{Answer, Gives}
use Rattle.words.specs.Words.{barred}
use Rattle.beliefs.specs.Engine.{acts, Serve}
use Rattle.record.specs.Pictures.{by_record}
use Rattle.record.proofs.Kept.{served}
use Rattle.record.proofs.serve.Goals as goal
use Rattle.record.proofs.serve.Goals.{Start}

out : (c : goal.Start) (r : Answer) (left : List ℕ)
    → let a = c.args in
    Gives r left (acts by_record a.policy.now a.op a.state.now) → Serve by_record a.policy.now a.state.now a.op r left
out c r left g = served _ _ (search rules) _ r left g

pub returns-in-Call : goal.returns-in-Call
returns-in-Call c = out (goal.at.returns-in-Call c).Start _ _ (rw c.in-Call.is c.call.ensures)

pub returns-in-Return : goal.returns-in-Return
unfolding barred
returns-in-Return c = out (goal.at.returns-in-Return c).Start _ _ (rw c.in-Return.is c.leave.ensures)

pub returns-in-Enable : goal.returns-in-Enable
unfolding barred
returns-in-Enable c =
    out (goal.at.returns-in-Enable c).Start _ _ (rw c.in-Enable.is (rw (c.with.ensures, c.held.ensures) at c.hold.ensures))

pub returns-in-Disable : goal.returns-in-Disable
unfolding barred
returns-in-Disable c = out (goal.at.returns-in-Disable c).Start _ _ (rw c.in-Disable.is c.hold-in-Disable.ensures)

pub returns-in-Revert : goal.returns-in-Revert
unfolding barred
returns-in-Revert c =
    out (goal.at.returns-in-Revert c).Start _ _ (rw c.in-Revert.is (rw (c.without.ensures, c.held-in-Revert.ensures) at c.hold-in-Revert.ensures))

pub returns-in-Check : goal.returns-in-Check
returns-in-Check c = out (goal.at.returns-in-Check c).Start _ _ (rw c.in-Check.is c.ask.ensures)
