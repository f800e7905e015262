-- Each callee gives exactly what its operation comes to, and that serves the belief sets (Kept).
use Rattle.words.specs.Words.{barred}
use Rattle.walk.proofs.Kept.{served}
use Rattle.walk.proofs.serve.Goals as goal

pub returns-in-Call : goal.returns-in-Call
returns-in-Call c = served _ _ c.told-state _ _ _ (rw c.in-Call.is c.call.ensures)

pub returns-in-Return : goal.returns-in-Return
unfolding barred
returns-in-Return c = served _ _ c.told-state _ _ _ (rw c.in-Return.is c.leave.ensures)

pub returns-in-Enable : goal.returns-in-Enable
unfolding barred
returns-in-Enable c = let is = c.in-Enable.is in served _ _ c.told-state _ _ _ (rw is (rw is at c.mark.ensures))

pub returns-in-Disable : goal.returns-in-Disable
unfolding barred
returns-in-Disable c = let is = c.in-Disable.is in served _ _ c.told-state _ _ _ (rw is (rw is at c.mark-in-Disable.ensures))

pub returns-in-Revert : goal.returns-in-Revert
unfolding barred
returns-in-Revert c = let is = c.in-Revert.is in served _ _ c.told-state _ _ _ (rw is (rw is at c.mark-in-Revert.ensures))

pub returns-in-Check : goal.returns-in-Check
returns-in-Check c = served _ _ c.told-state _ _ _ (rw c.in-Check.is c.ask.ensures)
