-- The tests of the word of the bit are the tests of the bit, in the definition's order.
use Rattle.beliefs.specs.Policy.{permits}
use Rattle.walk.proofs.decided.Goals as goal

pub returns-then-meet : goal.returns-then-meet
unfolding permits
returns-then-meet c t e = rw (← c.row.ensures, ← c.if-not-meet.ensures.alone t e, ← c.if-meet.ensures.alone t e)
