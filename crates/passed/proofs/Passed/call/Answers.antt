-- The tests come in the definition's order; what goes down is what `granted` says.
use borrow.Author.Tests.{lt-ltb, le-ltb, eq-eqb, ne_eqb}
use Rattle.passed.specs.Does.{call_of}
use Rattle.passed.proofs.Passed.call.Goals as goal

pub returns-then-self-ge-DEPTH_MOST : goal.returns-then-self-ge-DEPTH_MOST
unfolding call_of
returns-then-self-ge-DEPTH_MOST c = rw (le-ltb _ _ c.if-self-ge-DEPTH_MOST.true)

pub returns-then-self-eq0 : goal.returns-then-self-eq0
unfolding call_of
returns-then-self-eq0 c = rw (lt-ltb _ _ c.if-self-ge-DEPTH_MOST.false, eq-eqb _ _ c.if-self-eq0.true, c.start_marks-handed.ensures)

pub returns : goal.returns
unfolding call_of
returns c = rw (lt-ltb _ _ c.if-self-ge-DEPTH_MOST.false, ne_eqb _ _ c.if-self-eq0.false, c.granted-granted.ensures)
