-- The tests come in the definition's order.
use borrow.Author.Tests.{eq-eqb, ne_eqb, lt-ltb, le-ltb}
use Rattle.lines.specs.Page.{line_at}
use Rattle.lines.proofs.Run.line.Goals as goal

pub returns-then-place-eq0 : goal.returns-then-place-eq0
unfolding line_at
returns-then-place-eq0 c = rw (eq-eqb _ _ c.if-place-eq0.true) c.policy_text.ensures

pub returns-then-place-words : goal.returns-then-place-words
unfolding line_at
returns-then-place-words c =
    rw (ne_eqb _ _ c.if-place-eq0.false, ← c.words.ensures, lt-ltb _ _ c.if-place-words.true) c.word.ensures

pub returns-else-place-words : goal.returns-else-place-words
unfolding line_at
returns-else-place-words c =
    rw (ne_eqb _ _ c.if-place-eq0.false, ← c.words.ensures, le-ltb _ _ c.if-place-words.false) c.last.ensures
