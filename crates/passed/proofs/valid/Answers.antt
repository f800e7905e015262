-- The tests come in the definition's order, and each callee says what its part of the definition is.
use borrow.Author.Tests.{lt-ltb, le-ltb, le-leb, lt-leb, eq-eqb, ne_eqb}
use Rattle.passed.specs.Fits.{fits}
use Rattle.passed.proofs.valid.Goals as goal

pub returns-then-s-eq0 : goal.returns-then-s-eq0
unfolding fits
returns-then-s-eq0 c = rw (eq-eqb _ _ c.if-s-eq0.true, c.eq.ensures, c.fresh.ensures.exact, eq-eqb _ _ c.if-s-eq0.true)

pub returns-then-s-gt-DEPTH_MOST : goal.returns-then-s-gt-DEPTH_MOST
unfolding fits
returns-then-s-gt-DEPTH_MOST c = rw (ne_eqb _ _ c.if-s-eq0.false, lt-leb _ _ c.if-s-gt-DEPTH_MOST.true)

pub returns-then-signers-s : goal.returns-then-signers-s
unfolding fits
returns-then-signers-s c =
    rw (ne_eqb _ _ c.if-s-eq0.false, le-leb _ _ c.if-s-gt-DEPTH_MOST.false, ← c.signers.ensures, le-ltb _ _ c.if-signers-s.true)

pub returns : goal.returns
unfolding fits
returns c =
    rw (
      ne_eqb _ _ c.if-s-eq0.false,
      le-leb _ _ c.if-s-gt-DEPTH_MOST.false,
      ← c.signers.ensures,
      lt-ltb _ _ c.if-signers-s.false,
      ← c.targets.ensures,
    )
    c.bits_fit.ensures
