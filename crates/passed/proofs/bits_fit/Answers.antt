-- The tests come in the definition's order, and `bits::fits` says what a word's bound is.
use native.Mathlib.Omega.{arith}
use borrow.Author.Tests.{eq-eqb, ne_eqb}
use Rattle.passed.proofs.bits_fit.Goals as goal

pub returns-then-not-fits : goal.returns-then-not-fits
returns-then-not-fits c = rw (← c.fits.ensures, c.if-not-fits.true)

pub returns-then-s-eq1 : goal.returns-then-s-eq1
returns-then-s-eq1 c =
    let s = c.args.s in
    rw (← c.fits.ensures, c.if-not-fits.false, eq-eqb s.depth 1 (omega arith))

pub returns : goal.returns
returns c =
    let s = c.args.s in
    rw (← c.fits.ensures, c.if-not-fits.false, ne_eqb s.depth 1 (omega arith))
    c.fits-2.ensures
