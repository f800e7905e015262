-- Each way out knows which of the three fields are zero and which operation it is.
use borrow.Author.Tests.{eq-eqb, ne_eqb, le-ltb}
use native.Mathlib.Omega.{arith}
use mathlib.Core.Path.{◌≡◌}
use Prim.Native.Nat.{◌/◌, ◌%◌, ◌≤◌}
use Rattle.words.specs.Words.{stray_in}
use Rattle.words.proofs.stray.Goals as goal

pub returns-then-word-ne0 : goal.returns-then-word-ne0
unfolding stray_in
returns-then-word-ne0 c = rw (ne_eqb _ _ c.if-word-ne0.true)

pub returns-then-number-eq0 : goal.returns-then-number-eq0
unfolding stray_in
returns-then-number-eq0 c = rw (eq-eqb _ _ c.if-word-ne0.false, c.if-number-eq0.true)

pub returns-then-signer-ne0 : goal.returns-then-signer-ne0
unfolding stray_in
returns-then-signer-ne0 c = rw (eq-eqb _ _ c.if-word-ne0.false, ne_eqb _ _ c.if-number-eq0.false, ne_eqb _ 0 c.if-signer-ne0.true)

pub returns-then-number-eq1 : goal.returns-then-number-eq1
unfolding stray_in
returns-then-number-eq1 c = rw (eq-eqb _ _ c.if-word-ne0.false, eq-eqb _ 0 c.if-signer-ne0.false, c.if-number-eq1.true)

pub returns : goal.returns
unfolding stray_in
returns c =
    let more : 2 ≤ c.args.word / 8192 = omega arith in
    let unsigned : c.args.word / 256 % 32 ≡ 0 = omega arith in
    rw (eq-eqb _ _ c.if-word-ne0.false, ne_eqb _ _ c.if-number-eq0.false, eq-eqb _ 0 unsigned, le-ltb _ _ more)
