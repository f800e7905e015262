-- The tests come in the definition's order, and each callee says what its part of the definition is.
use borrow.Author.Tests.{lt-ltb, le-ltb}
use native.Mathlib.Omega.{arith}
use Rattle.std.proofs.lemmas.Result.{err_from_is_err_and}
use Rattle.answers.proofs.Refusals.{some_number}
use Prim.Native.Nat.{◌/◌, ◌≤◌}
use Rattle.words.specs.Words.{decoded}
use Rattle.words.proofs.decode.Goals as goal

pub returns-then-word-gt5 : goal.returns-then-word-gt5
unfolding decoded
returns-then-word-gt5 c = rw (lt-ltb 5 _ c.if-word-gt5.true)

pub returns-then-stray : goal.returns-then-stray
unfolding decoded
returns-then-stray c =
    let known : c.args.word / 8192 ≤ 5 = omega arith in
    rw (le-ltb 5 _ known, ← c.stray.ensures, c.if-stray.true)

pub returns-in_err-outside_word : goal.returns-in_err-outside_word
unfolding decoded
returns-in_err-outside_word c =
    let known : c.args.word / 8192 ≤ 5 = omega arith in
    let p = err_from_is_err_and c.from_residual.result c.from_residual.ensures.1 in
    rw (p.1, p.2, le-ltb 5 _ known, ← c.stray.ensures, c.if-stray.false, ← c.in_err-outside_word.ensures, some_number c.in_err-outside_word.field-0.0)

pub returns : goal.returns
unfolding decoded
returns c =
    let known : c.args.word / 8192 ≤ 5 = omega arith in
    rw (le-ltb 5 _ known, ← c.stray.ensures, c.if-stray.false, ← c.in_ok-outside_word.ensures, ← c.named-op.ensures)
