-- Each arm has the word's operation number, and the last none of 0 to 4.
use borrow.Author.Tests.{ne_eqb}
use native.Mathlib.Omega.{arith}
use Prim.Native.Nat.{◌/◌, ◌≤◌}
use Rattle.words.specs.Words.{operation_of}
use Rattle.words.proofs.named.Goals as goal

pub returns-in-0 : goal.returns-in-0
unfolding operation_of
returns-in-0 c = rw c.in-0.is

pub returns-in-1 : goal.returns-in-1
unfolding operation_of
returns-in-1 c = rw c.in-1.is

pub returns-in-2 : goal.returns-in-2
unfolding operation_of
returns-in-2 c = rw c.in-2.is

pub returns-in-3 : goal.returns-in-3
unfolding operation_of
returns-in-3 c = rw c.in-3.is

pub returns-in-4 : goal.returns-in-4
unfolding operation_of
returns-in-4 c = rw c.in-4.is

pub returns-in_default : goal.returns-in_default
unfolding operation_of
returns-in_default c =
    let n = c.args.word / 8192 in
    let past : 5 ≤ n = omega arith in
    rw (ne_eqb n 0 (omega arith), ne_eqb n 1 (omega arith), ne_eqb n 2 (omega arith), ne_eqb n 3 (omega arith), ne_eqb n 4 (omega arith))
