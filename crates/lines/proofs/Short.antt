-- No line is longer than 80 bytes. Assumes nothing.
use mathlib.Core.Bool.{Bool, true, false, cond}
use mathlib.Core.List.{List}
use Prim.Native.Nat.{ℕ, ◌-◌, ◌/◌, ◌%◌, ◌≤◌}
use native.Mathlib.Omega.{arith}
use lib.Dec.{eqb, ltb}
use lib.ListN.{length, get_or, length-append}
use Rattle.answers.specs.Account.{Report}
use Rattle.beliefs.specs.Policy.{Policy, signers, targets, reading}
use Rattle.beliefs.specs.Stack.{full}
use Rattle.words.specs.declared.Operation.{Operation}
use Rattle.words.specs.declared.Operation.TheVariants.{Call, Return, Enable, Disable, Revert, Check}
use Rattle.words.specs.Words.{Decoded, Word, Refused, word_at}
use Rattle.lines.specs.Text.{start, verdict, policy_line, check_line, end_line, refused_line, last_line, op_line, decoded_line, word_line}
use Rattle.lines.specs.Page.{words_run, line_at}
use Rattle.lines.proofs.Digits.{decimal_short}

start_short : (b : Bool) → length (start b) ≤ 6
start_short true = omega arith
start_short false = omega arith

verdict_short : (b : Bool) → length (verdict b) ≤ 10
verdict_short true = omega arith
verdict_short false = omega arith

pub policy_short : (p : List ℕ) → length (policy_line p) ≤ 80
unfolding policy_line
policy_short p = simp length-append (omega (arith, decimal_short (signers p), decimal_short (targets p), start_short (full p)))

pub check_short : (i t a : ℕ) → length (check_line i t a) ≤ 80
unfolding check_line
check_short i t a = simp length-append (omega (arith, decimal_short i, decimal_short t, decimal_short (a % 64), verdict_short (eqb (a / 64) 1)))

pub end_short : (words : ℕ) → length (end_line words) ≤ 80
unfolding end_line
end_short words = simp length-append (omega (arith, decimal_short words))

pub refused_short : (n i : ℕ) → length (refused_line n i) ≤ 80
unfolding refused_line
refused_short n i = simp length-append (omega (arith, decimal_short n, decimal_short i))

-- one of two short ones
either : (b : Bool) (x y : List ℕ) → length x ≤ 80 → length y ≤ 80 → length (cond b x y) ≤ 80
either true x y h k = h
either false x y h k = k

last_short : (n i : ℕ) → length (last_line n i) ≤ 80
last_short n i = either (eqb n 0) (end_line i) (refused_line n i) (end_short i) (refused_short n i)

op_short : (op : Operation) (i answer : ℕ) → length (op_line op i answer) ≤ 80
op_short (Call s) i answer = omega arith
op_short Return i answer = omega arith
op_short (Enable t) i answer = omega arith
op_short (Disable t) i answer = omega arith
op_short (Revert t) i answer = omega arith
op_short (Check t) i answer = check_short i t answer

decoded_short : (d : Decoded) (answer : ℕ) → length (decoded_line d answer) ≤ 80
decoded_short (Word x) answer = op_short x.op x.index answer
decoded_short (Refused n) answer = omega arith

word_short : (p : Policy) (trace answers : List ℕ) (i : ℕ) → length (word_line p trace answers i) ≤ 80
unfolding word_line
word_short p trace answers i = decoded_short (reading p (word_at trace i) i) (get_or answers i 0)

pub line_short : (p : Policy) (trace answers : List ℕ) (r : Report) (k : ℕ) → length (line_at p trace answers r k) ≤ 80
unfolding line_at
line_short p trace answers r k =
    let run = ltb (k - 1) (words_run trace r.figure) in
    let word = word_line p trace answers (k - 1) in
    let last = last_line r.number r.figure in
    let rest = either run word last (word_short p trace answers (k - 1)) (last_short r.number r.figure) in
    either (eqb k 0) (policy_line p) (cond run word last) (policy_short p) rest
