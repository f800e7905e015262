-- Below 64 a shifted 1 less 1 is `2 ^ n - 1`; from 64 on every bit is set.
use mathlib.Core.Path.{ap, sym, ◌∙◌}
use Prim.Native.Nat.{ℕ, ◌-◌}
use native.Mathlib.Nat.{le_of_lt}
use lib.Pow.{pow_pos}
use Rattle.bits.proofs.Laws.{one_shl, lowest_low, lowest_high}
use Rattle.bits.proofs.ones.Goals as goal

pub overflow_sub-result : goal.overflow_sub-result
overflow_sub-result c = rw (one_shl _ c.if-n-lt64.true) (pow_pos c.args.n)

pub returns-then-n-lt64 : goal.returns-then-n-lt64
returns-then-n-lt64 c = ap (λ (x : ℕ). x - 1) (one_shl _ c.if-n-lt64.true) ∙ sym (lowest_low _ (le_of_lt c.if-n-lt64.true))

pub returns-else-n-lt64 : goal.returns-else-n-lt64
returns-else-n-lt64 c = sym (lowest_high _ c.if-n-lt64.false)
