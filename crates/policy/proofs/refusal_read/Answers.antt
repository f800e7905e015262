-- The tests come in the definition's order, and each callee says what its part of the definition is.
use borrow.Author.Tests.{lt-ltb, le-ltb, eq-eqb, ne_eqb}
use native.Mathlib.Omega.{arith}
use mathlib.Core.Path.{◌≡◌, sym, ap}
use mathlib.Core.Bool.{Bool, cond}
use lib.Dec.{ltb}
use lib.ListN.{length, drop}
use Rattle.bits.specs.Bit.{below}
use Rattle.beliefs.specs.Lists.{all}
use Rattle.answers.specs.Numbers.{too_few, left_over, bit_set}
use Rattle.beliefs.specs.Policy.{width, rows_of, head_spare, read_number}
use Rattle.policy.proofs.refusal_read.Goals as goal
use Rattle.policy.proofs.refusal_read.Goals.{After-padding_clear, After-size-wanted}

-- what is left of the definition past the header
past : (c : goal.After-size-wanted)
    → let bs = c.args.bytes.now in
    let rows = c.head_signers-rows.result in
    let n = c.head_targets-n.result in
    read_number bs
    ≡ cond (ltb (length bs) c.size-wanted.result) too_few
    (cond (ltb c.size-wanted.result (length bs)) left_over
    (cond (all (λ w. below w n) (rows_of rows (width n) (drop 2 bs))) 0 bit_set))
unfolding read_number
past c =
    rw (
      le-ltb _ _ c.if-bytes-lt2.false,
      ← c.header-h.ensures,
      eq-eqb (head_spare c.header-h.result) 0 c.if-h-ne0.false,
      ← c.head_signers-rows.ensures,
      ← c.head_targets-n.ensures,
      ← c.size-wanted.ensures,
    )

-- and past the lengths
sized : (c : goal.After-padding_clear)
    → read_number c.args.bytes.now
    ≡ cond c.padding_clear.result 0 bit_set
sized c =
    rw (
      past (goal.at.After-padding_clear c).After-size-wanted,
      le-ltb _ _ c.if-bytes-wanted.false,
      le-ltb _ _ c.if-wanted-bytes.false,
      ← c.width.ensures,
    )
    (ap (λ (clear : Bool). cond clear 0 bit_set) (sym c.padding_clear.ensures))

pub returns-then-bytes-lt2 : goal.returns-then-bytes-lt2
unfolding read_number
returns-then-bytes-lt2 c = rw (lt-ltb _ _ c.if-bytes-lt2.true)

pub returns-then-h-ne0 : goal.returns-then-h-ne0
unfolding read_number
returns-then-h-ne0 c =
    rw (
      le-ltb _ _ c.if-bytes-lt2.false,
      ← c.header-h.ensures,
      ne_eqb (head_spare c.header-h.result) 0 c.if-h-ne0.true,
    )

pub returns-then-bytes-wanted : goal.returns-then-bytes-wanted
returns-then-bytes-wanted c = rw (past (goal.at.returns-then-bytes-wanted c).After-size-wanted, lt-ltb _ _ c.if-bytes-wanted.true)

pub returns-then-wanted-bytes : goal.returns-then-wanted-bytes
returns-then-wanted-bytes c =
    rw (past (goal.at.returns-then-wanted-bytes c).After-size-wanted, le-ltb _ _ c.if-bytes-wanted.false, lt-ltb _ _ c.if-wanted-bytes.true)

pub padding_clear-requires : goal.padding_clear-requires
padding_clear-requires c = (rw c.width.ensures (omega arith), omega arith)

pub returns-then-not-padding_clear : goal.returns-then-not-padding_clear
returns-then-not-padding_clear c = rw (sized (goal.at.returns-then-not-padding_clear c).After-padding_clear, c.if-not-padding_clear.true)

pub returns : goal.returns
returns c = rw (sized (goal.at.returns c).After-padding_clear, c.if-not-padding_clear.false)
