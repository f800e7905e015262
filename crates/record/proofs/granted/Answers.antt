-- At each turn the k newest frames are permitted, and none of the lengths below k is held.
use borrow.Author.Count.{below_more}
use mathlib.Core.Path.{◌≡◌, sym, ap, ◌∙◌}
use Prim.Native.Nat.{ℕ, ◌-◌}
use native.Mathlib.Omega.{arith}
use Rattle.bits.specs.Bit.{bit}
use Rattle.beliefs.specs.Policy.{permits}
use Rattle.beliefs.proofs.Lists.{each_none, each_more}
use Rattle.record.specs.Layout.{depth, signer_at, held}
use Rattle.record.proofs.Tried.{tried_barred, tried_found, tried_none}
use Rattle.record.proofs.granted.Goals as goal
use Rattle.record.proofs.granted.Goals.{After-has, After-meet}

-- what the callees say of the frame and the length that are tried: the test of the word of the bit is the test of the bit
is_permitted : (c : goal.After-meet)
    → let a = c.args in
    c.meet.result ≡ permits a.policy.now (signer_at a.state.now (depth a.state.now - 1 - c.loop-k.k)) a.target
unfolding permits
is_permitted c =
    rw (← c.depth-d.ensures, ← c.signer.ensures)
    (c.meet.ensures.alone _ c.with-asked.ensures ∙ ap (λ (w : ℕ). bit w c.args.target) c.row.ensures)

is_held : (c : goal.After-has)
    → let a = c.args in
    c.has.result ≡ bit (held a.state.now a.target) c.loop-k.k
is_held c =
    rw (← c.held-lengths.ensures) c.has.ensures

pub loop-k-init : goal.loop-k-init
loop-k-init c = (each_none _, λ i l. absurd (omega arith))

pub returns-then-not-meet : goal.returns-then-not-meet
returns-then-not-meet c =
    sym (tried_barred _ _ _ _ c.loop-k.invariant.1 (sym (is_permitted (goal.at.returns-then-not-meet c).After-meet) ∙ c.if-not-meet.true))

pub returns-then-has : goal.returns-then-has
returns-then-has c =
    sym
    (tried_found _ _ _ _
    (omega arith)
    c.loop-k.invariant.0
    (sym (is_permitted (goal.at.returns-then-has c).After-meet) ∙ c.if-not-meet.false)
    (sym (is_held (goal.at.returns-then-has c).After-has) ∙ c.if-has.true))

pub loop-k-preserved : goal.loop-k-preserved
loop-k-preserved c = (
  each_more _ _ c.loop-k.invariant.0 (sym (is_permitted (goal.at.loop-k-preserved c).After-meet) ∙ c.if-not-meet.false),
  below_more _ _ c.loop-k.invariant.1 (sym (is_held (goal.at.loop-k-preserved c).After-has) ∙ c.if-has.false),
)

pub returns : goal.returns
returns c = sym (tried_none _ _ _ (λ i l. c.loop-k.invariant.1 i (omega arith)))
