-- The tests of rule 0 in their order: the frame count, the n-th frame's enabled mark, the others' disabled marks.
use borrow.Author.Tests.{leb-true, lt-leb}
use mathlib.Core.Path.{◌≡◌, sym, ap, ◌∙◌}
use mathlib.Core.Bool.{true}
use Prim.Native.Nat.{◌-◌, ◌≤◌}
use lib.ListN.{get_or}
use Rattle.bits.specs.Bit.{bit}
use Rattle.beliefs.specs.declared.Marked.{Marked}
use Rattle.beliefs.specs.Stack.{nobody}
use Rattle.walk.specs.Layout.{depth, frames}
use Rattle.derivation.proofs.Entries.{take_in}
use Rattle.derivation.proofs.may_take.Goals as goal

pub returns-then-has : goal.returns-then-has
returns-then-has c =
    let a = c.args in
    elim c.if-n-depth.branch [
      | goal.then-n-depth w ↦ elim c.if-n-ge1.branch [
        | goal.then-n-ge1 v ↦
            let there : a.n ≤ depth a.state.now = rw v.depth.ensures at (leb-true _ _ (sym v.value-is ∙ w.if-n-depth.true)) in
            let marked : w.has.result ≡ bit (get_or (frames a.state.now) (a.n - 1) nobody).enabled a.target =
            w.has.ensures ∙ ap (λ (m : Marked). bit m.enabled a.target) w.frame.ensures in
            let on : bit (get_or (frames a.state.now) (a.n - 1) nobody).enabled a.target ≡ true = sym marked ∙ sym w.value-is ∙ c.if-has.true in
            rw (take_in a.target a.n a.state.now v.if-n-ge1.true there, on) c.none_disabled.ensures
        | goal.else-n-ge1 v ↦ cc (v.value-is, w.if-n-depth.true, lt-leb 1 a.n v.if-n-ge1.false)
      ]
      | goal.else-n-depth w ↦ cc (w.value-is, w.if-n-depth.false, c.if-has.true)
    ]
