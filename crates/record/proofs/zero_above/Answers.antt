-- Every frame above the depth is asked, and the room above them is empty.
use borrow.Author.Rules.{rules}
use borrow.Author.Tests.{tests}
use mathlib.Core.Path.{refl, ◌∙◌}
use native.Mathlib.Omega.{arith}
use Prim.Native.Nat.{◌-◌}
use Rattle.std.proofs.lemmas.Iterator.{YieldsList-from_range}
use Rattle.std.proofs.lemmas.Iterator.Search.{all_from_yields_List}
use Rattle.record.proofs.Fits.{frame_zero, frames_zero}
use Rattle.record.proofs.zero_above.Goals as goal

pub returns : goal.returns
returns c =
    let s = c.args.state.now in
    let d = c.depth.result in
    rw (← c.depth.ensures)
    (all_from_yields_List (frame_zero s) _ _ _ c.all.ensures.ran (YieldsList-from_range d 63 (63 - d) refl refl) (λ x b q k. search (rules, tests))
    ∙ frames_zero s (63 - d) d (omega arith))
