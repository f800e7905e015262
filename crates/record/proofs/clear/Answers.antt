-- The words from the frame's signer on are written at once, and every one of them is zero.
use mathlib.Core.Path.{refl, ap, ◌∙◌}
use native.Mathlib.Omega.{arith}
use Rattle.record.specs.Layout.{frame_from, filled}
use Rattle.record.proofs.Frames.{part_filled}
use Rattle.record.proofs.clear.Goals as goal

pub returns : goal.returns
returns c =
    let s = c.args.state.now in
    part_filled c.frame_from-at.result (λ i. 0) s c.fill.new.self 65 _ (omega arith) (omega arith) (omega arith)
    (λ i l. c.fill.ensures.clones i 0 (omega arith) refl)
    ∙ ap (λ at. filled at (λ i. 0) 65 s) (c.frame_from-at.ensures ∙ ap frame_from c.newest.ensures)
