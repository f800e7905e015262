-- Every frame below the depth is asked.
use borrow.Author.Rules.{rules}
use borrow.Author.Tests.{tests}
use mathlib.Core.Path.{refl, ◌∙◌}
use native.Mathlib.Omega.{arith}
use Rattle.std.proofs.lemmas.Iterator.{YieldsList-from_range}
use Rattle.std.proofs.lemmas.Iterator.Search.{all_from_yields_List}
use Rattle.record.specs.Fits.{frame_fits}
use Rattle.record.proofs.Fits.{each_range}
use Rattle.record.proofs.frames_fit.Goals as goal

pub returns : goal.returns
returns c =
    let fit = frame_fits c.args.policy.now c.args.state.now in
    let d = c.depth.result in
    rw (← c.depth.ensures)
    (all_from_yields_List fit _ _ _ c.all.ensures.ran (YieldsList-from_range 0 d d refl (omega arith)) (λ x b q k. search (rules, tests))
    ∙ each_range fit d)
