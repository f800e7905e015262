-- At depth 63 nothing is done; else the new frame's words, its signer, and then the depth is one more.
use mathlib.Core.Path.{refl, sym, ap, ap₂, ◌∙◌}
use mathlib.Core.List.{List}
use Prim.Native.Nat.{ℕ, ◌+◌}
use lib.ListN.{set}
use Rattle.std.proofs.lemmas.Result.{err_from_is_err_and}
use Rattle.answers.proofs.Given.{gives}
use Rattle.answers.proofs.Refusals.{some_number}
use Rattle.words.specs.Words.{deeper, barred}
use Rattle.words.proofs.Words.{room_for}
use Rattle.record.specs.Layout.{frame_from}
use Rattle.record.proofs.call.Goals as goal

pub returns-in_err-deeper : goal.returns-in_err-deeper
unfolding barred
returns-in_err-deeper c =
    let p = err_from_is_err_and c.from_residual.result c.from_residual.ensures.1 in
    rw (p.1, p.2, ← c.depth-d.ensures, ← c.in_err-deeper.ensures, some_number c.in_err-deeper.field-0.0) (gives refl refl)

pub begin-requires : goal.begin-requires
begin-requires c = rw (← c.depth-d.ensures) (room_for _ (sym c.in_ok-deeper.ensures))

pub returns : goal.returns
unfolding barred
returns c =
    let g : ℕ = c.args.signer in
    rw (← (c.in_ok-deeper.ensures ∙ ap deeper c.depth-d.ensures), c.frame_from.ensures, c.from.ensures, c.done.ensures)
    (gives refl (ap₂ (λ (l : List ℕ) (d : ℕ). set (set l (frame_from d) g) 0 (d + 1)) c.begin.ensures c.depth-d.ensures))
