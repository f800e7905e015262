-- The tests come in the definition's order.
use borrow.Author.Tests.{lt-ltb, le-ltb}
use mathlib.Core.Path.{◌≡◌, sym, ◌∙◌}
use mathlib.Core.Bool.{true, false}
use Prim.Native.Nat.{◌+◌}
use Rattle.std.proofs.lemmas.Bool.{false≢true}
use Rattle.record.specs.Fits.{words_below, frame_fits}
use Rattle.record.proofs.frame_fits.Goals as goal
use Rattle.record.proofs.frame_fits.Goals.{then-signer-signers, else-signer-signers}

pub returns-then-words_below : goal.returns-then-words_below
unfolding frame_fits
returns-then-words_below c = elim c.if-signer-signers.branch [
  | then-signer-signers w ↦
      let first = c.words_from-first.result in
      let low : words_below c.args.state.now first (first + c.words.result) (c.args.frame + 1) ≡ true =
      sym w.words_below.ensures ∙ (sym w.value-is ∙ c.if-words_below.true)
      in
      rw (← c.signers.ensures, ← c.signer.ensures, lt-ltb _ _ w.if-signer-signers.true, ← c.words_from-first.ensures, ← c.words.ensures, low)
      c.words_below-then-words_below.ensures
  | else-signer-signers w ↦ absurd (false≢true (sym (w.value-is ∙ le-ltb _ _ w.if-signer-signers.false) ∙ c.if-words_below.true))
]

pub returns-else-words_below : goal.returns-else-words_below
unfolding frame_fits
returns-else-words_below c = elim c.if-signer-signers.branch [
  | then-signer-signers w ↦
      let first = c.words_from-first.result in
      let high : words_below c.args.state.now first (first + c.words.result) (c.args.frame + 1) ≡ false =
      sym w.words_below.ensures ∙ (sym w.value-is ∙ c.if-words_below.false)
      in
      rw (← c.signers.ensures, ← c.signer.ensures, lt-ltb _ _ w.if-signer-signers.true, ← c.words_from-first.ensures, ← c.words.ensures, high)
      c.if-words_below.false
  | else-signer-signers w ↦
      rw (← c.signers.ensures, ← c.signer.ensures, le-ltb _ _ w.if-signer-signers.false) (w.value-is ∙ le-ltb _ _ w.if-signer-signers.false)
]
