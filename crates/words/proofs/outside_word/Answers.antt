-- Call looks at the signer, return at neither, every other operation at the target.
use borrow.Author.Tests.{eq-eqb, ne_eqb}
use mathlib.Core.Path.{◌≡◌, refl, ◌∙◌}
use mathlib.Core.Bool.{Bool, true, false, cond}
use Prim.Native.Nat.{ℕ}
use lib.Dec.{eqb, ltb}
use Rattle.answers.proofs.Refusals.{unless_number}
use Rattle.answers.specs.Numbers.{no_target, unless}
use Rattle.words.specs.declared.Operation.TheVariants.{Enable, Disable, Revert, Check}
use Rattle.words.specs.Words.{word_operation, word_target, operation_of, outside}
use Rattle.words.proofs.outside_word.Goals as goal

-- whichever of the last four it is
aims : (s n w : ℕ) → eqb (word_operation w) 0 ≡ false → eqb (word_operation w) 1 ≡ false
    → unless (ltb (word_target w) n) no_target ≡ outside s n (operation_of w)
unfolding outside operation_of
aims s n w a b = rw (a, b) (go (eqb (word_operation w) 2) (eqb (word_operation w) 3) (eqb (word_operation w) 4))
  where
    t : ℕ
    t = word_target w

    go : (c d e : Bool) → unless (ltb t n) no_target ≡ outside s n (cond c (Enable t) (cond d (Disable t) (cond e (Revert t) (Check t))))
    go true d e = refl
    go false true e = refl
    go false false true = refl
    go false false false = refl

pub returns-then-number-eq0 : goal.returns-then-number-eq0
unfolding outside operation_of
returns-then-number-eq0 c = rw (eq-eqb _ _ c.if-number-eq0.true) (unless_number _ _ _ c.unless.ensures)

pub returns-then-number-eq1 : goal.returns-then-number-eq1
unfolding outside operation_of
returns-then-number-eq1 c = rw (ne_eqb _ _ c.if-number-eq0.false, eq-eqb _ _ c.if-number-eq1.true)

pub returns : goal.returns
returns c =
    unless_number _ _ _ c.unless-2.ensures ∙ aims _ _ c.args.word (ne_eqb _ _ c.if-number-eq0.false) (ne_eqb _ _ c.if-number-eq1.false)
