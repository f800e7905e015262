-- What is given: an answer with the number and byte of an operation's own definition, and the words left; and a report that is accepted has passed
-- the tests before it. Assumes nothing.
use mathlib.Core.Path.{◌≡◌, refl, sym, ap, ◌∙◌}
use mathlib.Core.Bool.{Bool, true, false, cond}
use mathlib.Core.List.{List}
use Prim.Native.Nat.{ℕ}
use lib.Dec.{eqb}
use borrow.Author.Tests.{eqb-true, eq-eqb}
use Rattle.answers.specs.Numbers.{first}
use Rattle.answers.specs.Answer.{Answer, Moved, Gives}
use Rattle.answers.specs.Account.{Account, Report, told, barring, Reports}

pub gives : {r : Answer} {left : List ℕ} {m : Moved (List ℕ)} → r ≡ record { number = m.number; byte = m.byte } → left ≡ m.state → Gives r left m
gives a e = record { number = ap (λ (x : Answer). x.number) a; byte = ap (λ (x : Answer). x.byte) a; state = e }

pub passes : (n : ℕ) (a : Account) → (barring n a).number ≡ 0 → n ≡ 0
passes n a = go (eqb n 0) refl
  where
    go : (e : Bool) → eqb n 0 ≡ e → (cond e a (told n 0)).number ≡ 0 → n ≡ 0
    go true q h = eqb-true n 0 q
    go false q h = h

pub passed : (n : ℕ) (a : Account) (r : Report) (lent left : List ℕ) → Reports r lent left (barring n a) → r.number ≡ 0 → (n ≡ 0) × Reports r lent left a
passed n a r lent left h z = let none : n ≡ 0 = passes n a (sym h.number ∙ z) in (none, rw (eq-eqb n 0 none) at h)

-- tests behind tests are one after the other
pub barring_twice : (n m : ℕ) (a : Account) → barring n (barring m a) ≡ barring (first n m) a
barring_twice n m a = go (eqb n 0) refl
  where
    go : (e : Bool) → eqb n 0 ≡ e → cond e (barring m a) (told n 0) ≡ barring (cond e m n) a
    go true q = refl
    go false q = rw q
