-- Tests one after the other, each with its number for no: what comes to 0 has passed them all, and none gives more than the largest. Assumes nothing.
use mathlib.Core.Path.{◌≡◌, refl}
use mathlib.Core.Logic.{◌≢◌}
use mathlib.Core.Bool.{Bool, true, false, cond}
use Prim.Native.Nat.{ℕ, suc, ◌≤◌}
use native.Mathlib.Omega.{arith}
use lib.Dec.{eqb, ltb, leb}
use borrow.Author.Tests.{eqb-true, eqb-false, ne_eqb, ltb-true, ltb-false, lt-leb, le-leb}
use Rattle.answers.specs.Numbers.{no_room, unless, first}
use Rattle.answers.specs.Account.{short_of}

-- a test that refuses where it holds, by the number after n
pub spared : (b : Bool) (n x : ℕ) → cond b (suc n) x ≡ 0 → (b ≡ false) × (x ≡ 0)
spared true n x h = absurd (omega arith)
spared false n x h = (refl, h)

-- and one that refuses where it fails, likewise
pub met : (b : Bool) (n x : ℕ) → cond b x (suc n) ≡ 0 → (b ≡ true) × (x ≡ 0)
met true n x h = (refl, h)
met false n x h = absurd (omega arith)

pub held : (b : Bool) (n : ℕ) → unless b (suc n) ≡ 0 → b ≡ true
held b n h = (met b n 0 h).0

-- the test for room, turned round
pub room : (wanted has : ℕ) → unless (leb wanted has) no_room ≡ short_of wanted has
room wanted has = go (ltb has wanted) refl
  where
    go : (e : Bool) → ltb has wanted ≡ e → unless (leb wanted has) no_room ≡ cond e no_room 0
    go true q = rw (lt-leb wanted has (ltb-true has wanted q))
    go false q = rw (le-leb wanted has (ltb-false has wanted q))

-- two that come to 0 together do so each
pub neither : (n m : ℕ) → first n m ≡ 0 → (n ≡ 0) × (m ≡ 0)
neither n m = go (eqb n 0) refl
  where
    go : (e : Bool) → eqb n 0 ≡ e → cond e m n ≡ 0 → (n ≡ 0) × (m ≡ 0)
    go true q h = (eqb-true n 0 q, h)
    go false q h = absurd (eqb-false n 0 q h)

-- the first that does not is the number
pub stopped : (n m : ℕ) → n ≢ 0 → first n m ≡ n
stopped n m h = rw (ne_eqb n 0 h)

pub at_most : (b : Bool) {m x y : ℕ} → x ≤ m → y ≤ m → cond b x y ≤ m
at_most true h k = h
at_most false h k = k
