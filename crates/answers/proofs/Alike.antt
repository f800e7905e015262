-- Two operations, on two kinds of states, that come to the same: one number, an answer byte that is the other's turned by b, and states that are alike.
-- Assumes nothing.
use mathlib.Core.Path.{◌≡◌, refl, sym}
use mathlib.Core.Bool.{Bool, true, false, cond}
use Prim.Native.Nat.{ℕ}
use lib.Dec.{eqb}
use borrow.Author.Tests.{eqb-true}
use Rattle.answers.specs.Answer.{Moved, refused, guarded}

module _ {S T : Type 0} (Like : S → T → Type 0) (b : ℕ → ℕ) where
  pub record Alike (m : Moved S) (k : Moved T) : Type 0 where
    pub number : m.number ≡ k.number
    pub byte : m.byte ≡ b k.byte
    pub states : Like m.state k.state

  module _ (zero : b 0 ≡ 0) {s : S} {t : T} (h : Like s t) (n : ℕ) where
    pub refused_alike : Alike (refused n s) (refused n t)
    refused_alike = record { number = refl; byte = sym zero; states = h }

    -- behind the same tests
    pub guarded_alike : {m : Moved S} {k : Moved T} → (n ≡ 0 → Alike m k) → Alike (guarded n m s) (guarded n k t)
    guarded_alike {m} {k} d = go (eqb n 0) refl
      where
        go : (e : Bool) → eqb n 0 ≡ e → Alike (cond e m (refused n s)) (cond e k (refused n t))
        go true q = d (eqb-true n 0 q)
        go false q = refused_alike
