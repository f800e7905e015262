-- Every and some number below another. Assumes nothing.
use mathlib.Core.Path.{◌≡◌, refl, sym, ap, ◌∙◌}
use mathlib.Core.Bool.{Bool, true, false, ◌&&◌, ◌||◌, or-true, and-or_distrib_right}
use mathlib.Core.Logic.{◌≢◌}
use Prim.Native.Nat.{ℕ, zero, suc, ◌<◌}
use native.Mathlib.Omega.{arith}
use lib.Dec.{eqb}
use borrow.Author.Tests.{eqb-true, eqb-false, eq-eqb}
use Rattle.record.specs.Does.{some}

module _ (f : ℕ → Bool) where
  pub some_false : (n : ℕ) → ((k : ℕ) → k < n → f k ≡ false) → some f n ≡ false
  unfolding some
  some_false zero h = refl
  some_false (suc n) h = rw (some_false n (λ k l. h k (omega arith)), h n (omega arith))

  pub some_true : (n k : ℕ) → k < n → f k ≡ true → some f n ≡ true
  unfolding some
  some_true zero k l h = absurd (omega arith)
  some_true (suc n) k l h = go (eqb k n) refl (λ m. some_true n k m h)
    where
      go : (e : Bool) → eqb k n ≡ e → (k < n → some f n ≡ true) → (some f n || f n) ≡ true
      go true q ih = let same : k ≡ n = eqb-true k n q in rw (← same, h) (or-true (some f k))
      go false q ih = let other : k ≢ n = eqb-false k n q in rw (ih (omega arith))

pub some_ext : (f g : ℕ → Bool) (n : ℕ) → ((k : ℕ) → k < n → f k ≡ g k) → some f n ≡ some g n
unfolding some
some_ext f g zero h = refl
some_ext f g (suc n) h = rw (some_ext f g n (λ k l. h k (omega arith)), h n (omega arith))

-- over a sum
mix : (x y a b e : Bool) → ((x || y) || ((a || b) && e)) ≡ ((x || (a && e)) || (y || (b && e)))
mix true y a b e = refl
mix false true a b e = sym (or-true (a && e))
mix false false a b e = and-or_distrib_right a b e

pub some_or : (f g e : ℕ → Bool) (n : ℕ) → some (λ k. (f k || g k) && e k) n ≡ (some (λ k. f k && e k) n || some (λ k. g k && e k) n)
unfolding some
some_or f g e zero = refl
some_or f g e (suc n) =
    ap (λ (x : Bool). x || ((f n || g n) && e n)) (some_or f g e n)
    ∙ mix (some (λ k. f k && e k) n) (some (λ k. g k && e k) n) (f n) (g n) (e n)

-- and over one number
pub some_one : (o : Bool) (e : ℕ → Bool) (m n : ℕ) → m < n → some (λ k. (o && eqb m k) && e k) n ≡ (o && e m)
some_one false e m n l = some_false (λ k. false) n (λ k h. refl)
some_one true e m n l = go (e m) refl
  where
    at : (k : ℕ) (v : Bool) → eqb m k ≡ v → e m ≡ false → (v && e k) ≡ false
    at k true q z = rw (← eqb-true m k q) z
    at k false q z = refl

    go : (v : Bool) → e m ≡ v → some (λ k. eqb m k && e k) n ≡ v
    go true q = some_true (λ k. eqb m k && e k) n m l (rw (eq-eqb m m refl) q)
    go false q = some_false (λ k. eqb m k && e k) n (λ k h. at k (eqb m k) refl q)
