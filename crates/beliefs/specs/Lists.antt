-- Some, every and the kept elements of a list; every number below another.
use Rattle.std.specs.Prelude.{Bool, true, false, cond, ◌&&◌, ◌||◌, List, [], ◌∷◌, ℕ, zero, suc}

module _ {A : Type 0} (f : A → Bool) where
  abbrev pub any : List A → Bool
  any [] = false
  any (a ∷ l) = f a || any l

  abbrev pub all : List A → Bool
  all [] = true
  all (a ∷ l) = f a && all l

  abbrev pub keep : List A → List A
  keep [] = []
  keep (a ∷ l) = cond (f a) (a ∷ keep l) (keep l)

abbrev pub empty : {A : Type 0} → List A → Bool
empty [] = true
empty (a ∷ l) = false

-- f holds of every number below n
unfoldable pub each : (ℕ → Bool) → ℕ → Bool
each f zero = true
each f (suc n) = each f n && f n
