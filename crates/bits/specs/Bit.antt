-- A word as a set of numbers: `bit w t` says that 2 ^ t is one of the powers of 2 that w is the sum of.
use Rattle.std.specs.Prelude.{◌≡◌, Bool, true, cond, not, ◌&&◌, List, [], ◌∷◌, ℕ, ◌-◌, ◌/◌, ◌%◌, ◌^◌, min, eqb, ltb}
use Rattle.std.specs.Int.Bits.{bit_and, bit_or, bit_xor}

unfoldable pub bit : ℕ → ℕ → Bool
bit w t = eqb (w / 2 ^ t % 2) 1

-- t joins the set; a number of 64 or more does not
unfoldable pub with_bit : ℕ → ℕ → ℕ
with_bit w t = cond (ltb t 64) (bit_or w (2 ^ t)) w

-- t leaves the set
unfoldable pub without_bit : ℕ → ℕ → ℕ
without_bit w t = bit_xor w (bit_and w (2 ^ t))

-- some number is in both sets
unfoldable pub meet : ℕ → ℕ → Bool
meet a b = not (eqb (bit_and a b) 0)

-- where b is t alone, that is whether t is in the other
pub record Meets (a b : ℕ) (r : Bool) : Type 0 where
  pub exact : r ≡ meet a b
  pub alone : (t : ℕ) → b ≡ with_bit 0 t → r ≡ bit a t

-- no bit at n or above
unfoldable pub below : ℕ → ℕ → Bool
below w n = ltb w (2 ^ n)

-- in any of these words
unfoldable pub all_below : List ℕ → ℕ → Bool
all_below [] n = true
all_below (w ∷ ws) n = below w n && all_below ws n

-- the bits below n, of the 64 that there are
unfoldable pub lowest : ℕ → ℕ
lowest n = 2 ^ min n 64 - 1
