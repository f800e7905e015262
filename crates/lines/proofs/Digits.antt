-- A number of 64 bits has at most 20 digits, and they are those that std prints of it. Assumes nothing.
use mathlib.Core.Path.{◌≡◌, ◌∙◌, sym}
use mathlib.Core.List.{[], ◌∷◌, ◌++◌}
use Prim.Native.Nat.{ℕ, zero, suc, ◌/◌, ◌%◌, ◌^◌, ◌≤◌, ◌<◌}
use native.Mathlib.Nat.{pow-suc}
use native.Mathlib.Omega.{arith}
use mathlib.Core.Bool.{Bool, true, false, cond}
use lib.Dec.{ltb}
use lib.ListN.{length, length-append}
use borrow.Author.Tests.{lt-ltb, le-ltb}
use Rattle.std.specs.Fmt as std
use Rattle.std.proofs.lemmas.Fmt.{AppendsLastDigit, decimal_from_appends, length-decimal-le}
use Rattle.lines.specs.Text.{digit, digits, decimal}

digits_short : (k n : ℕ) → length (digits k n) ≤ suc k
unfolding digits
digits_short zero n = omega arith
digits_short (suc k) n = go (ltb n 10) (digits_short k (n / 10))
  where
    go : (e : Bool) → length (digits k (n / 10)) ≤ suc k → length (cond e (digit n ∷ []) (digits k (n / 10) ++ (digit (n % 10) ∷ []))) ≤ suc (suc k)
    go true ih = omega arith
    go false ih = simp length-append (omega arith)

pub decimal_short : (n : ℕ) → length (decimal n) ≤ 20
unfolding decimal
decimal_short n = digits_short 19 n

-- one place more than it takes changes nothing
spare_place : (k n : ℕ) → n < 10 ^ suc k → digits (suc k) n ≡ digits k n
unfolding digits
spare_place zero n h = rw (lt-ltb n 10 h)
spare_place (suc k) n h = rw (spare_place k (n / 10) (omega (arith, pow-suc 10 (suc k))))

last_appended : AppendsLastDigit digits
unfolding digits
last_appended = record {
  one = λ k n h. rw (lt-ltb n 10 h);
  more = λ k n l. rw (le-ltb n 10 l);
}

pub printed : (n : ℕ) → n < 2 ^ 64 → decimal n ≡ std.decimal n
unfolding decimal
printed n h = sym (spare_place 19 n (omega arith)) ∙ decimal_from_appends digits last_appended 20 n h (length-decimal-le 20 n (omega arith) (omega arith) h)
