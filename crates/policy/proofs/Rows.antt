-- The laws of a row's bytes and of the rows in them. Assumes nothing.
use mathlib.Core.Path.{◌≡◌, refl, sym, ap, ◌∙◌}
use mathlib.Core.Bool.{Bool, true, ◌&&◌}
use mathlib.Core.List.{List, [], ◌∷◌, reverse}
use Prim.Native.Nat.{ℕ, zero, suc, ◌+◌, ◌*◌, ◌%◌, ◌^◌, ◌≤◌, ◌<◌}
use native.Mathlib.Nat.{zero-add, zero-mul, suc-mul, mul-le-mul_right, lt_of_lt_of_le, mod-eq_of_lt}
use native.Mathlib.Omega.{arith}
use lib.Dec.{eqb}
use lib.Bits.{bit_and, bit_or, and_shifted, or_add_and}
use lib.Pow.{pow-add, pow_mono}
use lib.ListN.{length, get_or, take, drop}
use lib.Seq.{drop-drop}
use borrow.Author.Tests.{eqb-true}
use Rattle.std.specs.Int.{w8, reverse_bits, reverse_bits_onto}
use Rattle.std.specs.List.{fold, list_all, range_with_len}
use Rattle.std.proofs.lemmas.Grind.{reverse_onto}
use Rattle.std.proofs.lemmas.List.Sums.{fold-append}
use Rattle.beliefs.specs.Lists.{all, each}
use Rattle.beliefs.specs.Policy.{mirrored, row_of, rows_of}
use Rattle.beliefs.proofs.Lists.{each_at, each_ext, each_sum, all_each}

pub mirrored_lt : (b : ℕ) → mirrored b < 256
unfolding mirrored
mirrored_lt b = omega arith

-- a byte mirrored twice is the byte: a test over all of them
all_twice : each (λ b. eqb (mirrored (mirrored b)) b) 256 ≡ true
unfolding each mirrored
all_twice = refl

-- and the library's order of a byte's bits is that one
all_reversed : each (λ b. eqb (reverse_bits w8 b) (mirrored b)) 256 ≡ true
unfolding each mirrored reverse_bits_onto
all_reversed = refl

pub mirrored_reversed : (b : ℕ) → b < 256 → reverse_bits w8 b ≡ mirrored b
mirrored_reversed b h = eqb-true _ (mirrored b) (each_at (λ b. eqb (reverse_bits w8 b) (mirrored b)) 256 all_reversed b h)

pub mirrored_twice : (b : ℕ) → b < 256 → mirrored (mirrored b) ≡ b
mirrored_twice b h = eqb-true _ b (each_at (λ b. eqb (mirrored (mirrored b)) b) 256 all_twice b h)

-- 256 for each byte more
pub pow_byte : (k : ℕ) → 2 ^ (8 * suc k) ≡ 2 ^ (8 * k) * 256
pow_byte k = let e : 8 * suc k ≡ 8 * k + 8 = omega arith in ap (λ (n : ℕ). 2 ^ n) e ∙ pow-add 2 (8 * k) 8

pub row_lt : (bs : List ℕ) → row_of bs < 2 ^ (8 * length bs)
unfolding row_of
row_lt [] = omega arith
row_lt (b ∷ bs) = rw (pow_byte (length bs)) (omega (arith, mirrored_lt b, row_lt bs))

-- one byte more, below those of a row read from its last byte on: what it has is what it had, eight targets further up
abbrev pub byte_on : ℕ → ℕ → ℕ
byte_on w b = bit_or (w * 2 ^ 8 % 2 ^ 64) (mirrored b)

byte_below : (w b : ℕ) → w < 2 ^ 56 → byte_on w b ≡ mirrored b + 256 * w
byte_below w b h =
    let up : w * 2 ^ 8 % 2 ^ 64 ≡ w * 2 ^ 8 = mod-eq_of_lt (omega arith) in
    let apart : bit_and (w * 2 ^ 8) (mirrored b) ≡ 0 = and_shifted w 8 (mirrored b) (mirrored_lt b) in
    rw up (omega (arith, or_add_and (w * 2 ^ 8) (mirrored b)))

-- a row is read from its last byte to its first
pub row_read : (bs : List ℕ) → length bs ≤ 8 → fold byte_on 0 (reverse bs) ≡ row_of bs
unfolding row_of
row_read [] h = refl
row_read (b ∷ bs) h =
    let l : length bs ≤ 7 = omega arith in
    let small : row_of bs < 2 ^ 56 = let e : 8 * length bs ≤ 56 = omega arith in lt_of_lt_of_le (row_lt bs) (pow_mono e) in
    rw (reverse_onto bs b [], fold-append byte_on 0 (reverse bs) (b ∷ []), row_read bs (omega arith)) (byte_below (row_of bs) b small)

-- a row's bytes stand within those of all the rows
pub row_within : (n k s : ℕ) → s < n → s * k + k ≤ n * k
row_within n k s h = omega (arith, mul-le-mul_right k h, suc-mul s k)

-- row s of the rows that follow a header
rows_at : (n k : ℕ) (bs : List ℕ) (s : ℕ) → s < n → get_or (rows_of n k bs) s 0 ≡ row_of (take k (drop (s * k) bs))
unfolding rows_of
rows_at zero k bs s h = absurd (omega arith)
rows_at (suc n) k bs zero h = rw (zero-mul k)
rows_at (suc n) k bs (suc s) h =
    let e : k + s * k ≡ suc s * k = omega (arith, suc-mul s k) in
    rows_at n k (drop k bs) s (omega arith) ∙ rw (drop-drop (s * k) k bs, e)

pub row_at : (n k : ℕ) (bs : List ℕ) (s : ℕ) → s < n → get_or (rows_of n k (drop 2 bs)) s 0 ≡ row_of (take k (drop (2 + s * k) bs))
row_at n k bs s h = rows_at n k (drop 2 bs) s h ∙ rw (drop-drop (s * k) 2 bs)

pub length_rows : (n k : ℕ) (bs : List ℕ) → length (rows_of n k bs) ≡ n
unfolding rows_of
length_rows zero k bs = refl
length_rows (suc n) k bs = ap suc (length_rows n k (drop k bs))

-- a test of every row is a test of the numbers from 0 to the last
all_from : (f : ℕ → Bool) (a n : ℕ) → list_all f (range_with_len a n) ≡ each (λ k. f (a + k)) n
unfolding each
all_from f a zero = refl
all_from f a (suc n) =
    let g = λ (k : ℕ). f (a + k) in
    let first : a + 0 ≡ a = omega arith in
    let one : suc n ≡ 1 + n = omega arith in
    ap (λ (b : Bool). f a && b) (all_from f (a + 1) n ∙ each_ext (λ k. f (a + 1 + k)) (λ k. g (1 + k)) n (λ k l. ap f (omega arith)))
    ∙ sym (ap (each g) one ∙ each_sum g 1 n ∙ rw first)

pub rows_all : (n k : ℕ) (bs : List ℕ) (f : ℕ → Bool) → list_all (λ s. f (get_or (rows_of n k bs) s 0)) (range_with_len 0 n) ≡ all f (rows_of n k bs)
rows_all n k bs f =
    let rows = rows_of n k bs in
    all_from (λ s. f (get_or rows s 0)) 0 n
    ∙ each_ext (λ s. f (get_or rows (0 + s) 0)) (λ s. f (get_or rows s 0)) n (λ s l. ap (λ (i : ℕ). f (get_or rows i 0)) (zero-add s))
    ∙ sym (all_each f rows ∙ ap (each (λ s. f (get_or rows s 0))) (length_rows n k bs))
