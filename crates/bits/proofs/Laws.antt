-- The laws of a bit, each stated once: what every operation on a word does to each of its bits, and what bounds a word. Assumes nothing.
use mathlib.Core.Path.{◌≡◌, refl, sym, ap, ◌∙◌}
use mathlib.Core.List.{List, [], ◌∷◌}
use mathlib.Core.Bool.{Bool, true, false, cond, not, ◌&&◌, ◌||◌, and-false, and-true, or-false, and_assoc}
use mathlib.Core.Logic.{◌≢◌}
use Prim.Native.Nat.{ℕ, zero, suc, ◌+◌, ◌-◌, ◌*◌, ◌/◌, ◌%◌, ◌^◌, ◌≤◌, ◌<◌, min}
use native.Mathlib.Nat.{div-eq_of_lt, mul-mod_left, one-mul, pow-suc, div_self, lt_of_lt_of_le, mod-lt, lt_of_le_of_lt, div-one, div-lt_iff_lt-mul, zero-div}
use native.Mathlib.Omega.{arith}
use lib.Dec.{eqb, ltb}
use lib.Bits.{bit_and, bit_or, bit_xor, and_shr, or_shr, xor_shr, and_mod, or_mod, xor_mod, or_lt, xor_lt, or_add_and, and_le_l, and_le_r, and_comm}
use lib.Bits.{and_shifted, xor_zero_r, and_zero_r}
use lib.Pow.{pow_pos, pow-lt, pow_mono, shl_exact, shl-shr, pow-add, shr-shr, ones_split, ones_lt, high, low}
use lib.Arith.{bin_ind}
use native.Mathlib.Decide.{dec_lt, ℕ_discrete}
use borrow.Author.Tests.{lt-ltb, le-ltb, ne_eqb, eq-eqb, eqb-true, eqb-false}
use Rattle.std.specs.Int.{w64, bit_at, bit_not}
use Rattle.std.specs.List.{fold}
use Rattle.std.proofs.lemmas.Nat.Bits.{same_from_bits_below, bit_at-lt, bit_at_and, bit_at_xor, bit_at-pow_same, bit_at-pow_other}
use Rattle.std.proofs.lemmas.Nat.Bits.{bit_at_clear_same, bit_at_clear_other}
use Rattle.bits.specs.Bit.{bit, with_bit, without_bit, meet, below, all_below, lowest}

-- true is not false
pub never : {A : Type 0} → ◌≡◌ {A = Bool} true false → A
never e = let z : ◌≡◌ {A = ℕ} 0 1 = cc in absurd (omega arith)

-- one bit of 2 ^ t
pow_bit_same : (t : ℕ) → 2 ^ t / 2 ^ t % 2 ≡ 1
pow_bit_same t = ap (λ (x : ℕ). x % 2) (div_self (pow_pos t))

pow_bit_above : (t u : ℕ) → t < u → 2 ^ t / 2 ^ u % 2 ≡ 0
pow_bit_above t u h = ap (λ (x : ℕ). x % 2) (div-eq_of_lt (pow-lt h))

pow_bit_below : (t u : ℕ) → u < t → 2 ^ t / 2 ^ u % 2 ≡ 0
pow_bit_below t u h =
    let k : ℕ = t - suc u in
    let e : t ≡ suc k + u = omega arith in
    ap (λ (x : ℕ). 2 ^ x / 2 ^ u % 2) e ∙ ap (λ (x : ℕ). x / 2 ^ u % 2) (pow-add 2 (suc k) u)
    ∙ ap (λ (x : ℕ). x % 2) (shl-shr (2 ^ suc k) u) ∙ ap (λ (x : ℕ). x % 2) (pow-suc 2 k) ∙ mul-mod_left (2 ^ k) 2

pow_bit_other : (t u : ℕ) → (t ≡ u → ⊥) → 2 ^ t / 2 ^ u % 2 ≡ 0
pow_bit_other t u ne = go (dec_lt t u)
  where
    go : Dec (t < u) → 2 ^ t / 2 ^ u % 2 ≡ 0
    go (yes h) = pow_bit_above t u h
    go (no h) = pow_bit_below t u (omega arith)

-- one bit of each operation is the operation on the two bits
or_bit : (a b u : ℕ) → bit_or a b / 2 ^ u % 2 ≡ bit_or (a / 2 ^ u % 2) (b / 2 ^ u % 2)
or_bit a b u = ap (λ (x : ℕ). x % 2) (or_shr a b u) ∙ or_mod (a / 2 ^ u) (b / 2 ^ u) 1

and_bit : (a b u : ℕ) → bit_and a b / 2 ^ u % 2 ≡ bit_and (a / 2 ^ u % 2) (b / 2 ^ u % 2)
and_bit a b u = ap (λ (x : ℕ). x % 2) (and_shr a b u) ∙ and_mod (a / 2 ^ u) (b / 2 ^ u) 1

xor_bit : (a b u : ℕ) → bit_xor a b / 2 ^ u % 2 ≡ bit_xor (a / 2 ^ u % 2) (b / 2 ^ u % 2)
xor_bit a b u = ap (λ (x : ℕ). x % 2) (xor_shr a b u) ∙ xor_mod (a / 2 ^ u) (b / 2 ^ u) 1

-- a number below 2, by cases
two_cases : (P : ℕ → Type 0) → P 0 → P 1 → (x : ℕ) → x < 2 → P x
two_cases P p0 p1 zero h = p0
two_cases P p0 p1 (suc zero) h = p1
two_cases P p0 p1 (suc (suc x)) h = absurd (omega arith)

-- x is the word's bit
or_one : (x : ℕ) → x < 2 → eqb (bit_or x 1) 1 ≡ true
or_one = two_cases (λ (x : ℕ). eqb (bit_or x 1) 1 ≡ true) refl refl

or_none : (x : ℕ) → x < 2 → eqb (bit_or x 0) 1 ≡ eqb x 1
or_none = two_cases (λ (x : ℕ). eqb (bit_or x 0) 1 ≡ eqb x 1) refl refl

clear_one : (x : ℕ) → x < 2 → eqb (bit_xor x (bit_and x 1)) 1 ≡ false
clear_one = two_cases (λ (x : ℕ). eqb (bit_xor x (bit_and x 1)) 1 ≡ false) refl refl

clear_none : (x : ℕ) → x < 2 → eqb (bit_xor x (bit_and x 0)) 1 ≡ eqb x 1
clear_none = two_cases (λ (x : ℕ). eqb (bit_xor x (bit_and x 0)) 1 ≡ eqb x 1) refl refl

below_2 : (n : ℕ) → n % 2 < 2
below_2 n = mod-lt n (omega arith)

module _ (w t u : ℕ) where
  pub bit_with : t < 64 → bit (with_bit w t) u ≡ (eqb t u || bit w u)
  unfolding bit with_bit
  bit_with h = rw (lt-ltb t 64 h, or_bit w (2 ^ t) u) (go (eqb t u) refl)
    where
      go : (e : Bool) → eqb t u ≡ e → eqb (bit_or (w / 2 ^ u % 2) (2 ^ t / 2 ^ u % 2)) 1 ≡ (e || eqb (w / 2 ^ u % 2) 1)
      go true q = rw (eqb-true t u q, pow_bit_same u) (or_one _ (below_2 (w / 2 ^ u)))
      go false q = rw (pow_bit_other t u (eqb-false t u q)) (or_none _ (below_2 (w / 2 ^ u)))

  pub bit_without : bit (without_bit w t) u ≡ (not (eqb t u) && bit w u)
  unfolding bit without_bit
  bit_without = rw (xor_bit w (bit_and w (2 ^ t)) u, and_bit w (2 ^ t) u) (go (eqb t u) refl)
    where
      go : (e : Bool) → eqb t u ≡ e → eqb (bit_xor (w / 2 ^ u % 2) (bit_and (w / 2 ^ u % 2) (2 ^ t / 2 ^ u % 2))) 1 ≡ (not e && eqb (w / 2 ^ u % 2) 1)
      go true q = rw (eqb-true t u q, pow_bit_same u) (clear_one _ (below_2 (w / 2 ^ u)))
      go false q = rw (pow_bit_other t u (eqb-false t u q)) (clear_none _ (below_2 (w / 2 ^ u)))

-- the bound: a word below 2 ^ n stays there
pub with_lt : (n w t : ℕ) → w < 2 ^ n → t < n → with_bit w t < 2 ^ n
unfolding with_bit
with_lt n w t h l = go (ltb t 64)
  where
    go : (e : Bool) → cond e (bit_or w (2 ^ t)) w < 2 ^ n
    go true = or_lt n w (2 ^ t) h (pow-lt l)
    go false = h

pub without_lt : (n w t : ℕ) → w < 2 ^ n → without_bit w t < 2 ^ n
unfolding without_bit
without_lt n w t h = xor_lt n w (bit_and w (2 ^ t)) h (lt_of_le_of_lt (and_le_l w (2 ^ t)) h)

-- no bit from n on, and only then, is the word below 2 ^ n
pub bit_high : (n w u : ℕ) → w < 2 ^ n → n ≤ u → bit w u ≡ false
unfolding bit
bit_high n w u h l = rw (div-eq_of_lt (lt_of_lt_of_le h (pow_mono l)))

bit_zero : (x : ℕ) → x < 2 → eqb x 1 ≡ false → x ≡ 0
bit_zero = two_cases (λ (x : ℕ). eqb x 1 ≡ false → x ≡ 0) (λ e. refl) (λ e. cc)

no_bits : (v : ℕ) → ((k : ℕ) → v / 2 ^ k % 2 ≡ 0) → v ≡ 0
no_bits = bin_ind (λ (v : ℕ). ((k : ℕ) → v / 2 ^ k % 2 ≡ 0) → v ≡ 0) (λ h. refl) step
  where
    step : (n : ℕ) → (((k : ℕ) → n / 2 / 2 ^ k % 2 ≡ 0) → n / 2 ≡ 0) → ((k : ℕ) → n / 2 ^ k % 2 ≡ 0) → n ≡ 0
    step n ih h =
        let lo : n % 2 ≡ 0 = ap (λ (x : ℕ). x % 2) (sym (div-one n)) ∙ h 0 in
        let hi : n / 2 ≡ 0 = ih (λ k. ap (λ (x : ℕ). x % 2) (shr-shr n 1 k) ∙ h (1 + k)) in
        omega arith

pub high_bits : (n w : ℕ) → ((u : ℕ) → n ≤ u → bit w u ≡ false) → w < 2 ^ n
unfolding bit
high_bits n w h =
    let none : w / 2 ^ n ≡ 0 = no_bits (w / 2 ^ n)
    (λ k. ap (λ (x : ℕ). x % 2) (shr-shr w n k) ∙ bit_zero _ (below_2 (w / 2 ^ (n + k))) (h (n + k) (omega arith))) in
    let small : w < 1 * 2 ^ n = (div-lt_iff_lt-mul (pow_pos n)).0 (omega arith) in
    rw one-mul at small

-- what the code computes
pub one_shl : (t : ℕ) → t < 64 → (1 * 2 ^ t) % 2 ^ 64 ≡ 2 ^ t
one_shl t h = shl_exact 1 t 64 (omega arith) (omega arith) ∙ one-mul (2 ^ t)

pub with_in : (w t : ℕ) → t < 64 → bit_or w ((1 * 2 ^ t) % 2 ^ 64) ≡ with_bit w t
unfolding with_bit
with_in w t h = rw (lt-ltb t 64 h, one_shl t h)

pub with_out : (w t : ℕ) → 64 ≤ t → w ≡ with_bit w t
unfolding with_bit
with_out w t h = rw (le-ltb t 64 h)

-- the word with its bit t put out, and with what it has of bit t taken from it, have the same bits
pub without_in : (w t : ℕ) → w < 2 ^ 64 → t < 64 → bit_and w (bit_not w64 ((1 * 2 ^ t) % 2 ^ 64)) ≡ without_bit w t
unfolding without_bit
without_in w t h l =
    same_from_bits_below 64 kept (bit_xor w (bit_and w (2 ^ t))) (lt_of_le_of_lt (and_le_l w _) h)
    (xor_lt 64 w (bit_and w (2 ^ t)) h (lt_of_le_of_lt (and_le_l w (2 ^ t)) h)) (λ i k. go i k (ℕ_discrete i t))
  where
    kept : ℕ
    kept = bit_and w (bit_not w64 ((1 * 2 ^ t) % 2 ^ 64))

    taken : (i : ℕ) → bit_at (bit_xor w (bit_and w (2 ^ t))) i ≡ (bit_at w i + min (bit_at w i) (bit_at (2 ^ t) i)) % 2
    taken i = bit_at_xor w (bit_and w (2 ^ t)) i ∙ rw (bit_at_and w (2 ^ t) i)

    go : (i : ℕ) → i < 64 → Dec (i ≡ t) → bit_at kept i ≡ bit_at (bit_xor w (bit_and w (2 ^ t))) i
    go i k (yes e) = rw e (bit_at_clear_same w64 w t l ∙ sym (taken t ∙ rw (bit_at-pow_same t) (omega (arith, bit_at-lt w t))))
    go i k (no ne) =
        bit_at_clear_other w64 w t l i k ne ∙ sym (taken i ∙ rw (bit_at-pow_other t i ne) (omega (arith, bit_at-lt w i)))

pub without_out : (w t : ℕ) → w < 2 ^ t → w ≡ without_bit w t
unfolding without_bit
without_out w t h =
    let none : bit_and w (2 ^ t) ≡ 0 = and_comm w (2 ^ t) ∙ ap (λ (x : ℕ). bit_and x w) (sym (one-mul (2 ^ t))) ∙ and_shifted 1 t w h in
    rw none (sym (xor_zero_r w))

-- the n lowest bits
pub bit_ones : (n t : ℕ) → bit (2 ^ n - 1) t ≡ ltb t n
unfolding bit
bit_ones n t = go (dec_lt t n)
  where
    go : Dec (t < n) → eqb ((2 ^ n - 1) / 2 ^ t % 2) 1 ≡ ltb t n
    go (yes h) =
        let k : ℕ = n - suc t in
        let e : n ≡ suc k + t = omega arith in
        let e1 : suc k ≡ k + 1 = omega arith in
        let up : (2 ^ n - 1) / 2 ^ t ≡ 2 ^ suc k - 1 = ap (λ (x : ℕ). (2 ^ x - 1) / 2 ^ t) e ∙ ap (λ (x : ℕ). x / 2 ^ t) (ones_split (suc k) t)
        ∙ high (2 ^ suc k - 1) t (ones_lt t) in
        let odd : (2 ^ suc k - 1) % 2 ≡ 1 = ap (λ (x : ℕ). (2 ^ x - 1) % 2) e1 ∙ ap (λ (x : ℕ). x % 2) (ones_split k 1) ∙ low (2 ^ k - 1) 1 (ones_lt 1) in
        rw (up, odd) (sym (lt-ltb t n h))
    go (no h) =
        let l : n ≤ t = omega arith in
        rw (div-eq_of_lt (lt_of_lt_of_le (ones_lt n) (pow_mono l))) (sym (le-ltb t n l))

-- whole words
and_two : (x : ℕ) → x < 2 → (y : ℕ) → y < 2 → eqb (bit_and x y) 1 ≡ (eqb x 1 && eqb y 1)
and_two = two_cases (λ (x : ℕ). (y : ℕ) → y < 2 → eqb (bit_and x y) 1 ≡ (eqb x 1 && eqb y 1))
    (two_cases (λ (y : ℕ). eqb (bit_and 0 y) 1 ≡ (eqb 0 1 && eqb y 1)) refl refl) (two_cases (λ (y : ℕ). eqb (bit_and 1 y) 1 ≡ (eqb 1 1 && eqb y 1)) refl refl)

or_two : (x : ℕ) → x < 2 → (y : ℕ) → y < 2 → eqb (bit_or x y) 1 ≡ (eqb x 1 || eqb y 1)
or_two = two_cases (λ (x : ℕ). (y : ℕ) → y < 2 → eqb (bit_or x y) 1 ≡ (eqb x 1 || eqb y 1))
    (two_cases (λ (y : ℕ). eqb (bit_or 0 y) 1 ≡ (eqb 0 1 || eqb y 1)) refl refl) (two_cases (λ (y : ℕ). eqb (bit_or 1 y) 1 ≡ (eqb 1 1 || eqb y 1)) refl refl)

pub bit-and : (a b u : ℕ) → bit (bit_and a b) u ≡ (bit a u && bit b u)
unfolding bit
bit-and a b u = rw (and_bit a b u) (and_two _ (below_2 (a / 2 ^ u)) _ (below_2 (b / 2 ^ u)))

pub bit-or : (a b u : ℕ) → bit (bit_or a b) u ≡ (bit a u || bit b u)
unfolding bit
bit-or a b u = rw (or_bit a b u) (or_two _ (below_2 (a / 2 ^ u)) _ (below_2 (b / 2 ^ u)))

pub bit_none : (t : ℕ) → bit 0 t ≡ false
unfolding bit
bit_none t = rw (zero-div (2 ^ t))

-- `below` and `lowest`, by `2 ^ n`
pub below_high : (w n : ℕ) → w < 2 ^ 64 → 64 ≤ n → below w n ≡ true
unfolding below
below_high w n h l = lt-ltb w (2 ^ n) (lt_of_lt_of_le h (pow_mono l))

pub lowest_low : (n : ℕ) → n ≤ 64 → lowest n ≡ 2 ^ n - 1
unfolding lowest
lowest_low n h = let e : min n 64 ≡ n = omega arith in rw e

pub lowest_high : (n : ℕ) → 64 ≤ n → lowest n ≡ 2 ^ 64 - 1
unfolding lowest
lowest_high n h = let e : min n 64 ≡ 64 = omega arith in rw e

-- a word below 2 ^ n has its bits below n
pub below_bits : (n w t : ℕ) → w < 2 ^ n → (ltb t n && bit w t) ≡ bit w t
below_bits n w t h = go (dec_lt t n)
  where
    go : Dec (t < n) → (ltb t n && bit w t) ≡ bit w t
    go (yes l) = ap (λ (v : Bool). v && bit w t) (lt-ltb t n l)
    go (no l) = let none : bit w t ≡ false = bit_high n w t h (omega arith) in ap (λ (v : Bool). ltb t n && v) none ∙ and-false (ltb t n) ∙ sym none

-- `below`, of two words' bits together
pub below_or : (a b n : ℕ) → below (bit_or a b) n ≡ (below a n && below b n)
unfolding below
below_or a b n = go (dec_lt a (2 ^ n)) (dec_lt b (2 ^ n))
  where
    above_a : a ≤ bit_or a b
    above_a = omega (arith, or_add_and a b, and_le_r a b)

    above_b : b ≤ bit_or a b
    above_b = omega (arith, or_add_and a b, and_le_l a b)

    go : Dec (a < 2 ^ n) → Dec (b < 2 ^ n) → ltb (bit_or a b) (2 ^ n) ≡ (ltb a (2 ^ n) && ltb b (2 ^ n))
    go (yes h) (yes k) = rw (lt-ltb _ _ (or_lt n a b h k), lt-ltb _ _ h, lt-ltb _ _ k)
    go (yes h) (no k) = rw (le-ltb (bit_or a b) (2 ^ n) (omega (arith, above_b)), lt-ltb _ _ h, le-ltb b (2 ^ n) (omega arith))
    go (no h) k = rw (le-ltb (bit_or a b) (2 ^ n) (omega (arith, above_a)), le-ltb a (2 ^ n) (omega arith))

pub below_nothing : (n : ℕ) → below 0 n ≡ true
unfolding below
below_nothing n = lt-ltb 0 (2 ^ n) (pow_pos n)

-- a word with no bit at all
pub below_none : (w : ℕ) → below w 0 ≡ eqb w 0
unfolding below
below_none zero = refl
below_none (suc w) = le-ltb (suc w) 1 (omega arith) ∙ sym (ne_eqb (suc w) 0 (λ e. absurd (omega arith)))

-- the words' bits together, after those of a word before them
below_fold : (a : ℕ) (ws : List ℕ) (n : ℕ) → below (fold bit_or a ws) n ≡ (below a n && all_below ws n)
unfolding all_below
below_fold a [] n = sym (and-true (below a n))
below_fold a (w ∷ ws) n = below_fold (bit_or a w) ws n ∙ rw (below_or a w n) (and_assoc (below a n) (below w n) (all_below ws n))

pub below_together : (ws : List ℕ) (n : ℕ) → below (fold bit_or 0 ws) n ≡ all_below ws n
below_together ws n = below_fold 0 ws n ∙ rw (below_nothing n)

-- a set meets t alone where t is in it
pub meet_alone : (w t : ℕ) → w < 2 ^ 64 → meet w (with_bit 0 t) ≡ bit w t
unfolding meet
meet_alone w t h = go (dec_lt t 64)
  where
    both : ℕ
    both = bit_and w (with_bit 0 t)

    at : (u : ℕ) → t < 64 → bit both u ≡ (bit w u && eqb t u)
    at u l = bit-and w (with_bit 0 t) u ∙ ap (λ (x : Bool). bit w u && x) (bit_with 0 t u l ∙ ap (λ (x : Bool). eqb t u || x) (bit_none u) ∙ or-false (eqb t u))

    none : t < 64 → bit w t ≡ false → both ≡ 0
    none l e = let low : both < 2 ^ 0 = high_bits 0 both (λ u k. at u l ∙ other u (eqb t u) refl) in omega arith
      where
        other : (u : ℕ) (x : Bool) → eqb t u ≡ x → (bit w u && x) ≡ false
        other u true q = rw (← eqb-true t u q, e)
        other u false q = and-false (bit w u)

    some : t < 64 → bit w t ≡ true → both ≢ 0
    some l e z = never (cc (at t l, e, eq-eqb t t refl, ap (λ (x : ℕ). bit x t) z, bit_none t))

    inside : t < 64 → (x : Bool) → bit w t ≡ x → not (eqb both 0) ≡ x
    inside l true e = rw (ne_eqb both 0 (some l e))
    inside l false e = rw (eq-eqb both 0 (none l e))

    go : Dec (t < 64) → not (eqb both 0) ≡ bit w t
    go (yes l) = inside l (bit w t) refl
    go (no l) =
        let out : with_bit 0 t ≡ 0 = sym (with_out 0 t (omega arith)) in
        rw (out, and_zero_r w, bit_high 64 w t h (omega arith))
