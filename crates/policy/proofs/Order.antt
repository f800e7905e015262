-- The order of the bits: which bit of which byte says that a signer is permitted a target. Assumes nothing.
use mathlib.Core.Path.{◌≡◌, refl, sym, ap, ◌∙◌}
use mathlib.Core.Bool.{Bool, true}
use mathlib.Core.List.{List, [], ◌∷◌}
use Prim.Native.Nat.{ℕ, suc, ◌+◌, ◌-◌, ◌*◌, ◌/◌, ◌%◌, ◌^◌, ◌<◌}
use native.Mathlib.Decide.{dec_lt}
use native.Mathlib.Omega.{arith}
use lib.Dec.{eqb}
use lib.ListN.{length, get_or, take, drop, length-drop}
use lib.Pow.{shr-shr, field, mod-mod-pow}
use lib.Seq.{get_or-take, get_or-drop, length-take-le}
use borrow.Author.Tests.{eqb-true}
use Rattle.bits.specs.Bit.{bit}
use Rattle.beliefs.specs.Lists.{each}
use Rattle.beliefs.specs.Policy.{permits, width, mirrored, row_of, header, head_signers, head_targets, read_number, value_read}
use Rattle.beliefs.proofs.Lists.{each_at}
use Rattle.policy.specs.Read.{Bytes}
use Rattle.policy.proofs.Rows.{mirrored_lt, row_at, row_within}
use Rattle.policy.proofs.Accepted.{accepted}
use Rattle.policy.proofs.Value.{value_row}
use Rattle.policy.proofs.Back.{bytes_take, bytes_drop}

-- one bit of a mirrored byte: a test over all of them
turned : ℕ → ℕ → Bool
turned b t = eqb (mirrored b / 2 ^ t % 2) (b / 2 ^ (7 - t) % 2)

all_turned : each (λ b. each (turned b) 8) 256 ≡ true
unfolding each mirrored turned
all_turned = refl

bit_mirrored : (b t : ℕ) → b < 256 → t < 8 → bit (mirrored b) t ≡ bit b (7 - t)
unfolding bit turned
bit_mirrored b t h l =
    let e : mirrored b / 2 ^ t % 2 ≡ b / 2 ^ (7 - t) % 2 = eqb-true _ _ (each_at (turned b) 8 (each_at (λ b. each (turned b) 8) 256 all_turned b h) t l) in
    rw e

-- the bits below 8 are the lowest byte's, the others are those of the rest
bit_low : (n t : ℕ) → t < 8 → bit n t ≡ bit (n % 256) t
unfolding bit
bit_low n t l =
    let e : 7 - t + (1 + t) ≡ 8 = omega arith in
    let low : n % 2 ^ (1 + t) ≡ n % 256 % 2 ^ (1 + t) = sym (mod-mod-pow n (7 - t) (1 + t)) ∙ rw e in
    let same : n / 2 ^ t % 2 ≡ n % 256 / 2 ^ t % 2 = sym (field n 1 t) ∙ rw low (field (n % 256) 1 t) in
    rw same

bit_rest : (n t : ℕ) → bit n (8 + t) ≡ bit (n / 256) t
unfolding bit
bit_rest n t = rw (← shr-shr n 8 t)

-- Target t of a row is bit 7 - t % 8 of its byte t / 8: a byte's most significant bit is its first target.
pub bit_row : (bs : List ℕ) (t : ℕ) → Bytes bs → t < 8 * length bs → bit (row_of bs) t ≡ bit (get_or bs (t / 8) 0) (7 - t % 8)
unfolding row_of
bit_row [] t b h = absurd (omega arith)
bit_row (a ∷ bs) t b h = go (dec_lt t 8) (bit_row bs (t - 8) (λ i. b (suc i)))
  where
    n : ℕ
    n = mirrored a + 256 * row_of bs

    go : Dec (t < 8) → (t - 8 < 8 * length bs → bit (row_of bs) (t - 8) ≡ bit (get_or bs ((t - 8) / 8) 0) (7 - (t - 8) % 8))
        → bit n t ≡ bit (get_or (a ∷ bs) (t / 8) 0) (7 - t % 8)
    go (yes l) ih =
        let m : n % 256 ≡ mirrored a = omega (arith, mirrored_lt a) in
        let e : t / 8 ≡ 0 = omega arith in
        let f : t % 8 ≡ t = omega arith in
        rw (e, f, bit_low n t l, m) (bit_mirrored a t (b 0) l)
    go (no l) ih =
        let m : n / 256 ≡ row_of bs = omega (arith, mirrored_lt a) in
        let e : t / 8 ≡ suc ((t - 8) / 8) = omega arith in
        let f : t % 8 ≡ (t - 8) % 8 = omega arith in
        let g : t ≡ 8 + (t - 8) = omega arith in
        rw (e, f) (ap (bit n) g ∙ bit_rest n (t - 8) ∙ rw m (ih (omega arith)))

-- In accepted bytes signer s is permitted target t where that bit is set in the bytes of row s.
pub permits_read : (bs : List ℕ) → Bytes bs → read_number bs ≡ 0 → (s t : ℕ) → s < head_signers (header bs) → t < head_targets (header bs)
    → permits (value_read bs) s t ≡ bit (get_or bs (2 + s * width (head_targets (header bs)) + t / 8) 0) (7 - t % 8)
unfolding permits
permits_read bs b e s t l m =
    let k = width (head_targets (header bs)) in
    let at = 2 + s * k in
    let row = take k (drop at bs) in
    let long : length row ≡ k = length-take-le k (drop at bs)
    (omega (arith, length-drop at bs, row_within (head_signers (header bs)) k s l, (accepted bs e).whole)) in
    let byte : get_or row (t / 8) 0 ≡ get_or bs (at + t / 8) 0 = get_or-take k (drop at bs) (t / 8) 0 (omega arith) ∙ get_or-drop at bs (t / 8) 0 in
    rw (value_row bs s, row_at (head_signers (header bs)) k bs s l, ← byte)
    (bit_row row t (bytes_take k (drop at bs) (bytes_drop at bs b)) (omega (arith, long)))
