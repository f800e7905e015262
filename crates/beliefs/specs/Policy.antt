-- "Byte forms", the policy: as a value of 35 words (start, S, N, 32 rows) and as bytes; and what refuses it and what is asked under it.
use Rattle.std.specs.Prelude.{Bool, cond, ◌&&◌, List, [], ◌∷◌, ◌++◌, ℕ, zero, suc, ◌+◌, ◌-◌}
use Rattle.std.specs.Prelude.{◌*◌, ◌/◌, ◌%◌, ◌^◌, eqb, ltb, leb, length, get_or, take, drop, replicate}
use Rattle.bits.specs.Bit.{bit, below}
use Rattle.answers.specs.Numbers.{too_few, left_over, bit_set, bad_policy, bad_state, unless, first}
use Rattle.answers.specs.Account.{Account, short_of, barring}
use Rattle.words.specs.declared.Operation.{Operation}
use Rattle.words.specs.Words.{Decoded, outside, barred, decoded}
use Rattle.beliefs.specs.Lists.{all, each}

abbrev pub Policy : Type 0
Policy = List ℕ

abbrev pub Target : Type 0
Target = ℕ

-- 0 empty, 1 full
abbrev pub start : Policy → ℕ
start p = get_or p 0 0

abbrev pub signers : Policy → ℕ
signers p = get_or p 1 0

abbrev pub targets : Policy → ℕ
targets p = get_or p 2 0

abbrev pub row : Policy → ℕ → ℕ
row p s = get_or p (3 + s) 0

-- a set bit permits that signer that target
unfoldable pub permits : Policy → ℕ → Target → Bool
permits p s t = bit (row p s) t

-- number 13: S or N outside its range, or a bit set outside the S rows and N targets; a start that is neither
abbrev pub within : ℕ → ℕ → Bool
within n most = leb 1 n && leb n most

unfoldable pub row_fits : Policy → ℕ → Bool
row_fits p s = cond (ltb s (signers p)) (below (row p s) (targets p)) (eqb (row p s) 0)

unfoldable pub valid : Policy → Bool
valid p = leb (start p) 1 && (within (signers p) 32 && (within (targets p) 64 && each (row_fits p) 32))

-- the front door. What refuses a policy: 13
unfoldable pub refusal : Policy → ℕ
refusal p = unless (valid p) bad_policy

-- a state under it, which number 14 lets through or not: 13, 14
abbrev pub refusal_in : Policy → Bool → ℕ
refusal_in p fits = first (refusal p) (unless fits bad_state)

-- an operation of any signer or target in a state of so many frames: 13, 14, 5 or 6, 7, 8
abbrev pub outside_of : Policy → Operation → ℕ
outside_of p op = outside (signers p) (targets p) op

abbrev pub refusal_of : Policy → Bool → ℕ → Operation → ℕ
refusal_of p fits depth op = first (refusal_in p fits) (first (outside_of p op) (barred depth op))

-- and a word of a trace, with its index: 4, 3, 5 or 6, else the operation
abbrev pub reading : Policy → ℕ → ℕ → Decoded
reading p w i = decoded (signers p) (targets p) w i

-- a row of n targets, in whole bytes
abbrev pub width : ℕ → ℕ
width n = (n + 7) / 8

-- a byte's bits in the other order: target 0 comes first, and the first bit is the most significant
unfoldable pub mirrored : ℕ → ℕ
mirrored b = b % 2 * 128 + b / 2 % 2 * 64 + b / 4 % 2 * 32 + b / 8 % 2 * 16 + b / 16 % 2 * 8 + b / 32 % 2 * 4 + b / 64 % 2 * 2 + b / 128 % 2

-- eight targets to a byte; and back, k bytes
unfoldable pub row_of : List ℕ → ℕ
row_of [] = 0
row_of (b ∷ bs) = mirrored b + 256 * row_of bs

unfoldable pub row_bytes : ℕ → ℕ → List ℕ
row_bytes zero w = []
row_bytes (suc k) w = mirrored (w % 256) ∷ row_bytes k (w / 256)

-- rows in signer order, of k bytes each
unfoldable pub rows_of : ℕ → ℕ → List ℕ → List ℕ
rows_of zero k bs = []
rows_of (suc n) k bs = row_of (take k bs) ∷ rows_of n k (drop k bs)

unfoldable pub rows_bytes : ℕ → List ℕ → List ℕ
rows_bytes k [] = []
rows_bytes k (w ∷ ws) = row_bytes k w ++ rows_bytes k ws

-- two header bytes as one number: start (1 bit), S - 1 (5), N - 1 (6), spare (4)
abbrev pub header : List ℕ → ℕ
header bs = 256 * get_or bs 0 0 + get_or bs 1 0

abbrev pub head_start : ℕ → ℕ
head_start h = h / 2 ^ 15

abbrev pub head_signers : ℕ → ℕ
head_signers h = h / 2 ^ 10 % 2 ^ 5 + 1

abbrev pub head_targets : ℕ → ℕ
head_targets h = h / 2 ^ 4 % 2 ^ 6 + 1

abbrev pub head_spare : ℕ → ℕ
head_spare h = h % 2 ^ 4

abbrev pub headed : Policy → ℕ
headed p = start p * 2 ^ 15 + (signers p - 1) * 2 ^ 10 + (targets p - 1) * 2 ^ 4

-- how many bytes a policy of s signers and n targets has
abbrev pub size : ℕ → ℕ → ℕ
size s n = 2 + s * width n

-- reading: header length, header spare, too short, left over, padding
abbrev pub rows_read : List ℕ → List ℕ
rows_read bs = rows_of (head_signers (header bs)) (width (head_targets (header bs))) (drop 2 bs)

unfoldable pub read_number : List ℕ → ℕ
read_number bs =
    cond (ltb (length bs) 2) too_few
    (cond (eqb (head_spare (header bs)) 0)
    (cond (ltb (length bs) (size (head_signers (header bs)) (head_targets (header bs)))) too_few
    (cond (ltb (size (head_signers (header bs)) (head_targets (header bs))) (length bs)) left_over
    (cond (all (λ w. below w (head_targets (header bs))) (rows_read bs)) 0 bit_set)))
    bit_set)

unfoldable pub value_read : List ℕ → Policy
value_read bs =
    head_start (header bs) ∷ head_signers (header bs) ∷ head_targets (header bs)
    ∷ (rows_read bs ++ replicate (32 - head_signers (header bs)) 0)

-- writing: the one byte form
unfoldable pub bytes_written : Policy → List ℕ
bytes_written p = headed p / 256 ∷ headed p % 256 ∷ rows_bytes (width (targets p)) (take (signers p) (drop 3 p))

-- into room for so many bytes: 13, 9
unfoldable pub writing : Policy → ℕ → Account
writing p room =
    let wanted : ℕ = size (signers p) (targets p) in
    barring (first (refusal p) (short_of wanted room)) (record { number = 0; figure = wanted; written = bytes_written p })
