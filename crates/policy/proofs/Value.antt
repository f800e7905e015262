-- The laws of the value that accepted bytes say. Assumes nothing.
use mathlib.Core.Path.{◌≡◌, refl, sym, ◌∙◌}
use mathlib.Core.List.{List, [], ◌∷◌, ◌++◌, append-nil}
use Prim.Native.Nat.{ℕ, zero, suc, ◌+◌, ◌-◌, ◌≤◌, ◌<◌}
use native.Mathlib.Nat.{zero-add}
use native.Mathlib.Omega.{arith}
use lib.ListN.{length, get_or, take, drop, set, replicate, length-append, length-drop, length-set, length-replicate, drop_of_length-le}
use lib.Seq.{drop-length, get_or-drop, length-take-le, sets, sets-eq}
use Rattle.beliefs.specs.Policy.{header, head_start, head_signers, head_targets, width, start, signers, targets, row, rows_read, value_read}
use Rattle.beliefs.proofs.Lists.{zeros, put_turn, put_end}
use Rattle.policy.proofs.Rows.{length_rows}

-- zeros after a list are what `get_or` finds past its end
padded : (l : List ℕ) (n i : ℕ) → get_or (l ++ replicate n 0) i 0 ≡ get_or l i 0
padded [] n i = zeros n i
padded (a ∷ l) n zero = refl
padded (a ∷ l) n (suc i) = padded l n i

pub value_start : (bs : List ℕ) → start (value_read bs) ≡ head_start (header bs)
unfolding value_read
value_start bs = refl

pub value_signers : (bs : List ℕ) → signers (value_read bs) ≡ head_signers (header bs)
unfolding value_read
value_signers bs = refl

pub value_targets : (bs : List ℕ) → targets (value_read bs) ≡ head_targets (header bs)
unfolding value_read
value_targets bs = refl

pub value_row : (bs : List ℕ) (s : ℕ) → row (value_read bs) s ≡ get_or (rows_read bs) s 0
unfolding value_read
value_row bs s = let e : 3 + s ≡ suc (suc (suc s)) = omega arith in rw e (padded (rows_read bs) (32 - head_signers (header bs)) s)

pub length_value : (bs : List ℕ) → length (value_read bs) ≡ 35
unfolding value_read
length_value bs =
    let n = head_signers (header bs) in
    omega (
      arith,
      length-append (rows_read bs) (replicate (32 - n) 0),
      length_rows n (width (head_targets (header bs))) (drop 2 bs),
      length-replicate {A = ℕ} (32 - n) 0,
    )

-- the rows of a value have 32 words
pub length_lent : (l : List ℕ) (a b c : ℕ) → length l ≡ 35 → length (take 32 (drop 3 (set (set (set l 0 a) 1 b) 2 c))) ≡ 32
length_lent l a b c h = length-take-le 32 (drop 3 (set (set (set l 0 a) 1 b) 2 c)) (simp (length-drop, length-set) (omega arith))

-- the rows are stored one by one: one of them, and the rest after it
pub store_turn : (l bs : List ℕ) (s : ℕ) → s < 32
    → sets (set l s (get_or (rows_read bs) s 0)) (s + 1) (drop (s + 1) (drop 3 (value_read bs))) ≡ sets l s (drop s (drop 3 (value_read bs)))
store_turn l bs s h =
    let rows = drop 3 (value_read bs) in
    let at : get_or rows s 0 ≡ get_or (rows_read bs) s 0 = get_or-drop 3 (value_read bs) s 0 ∙ value_row bs s in
    let long : s < length rows = omega (arith, length-drop 3 (value_read bs), length_value bs) in
    rw (← at) (simp zero-add at (put_turn l rows 0 s long))

-- after the last of them nothing is left of what was lent
pub stored : (l lent bs : List ℕ) (s : ℕ) → length lent ≡ 32 → 32 ≤ s → sets l s (drop s (drop 3 (value_read bs))) ≡ sets lent 0 (drop 3 (value_read bs))
    → l ≡ drop 3 (value_read bs)
stored l lent bs s h m e =
    let rows = drop 3 (value_read bs) in
    let long : length rows ≡ 32 = omega (arith, length-drop 3 (value_read bs), length_value bs) in
    let last = put_end l rows 0 s (omega arith) in
    let whole : 0 + length rows ≡ length lent = omega arith in
    sym (simp zero-add at last) ∙ e ∙ sets-eq rows lent 0 (omega arith) ∙ rw (whole, drop-length lent) (append-nil rows)

-- the header's three words and the rows are all 35
pub all_stored : (l bs : List ℕ) → length l ≡ 35
    → let headed = set (set (set l 0 (head_start (header bs))) 1 (head_signers (header bs))) 2 (head_targets (header bs)) in
    take 3 headed ++ (drop 3 (value_read bs) ++ drop 32 (drop 3 headed)) ≡ value_read bs
unfolding value_read
all_stored (x ∷ y ∷ z ∷ l) bs h = rw (drop_of_length-le l {i = 32} (omega arith), append-nil)
all_stored [] bs h = absurd (omega arith)
all_stored (x ∷ []) bs h = absurd (omega arith)
all_stored (x ∷ y ∷ []) bs h = absurd (omega arith)
