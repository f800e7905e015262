-- The laws of the bytes that a policy is written as. Assumes nothing.
use mathlib.Core.Path.{◌≡◌, refl, sym, ap, ◌∙◌}
use mathlib.Core.List.{List, [], ◌∷◌, ◌++◌, append-nil, append_assoc}
use Prim.Native.Nat.{ℕ, zero, suc, ◌+◌, ◌-◌, ◌*◌, ◌/◌, ◌%◌, ◌^◌, ◌≤◌, ◌<◌}
use native.Mathlib.Nat.{suc-mul}
use native.Mathlib.Omega.{arith}
use lib.ListN.{length, get_or, take, drop, set, length-append, length-take, length-drop, drop_of_length-le}
use lib.Seq.{drop-cons, drop-drop, drop-length, get_or-take, get_or-drop, length-take-le, sets, sets-eq}
use Rattle.std.specs.Int.{w16, to_be_bytes}
use Rattle.beliefs.specs.Policy.{mirrored, row, row_bytes, rows_bytes}
use Rattle.beliefs.proofs.Lists.{sets_more}

pub length_row_bytes : (k w : ℕ) → length (row_bytes k w) ≡ k
unfolding row_bytes
length_row_bytes zero w = refl
length_row_bytes (suc k) w = ap suc (length_row_bytes k (w / 256))

pub length_rows_bytes : (k : ℕ) (ws : List ℕ) → length (rows_bytes k ws) ≡ length ws * k
unfolding rows_bytes
length_rows_bytes k [] = omega arith
length_rows_bytes k (w ∷ ws) =
    omega (arith, length-append (row_bytes k w) (rows_bytes k ws), length_row_bytes k w, length_rows_bytes k ws, suc-mul (length ws) k)

-- the rows that are written
pub length_rows_of : (p : List ℕ) (n : ℕ) → length p ≡ 35 → n ≤ 32 → length (take n (drop 3 p)) ≡ n
length_rows_of p n h l = length-take-le n (drop 3 p) (omega (arith, length-drop 3 p))

pub row_written : (p : List ℕ) (n s : ℕ) → s < n → get_or (take n (drop 3 p)) s 0 ≡ row p s
row_written p n s h = get_or-take n (drop 3 p) s 0 h ∙ get_or-drop 3 p s 0

-- a row is stored from its first byte to its last: one of them, and the rest after it
pub put_turn : (l : List ℕ) (k n w : ℕ) → k < n
    → sets (set l k (mirrored (w % 256))) (k + 1) (row_bytes (n - (k + 1)) (w / 256)) ≡ sets l k (row_bytes (n - k) w)
unfolding row_bytes
put_turn l k n w h =
    let e : n - k ≡ suc (n - (k + 1)) = omega arith in
    let f : k + 1 ≡ suc k = omega arith in
    rw (e, f)

-- the bytes of a row fill its place
pub row_stored : (l : List ℕ) (w : ℕ) → sets l 0 (row_bytes (length l) w) ≡ row_bytes (length l) w
row_stored l w =
    let bs = row_bytes (length l) w in
    let e : 0 + length bs ≡ length l = omega (arith, length_row_bytes (length l) w) in
    sets-eq bs l 0 (omega arith) ∙ rw (e, drop-length l) (append-nil bs)

-- and with the place filled they are stored where it was taken
pub row_placed : (l place : List ℕ) (at k n w : ℕ) → n ≡ k → at + k ≤ length l → place ≡ row_bytes (length (take n (drop at l))) w
    → take at l ++ (place ++ drop n (drop at l)) ≡ sets l at (row_bytes k w)
row_placed l place at k n w e h p =
    let bs = row_bytes k w in
    let long : length (take n (drop at l)) ≡ k = length-take-le n (drop at l) (omega (arith, length-drop at l)) ∙ e in
    let filled : place ≡ bs = rw long at p in
    let past : at + length bs ≡ at + k = omega (arith, length_row_bytes k w) in
    rw (filled, e, drop-drop k at l) (sym (sets-eq bs l at (omega arith) ∙ rw past (append_assoc (take at l) bs (drop (at + k) l))))

-- the rows are stored from the first to the last: one of them, and the rest after it
pub put_rows_turn : (l p : List ℕ) (n k s : ℕ) → length p ≡ 35 → n ≤ 32 → s < n
    → sets (sets l (2 + s * k) (row_bytes k (row p s))) (2 + (s + 1) * k) (rows_bytes k (drop (s + 1) (take n (drop 3 p))))
    ≡ sets l (2 + s * k) (rows_bytes k (drop s (take n (drop 3 p))))
unfolding rows_bytes
put_rows_turn l p n k s h m o =
    let ws = take n (drop 3 p) in
    let e : s + 1 ≡ suc s = omega arith in
    let f : 2 + suc s * k ≡ 2 + s * k + length (row_bytes k (row p s)) = omega (arith, length_row_bytes k (row p s), suc-mul s k) in
    rw (
      e,
      f,
      sets_more l (2 + s * k) (row_bytes k (row p s)) (rows_bytes k (drop (suc s) ws)),
      drop-cons ws s 0 (omega (arith, length_rows_of p n h m)),
      row_written p n s o,
    )

-- after the last of them
pub rows_put : (l p : List ℕ) (n k s i : ℕ) → n ≤ s → sets l i (rows_bytes k (drop s (take n (drop 3 p)))) ≡ l
unfolding rows_bytes
rows_put l p n k s i h = rw (drop_of_length-le (take n (drop 3 p)) {i = s} (omega (arith, length-take n (drop 3 p))))

-- the header's two bytes are stored before the rows
pub header_put : (l : List ℕ) (h : ℕ) (ws : List ℕ) → 2 ≤ length l → h < 2 ^ 16 → sets (to_be_bytes w16 h ++ drop 2 l) 2 ws ≡ sets l 0 (h / 256 ∷ h % 256 ∷ ws)
header_put (x ∷ y ∷ l) h ws m k = let e : h / 256 % 256 ≡ h / 256 = omega arith in rw e
header_put [] h ws m k = absurd (omega arith)
header_put (x ∷ []) h ws m k = absurd (omega arith)
