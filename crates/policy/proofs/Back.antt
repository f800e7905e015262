-- There and back, row by row and then for a whole policy: reading undoes writing, and writing undoes reading. Assumes nothing.
use mathlib.Core.Path.{◌≡◌, refl, sym, ap, ◌∙◌}
use mathlib.Core.Bool.{true, cond}
use mathlib.Core.List.{List, [], ◌∷◌}
use Prim.Native.Nat.{ℕ, zero, suc, ◌+◌, ◌-◌, ◌*◌, ◌/◌, ◌%◌, ◌^◌, ◌≤◌, ◌<◌}
use native.Mathlib.Decide.{dec_lt}
use native.Mathlib.Nat.{suc-mul, lt_of_lt_of_le}
use native.Mathlib.Omega.{arith}
use lib.Dec.{ltb, eqb}
use lib.ListN.{length, get_or, take, drop, replicate, take-append-drop, length-drop, get_or-eq_default}
use lib.Pow.{pow_mono}
use lib.Seq.{take_at, drop_at, drop-cons, get_or-drop, sets}
use borrow.Author.Tests.{ltb-true, ltb-false, lt-ltb, le-ltb}
use Rattle.bits.specs.Bit.{below}
use Rattle.answers.specs.Account.{Report, Reports, short_of}
use Rattle.answers.specs.Numbers.{first}
use Rattle.answers.proofs.Numbers.{spared, neither}
use Rattle.answers.proofs.Given.{passed}
use Rattle.beliefs.specs.Policy.{start, signers, targets, row, row_fits, valid, refusal, width, size, mirrored, row_of, row_bytes, rows_of, rows_bytes}
use Rattle.beliefs.specs.Policy.{header, head_start, head_signers, head_targets, headed, rows_read, value_read, bytes_written, writing}
use Rattle.policy.specs.Read.{Bytes}
use Rattle.beliefs.proofs.Lists.{each_of, all_at, all_of}
use Rattle.beliefs.proofs.Policy.{Ranges, row_below, row_none, let_in}
use Rattle.policy.proofs.Rows.{mirrored_lt, mirrored_twice, pow_byte, length_rows}
use Rattle.policy.proofs.Accepted.{Accepted}
use Rattle.policy.proofs.Value.{value_start, value_signers, value_targets, value_row}
use Rattle.policy.proofs.Written.{length_row_bytes, length_rows_bytes, length_rows_of, row_written}

pub bytes_take : (k : ℕ) (bs : List ℕ) → Bytes bs → Bytes (take k bs)
bytes_take zero bs h i = omega arith
bytes_take (suc k) [] h i = omega arith
bytes_take (suc k) (b ∷ bs) h zero = h 0
bytes_take (suc k) (b ∷ bs) h (suc i) = bytes_take k bs (λ i. h (suc i)) i

pub bytes_drop : (k : ℕ) (bs : List ℕ) → Bytes bs → Bytes (drop k bs)
bytes_drop k bs h i = rw (get_or-drop k bs i 0) (h (k + i))

row_back : (k w : ℕ) → w < 2 ^ (8 * k) → row_of (row_bytes k w) ≡ w
unfolding row_of row_bytes
row_back zero w h = omega arith
row_back (suc k) w h =
    let l : w < 2 ^ (8 * k) * 256 = rw (pow_byte k) at h in
    rw (mirrored_twice (w % 256) (omega arith), row_back k (w / 256) (omega arith)) (omega arith)

-- rows that fit in k bytes
pub rows_back : (k : ℕ) (ws : List ℕ) → ((s : ℕ) → s < length ws → get_or ws s 0 < 2 ^ (8 * k)) → rows_of (length ws) k (rows_bytes k ws) ≡ ws
unfolding rows_of rows_bytes
rows_back k [] h = refl
rows_back k (w ∷ ws) h =
    rw (
      take_at (row_bytes k w) (rows_bytes k ws) k (length_row_bytes k w),
      drop_at (row_bytes k w) (rows_bytes k ws) k (length_row_bytes k w),
      row_back k w (h 0 (omega arith)),
      rows_back k ws (λ s l. h (suc s) (omega arith)),
    )

bytes_back : (k : ℕ) (bs : List ℕ) → k ≤ length bs → Bytes bs → row_bytes k (row_of (take k bs)) ≡ take k bs
unfolding row_of row_bytes
bytes_back zero bs l h = refl
bytes_back (suc k) [] l h = absurd (omega arith)
bytes_back (suc k) (b ∷ bs) l h =
    let r = row_of (take k bs) in
    let low : (mirrored b + 256 * r) % 256 ≡ mirrored b = omega (arith, mirrored_lt b) in
    let high : (mirrored b + 256 * r) / 256 ≡ r = omega (arith, mirrored_lt b) in
    rw (low, high, mirrored_twice b (h 0), bytes_back k bs (omega arith) (λ i. h (suc i)))

-- bytes that are n rows of k each
pub rows_bytes_back : (n k : ℕ) (bs : List ℕ) → length bs ≡ n * k → Bytes bs → rows_bytes k (rows_of n k bs) ≡ bs
unfolding rows_of rows_bytes
rows_bytes_back zero k [] l h = refl
rows_bytes_back zero k (b ∷ bs) l h = absurd (omega arith)
rows_bytes_back (suc n) k bs l h =
    let m : length bs ≡ n * k + k = l ∙ suc-mul n k in
    let rest : length (drop k bs) ≡ n * k = omega (arith, length-drop k bs) in
    rw (
      bytes_back k bs (omega arith) h,
      rows_bytes_back n k (drop k bs) rest (bytes_drop k bs h),
    ) (take-append-drop k bs)

-- from a valid value to its bytes, and to what is read in them
module _ (p : List ℕ) (l : length p ≡ 35) (r : Ranges p) where
  abbrev rows : List ℕ
  rows = take (signers p) (drop 3 p)

  header_back : header (bytes_written p) ≡ headed p
  unfolding bytes_written
  header_back = omega arith

  start_back : head_start (header (bytes_written p)) ≡ start p
  start_back = rw header_back (omega arith)

  signers_back : head_signers (header (bytes_written p)) ≡ signers p
  signers_back = rw header_back (omega arith)

  targets_back : head_targets (header (bytes_written p)) ≡ targets p
  targets_back = rw header_back (omega arith)

  count : length rows ≡ signers p
  count = length_rows_of p (signers p) l r.signers_most

  clear : (s : ℕ) → s < length rows → below (get_or rows s 0) (targets p) ≡ true
  clear s h = let o : s < signers p = omega (arith, count) in rw (row_written p (signers p) s o) (row_below p r s o)

  -- a row of N targets fits in its bytes
  narrow : (s : ℕ) → s < length rows → get_or rows s 0 < 2 ^ (8 * width (targets p))
  unfolding below
  narrow s h = let m : targets p ≤ 8 * width (targets p) = omega arith in lt_of_lt_of_le (ltb-true _ _ (clear s h)) (pow_mono m)

  rows_read_lem : rows_read (bytes_written p) ≡ rows
  unfolding bytes_written
  rows_read_lem =
      let k = width (targets p) in
      rw (signers_back, targets_back) (ap (λ (n : ℕ). rows_of n k (rows_bytes k rows)) (sym count) ∙ rows_back k rows narrow)

  row_read : (s : ℕ) → row (value_read (bytes_written p)) s ≡ row p s
  row_read s = value_row (bytes_written p) s ∙ rw rows_read_lem (go (dec_lt s (signers p)))
    where
      go : Dec (s < signers p) → get_or rows s 0 ≡ row p s
      go (yes h) = row_written p (signers p) s h
      go (no h) = get_or-eq_default rows 0 (omega (arith, count)) ∙ sym (row_none p r s l (omega arith))

  pub word_read : (i : ℕ) → get_or (value_read (bytes_written p)) i 0 ≡ get_or p i 0
  unfolding value_read
  word_read zero = start_back
  word_read (suc zero) = signers_back
  word_read (suc (suc zero)) = targets_back
  word_read (suc (suc (suc s))) = let e : 3 + s ≡ suc (suc (suc s)) = omega arith in rw e at (row_read s)

  pub written_length : length (bytes_written p) ≡ size (signers p) (targets p)
  unfolding bytes_written
  written_length =
      let k = width (targets p) in
      let long : length (rows_bytes k rows) ≡ signers p * k = length_rows_bytes k rows ∙ ap (λ (n : ℕ). n * k) count in
      omega arith

  pub accepted_back : Accepted (bytes_written p)
  accepted_back =
      record {
        headed = omega (arith, written_length);
        spare = rw header_back (omega arith);
        whole = rw (signers_back, targets_back) written_length;
        clear = rw (rows_read_lem, targets_back) (all_of (λ w. below w (targets p)) rows clear);
      }

-- from accepted bytes to their value, and to what is written for it
module _ (bs : List ℕ) (b : Bytes bs) (a : Accepted bs) where
  fits : (s : ℕ) → row_fits (value_read bs) s ≡ true
  unfolding row_fits
  fits s = rw (value_signers bs, value_targets bs, value_row bs s) (go (dec_lt s n))
    where
      n : ℕ
      n = head_signers (header bs)

      many : length (rows_read bs) ≡ n
      many = length_rows n (width (head_targets (header bs))) (drop 2 bs)

      go : Dec (s < n) → cond (ltb s n) (below (get_or (rows_read bs) s 0) (head_targets (header bs))) (eqb (get_or (rows_read bs) s 0) 0) ≡ true
      go (yes h) = rw (lt-ltb s n h) (all_at (λ w. below w (head_targets (header bs))) (rows_read bs) a.clear s (omega (arith, many)))
      go (no h) = rw (le-ltb s n (omega arith), get_or-eq_default (rows_read bs) 0 {n = s} (omega (arith, many)))

  pub value_ranges : Ranges (value_read bs)
  value_ranges =
      let h : header bs < 65536 = omega (arith, b 0, b 1) in
      record {
        start_most = rw (value_start bs) (omega arith);
        signers_least = rw (value_signers bs) (omega arith);
        signers_most = rw (value_signers bs) (omega arith);
        targets_least = rw (value_targets bs) (omega arith);
        targets_most = rw (value_targets bs) (omega arith);
        rows_fit = each_of _ 32 (λ s l. fits s);
      }

  headed_back : headed (value_read bs) ≡ header bs
  headed_back =
      let h : header bs < 65536 = omega (arith, b 0, b 1) in
      rw (value_start bs, value_signers bs, value_targets bs) (omega (arith, a.spare))

  rows_written : take (signers (value_read bs)) (drop 3 (value_read bs)) ≡ rows_read bs
  unfolding value_read
  rows_written =
      let n = head_signers (header bs) in
      take_at (rows_read bs) (replicate (32 - n) 0) n (length_rows n (width (head_targets (header bs))) (drop 2 bs))

  pub written : bytes_written (value_read bs) ≡ bs
  unfolding bytes_written
  written =
      let n = head_signers (header bs) in
      let k = width (head_targets (header bs)) in
      let m : length (drop 2 bs) ≡ n * k = omega (arith, length-drop 2 bs, a.whole) in
      let high : header bs / 256 ≡ get_or bs 0 0 = omega (arith, b 1) in
      let low : header bs % 256 ≡ get_or bs 1 0 = omega (arith, b 1) in
      rw (headed_back, rows_written, value_targets bs, rows_bytes_back n k (drop 2 bs) m (bytes_drop 2 bs b), high, low)
      (sym (drop-cons bs 0 0 (omega (arith, a.headed)) ∙ ap (λ (l : List ℕ). get_or bs 0 0 ∷ l) (drop-cons bs 1 0 (omega (arith, a.headed)))))

-- what an accepted writing has done
pub record Wrote (p lent left : List ℕ) (w : Report) : Type 0 where
  pub fine : valid p ≡ true
  pub room : size (signers p) (targets p) ≤ length lent
  pub figure : w.figure ≡ size (signers p) (targets p)
  pub buffer : left ≡ sets lent 0 (bytes_written p)

pub wrote : (p lent left : List ℕ) (w : Report) → Reports w lent left (writing p (length lent)) → w.number ≡ 0 → Wrote p lent left w
unfolding writing
wrote p lent left w r e =
    let fine = passed (first (refusal p) (short_of (size (signers p) (targets p)) (length lent))) _ w lent left r e in
    let tests = neither (refusal p) _ fine.0 in
    record {
      fine = let_in p tests.0;
      room = ltb-false _ _ (spared (ltb (length lent) (size (signers p) (targets p))) 8 0 tests.1).0;
      figure = fine.1.figure;
      buffer = fine.1.buffer;
    }
