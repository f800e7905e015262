-- Number 13's test of the rows, in two parts: those below S, and those from S on. Assumes nothing.
use mathlib.Core.Path.{◌≡◌, refl, sym, ap, ap₂, ◌∙◌}
use mathlib.Core.Bool.{Bool, ◌&&◌}
use mathlib.Core.List.{List}
use Prim.Native.Nat.{ℕ, zero, suc, ◌+◌, ◌-◌, ◌≤◌}
use native.Mathlib.Nat.{add_assoc, sub-zero}
use native.Mathlib.Omega.{arith}
use lib.ListN.{length, get_or, take, drop, length-drop}
use lib.Seq.{take_all, drop-cons, get_or-drop}
use lib.Bits.{bit_or}
use lib.Dec.{eqb}
use Rattle.std.specs.List.{fold, range_with_len}
use borrow.Author.Tests.{lt-ltb, le-ltb}
use Rattle.bits.specs.Bit.{below, all_below}
use Rattle.bits.proofs.Laws.{below_none, below_together}
use Rattle.beliefs.specs.Lists.{each}
use Rattle.beliefs.specs.Policy.{signers, targets, row, row_fits}
use Rattle.beliefs.proofs.Lists.{each_ext, each_sum, part_below}

-- the rows are all that follows a policy's first three words
module _ (p : List ℕ) (h : length p ≡ 35) where
  rows_are : take 32 (drop 3 p) ≡ drop 3 p
  rows_are = take_all 32 (drop 3 p) (omega (arith, length-drop 3 p))

  pub row_found : (s : ℕ) → get_or (take 32 (drop 3 p)) s 0 ≡ row p s
  row_found s = ap (λ (l : List ℕ). get_or l s 0) rows_are ∙ get_or-drop 3 p s 0

  pub rows_parted : signers p ≤ 32
      → each (row_fits p) 32 ≡ (all_below (take (signers p) (drop 3 p)) (targets p) && all_below (take (32 - signers p) (drop (3 + signers p) p)) 0)
  unfolding row_fits
  rows_parted few =
      let s : ℕ = signers p in
      let past : ℕ = 32 - s in
      let below_s : each (row_fits p) s ≡ all_below (take s (drop 3 p)) (targets p) =
      each_ext (row_fits p) (λ i. below (row p i) (targets p)) s (λ i l. rw (lt-ltb i s l)) ∙ sym (part_below p 3 s (targets p) (omega arith)) in
      let from_s : each (λ i. row_fits p (s + i)) past ≡ all_below (take past (drop (3 + s) p)) 0 =
      each_ext (λ i. row_fits p (s + i)) (λ i. below (get_or p (3 + s + i) 0) 0) past
      (λ i l. rw (le-ltb (s + i) s (omega arith), ← add_assoc 3 s i) (sym (below_none _)))
      ∙ sym (part_below p (3 + s) past 0 (omega arith)) in
      ap (each (row_fits p)) (omega arith) ∙ each_sum (row_fits p) s past ∙ ap₂ (λ (x y : Bool). x && y) below_s from_s

  -- each part is tested by its bits together
  pub rows_tested : signers p ≤ 32
      → each (row_fits p) 32
      ≡ (below (fold bit_or 0 (take (signers p - 0) (drop 3 p))) (targets p) && eqb (fold bit_or 0 (take (32 - signers p) (drop (3 + signers p) p))) 0)
  rows_tested few =
      rows_parted few
      ∙ ap₂ (λ (x y : Bool). x && y) (rw sub-zero (sym (below_together _ _))) (sym (below_together _ 0) ∙ below_none _)

-- the rows from one on, each by its number, are a part of the policy's words
pub rows_by_number : (p : List ℕ) (a from n : ℕ) → 3 + from + n ≤ length p
    → fold (λ w s. bit_or w (get_or p (3 + s) 0)) a (range_with_len from n) ≡ fold bit_or a (take n (drop (3 + from) p))
rows_by_number p a from zero h = refl
rows_by_number p a from (suc n) h =
    let next : 3 + (from + 1) ≡ suc (3 + from) = omega arith in
    rows_by_number p (bit_or a (get_or p (3 + from) 0)) (from + 1) n (omega arith) ∙ rw (next, drop-cons p (3 + from) 0 (omega arith))
