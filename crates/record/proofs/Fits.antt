-- Number 14: the words of a run one by one, and a state that pictures a stack is let through. Assumes nothing.
use mathlib.Core.Path.{◌≡◌, refl, sym, ap, ◌∙◌}
use mathlib.Core.Bool.{Bool, true, false, ◌&&◌}
use mathlib.Core.List.{List, [], ◌∷◌}
use mathlib.Core.Logic.{◌≢◌}
use Prim.Native.Nat.{ℕ, zero, suc, ◌+◌, ◌-◌, ◌^◌, ◌≤◌, ◌<◌}
use native.Mathlib.Nat.{add-zero, zero-add}
use native.Mathlib.Numerals.{one-add}
use native.Mathlib.Omega.{arith}
use lib.Dec.{eqb}
use lib.ListN.{length, get_or}
use borrow.Author.Tests.{lt-ltb, ltb-true, le-leb, eqb-true, eqb-false}
use Rattle.std.specs.List.{list_all, range_with_len}
use Rattle.bits.specs.Bit.{below}
use Rattle.bits.proofs.Laws.{high_bits}
use Rattle.beliefs.specs.Lists.{each}
use Rattle.beliefs.specs.Policy.{Policy, signers}
use Rattle.beliefs.specs.Stack.{Frame, Stack}
use Rattle.beliefs.proofs.Lists.{each_none, each_at, each_of, each_ext, each_sum}
use Rattle.record.specs.Layout.{frame_from, words_from, depth, signer_at}
use Rattle.record.specs.Fits.{words_below, words, frame_fits, fits}
use Rattle.record.specs.Pictures.{FramePictured, FramesPictured, Pictures}
use Rattle.record.proofs.Frames.{word_held}
use Rattle.record.proofs.Chains.{none_longer, none_outside}

-- every number of a range, and of the range from 0 on
each_one : (f : ℕ → Bool) → each f 1 ≡ f 0
unfolding each
each_one f = refl

range_each : (f : ℕ → Bool) (from n : ℕ) → list_all f (range_with_len from n) ≡ each (λ k. f (from + k)) n
range_each f from zero = sym (each_none (λ k. f (from + k)))
range_each f from (suc n) =
    let up : (k : ℕ) → from + 1 + k ≡ from + (1 + k) = λ k. omega arith in
    ap (λ (x : Bool). f from && x)
    (range_each f (from + 1) n ∙ each_ext (λ k. f (from + 1 + k)) (λ k. f (from + (1 + k))) n (λ k l. ap f (up k)))
    ∙ sym (rw (← one-add n) (each_sum (λ k. f (from + k)) 1 n ∙ rw (each_one (λ k. f (from + k)), add-zero from)))

pub each_range : (f : ℕ → Bool) (n : ℕ) → list_all f (range_with_len 0 n) ≡ each f n
each_range f n = range_each f 0 n ∙ each_ext (λ k. f (0 + k)) f n (λ k l. ap f (zero-add k))

-- one by one
module _ (s : List ℕ) (from to n : ℕ) where
  pub words_at : words_below s from to n ≡ true → (i : ℕ) → from ≤ i → i < to → get_or s i 0 < 2 ^ n
  unfolding words_below below
  words_at h i l m =
      let e : from + (i - from) ≡ i = omega arith in
      rw e at (ltb-true _ (2 ^ n) (each_at (λ i. below (get_or s (from + i) 0) n) (to - from) h (i - from) (omega arith)))

  pub words_all : ((i : ℕ) → from ≤ i → i < to → get_or s i 0 < 2 ^ n) → words_below s from to n ≡ true
  unfolding words_below below
  words_all h =
      each_of (λ i. below (get_or s (from + i) 0) n) (to - from)
      (λ i l. lt-ltb (get_or s (from + i) 0) (2 ^ n) (h (from + i) (omega arith) (omega arith)))

-- a run, and the run that follows it
pub words_none : (s : List ℕ) (from n : ℕ) → words_below s from from n ≡ true
unfolding words_below
words_none s from n = let e : from - from ≡ 0 = omega arith in rw e (each_none (λ i. below (get_or s (from + i) 0) n))

pub words_then : (s : List ℕ) (from mid to n : ℕ) → from ≤ mid → mid ≤ to → words_below s from to n ≡ (words_below s from mid n && words_below s mid to n)
unfolding words_below
words_then s from mid to n l m =
    let both : to - from ≡ mid - from + (to - mid) = omega arith in
    let f : ℕ → Bool = λ i. below (get_or s (from + i) 0) n in
    rw both
    (each_sum f (mid - from) (to - mid)
    ∙ ap (λ (x : Bool). each f (mid - from) && x)
    (each_ext (λ i. f (mid - from + i)) (λ i. below (get_or s (mid + i) 0) n) (to - mid)
    (λ i h. let at : from + (mid - from + i) ≡ mid + i = omega arith in rw at)))

-- the room from a frame on is zero where each frame's is
abbrev pub frame_zero : List ℕ → ℕ → Bool
frame_zero s j = words_below s (frame_from j) (frame_from j + 65) 0

pub frames_zero : (s : List ℕ) (n j : ℕ) → j + n ≡ 63 → list_all (frame_zero s) (range_with_len j n) ≡ words_below s (frame_from j) 4096 0
frames_zero s zero j h = let top : frame_from j ≡ 4096 = omega arith in rw top (sym (words_none s 4096 0))
frames_zero s (suc n) j h =
    let next : frame_from (j + 1) ≡ frame_from j + 65 = omega arith in
    ap (λ (x : Bool). frame_zero s j && x) (frames_zero s n (j + 1) (omega arith) ∙ rw next)
    ∙ sym (words_then s (frame_from j) (frame_from j + 65) 4096 0 (omega arith) (omega arith))

module _ (p : Policy) (s : List ℕ) where
  frame_fits_lem : (f : Frame) (r : Stack) → FramePictured p s f r → frame_fits p s (length r) ≡ true
  unfolding frame_fits
  frame_fits_lem f r h =
      let at : ℕ = words_from (length r) in
      rw (
        lt-ltb (signer_at s (length r)) (signers p) (rw h.signer h.known),
        words_all s at (at + words p) (length r + 1)
            (λ i l m. rw (word_held s (length r) i l (omega arith))
            (high_bits (length r + 1) _ (λ u n. h.lengths (i - at) u ∙ none_longer p r (i - at) u (omega arith) f.beliefs h.founded))),
        words_all s (at + words p) (at + 64) 0
            (λ i l m. rw (word_held s (length r) i (omega arith) m)
            (high_bits 0 _ (λ u n. h.lengths (i - at) u ∙ none_outside p r (i - at) u (omega arith) f.beliefs h.founded))),
      )

  frames_fit : (st : Stack) → FramesPictured p s st → (j : ℕ) → j < length st → frame_fits p s j ≡ true
  frames_fit [] h j l = absurd (omega arith)
  frames_fit (f ∷ r) h j l = go (eqb j (length r)) refl (λ m. frames_fit r h.1 j m)
    where
      go : (e : Bool) → eqb j (length r) ≡ e → (j < length r → frame_fits p s j ≡ true) → frame_fits p s j ≡ true
      go true q ih = rw (eqb-true j (length r) q) (frame_fits_lem f r h.0)
      go false q ih = let other : j ≢ length r = eqb-false j (length r) q in ih (omega arith)

  pub pictured_fits : (st : Stack) → Pictures p s st → fits p s ≡ true
  unfolding fits
  pictured_fits st h =
      rw (
        le-leb (get_or s 0 0) 63 (omega arith),
        each_of (frame_fits p s) (depth s) (λ j l. frames_fit st h.frames j (omega arith)),
      )
      (words_all s (frame_from (depth s)) 4096 0 (λ i l m. let zero : get_or s i 0 ≡ 0 = h.above i (omega arith) in omega arith))
