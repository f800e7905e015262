-- Laws of the layout: what stands in the words after a run of them was stored, and after each operation's stores. Assumes nothing.
use mathlib.Core.Path.{◌≡◌, refl, sym, ◌∙◌}
use mathlib.Core.Bool.{Bool, true, false, cond}
use mathlib.Core.List.{List}
use mathlib.Core.Logic.{◌≢◌}
use Prim.Native.Nat.{ℕ, zero, suc, ◌+◌, ◌-◌, ◌≤◌, ◌<◌}
use native.Mathlib.Numerals.{add-one}
use native.Mathlib.Decide.{dec_lt}
use native.Mathlib.Omega.{arith}
use lib.Dec.{eqb, ltb}
use lib.ListN.{length, get_or, set, length-set}
use lib.Seq.{get_or-set_same, get_or-set_other, paste}
use borrow.Author.Tests.{lt-ltb, ltb-true, ltb-false, eqb-true, eqb-false}
use borrow.Rule.Slice.PartMut.{put_mid}
use Rattle.std.proofs.lemmas.List.Edits.{paste_none, paste_more}
use Rattle.std.proofs.lemmas.Slice.{put_mid-paste}
use Rattle.beliefs.specs.Policy.{Target}
use Rattle.record.specs.Layout.{frame_from, words_from, signer_at, held_at, filled}

module _ (at : ℕ) (w : ℕ → ℕ) (s : List ℕ) where
  pub filled_none : filled at w 0 s ≡ s
  unfolding filled
  filled_none = refl

  pub filled_more : (n v k : ℕ) (l : List ℕ) → k ≡ at + n → l ≡ filled at w n s → v ≡ w n → set l k v ≡ filled at w (n + 1) s
  unfolding filled
  filled_more n v k l i h e = rw (i, h, e, add-one)

  pub length_filled : (n : ℕ) → length (filled at w n s) ≡ length s
  unfolding filled
  length_filled zero = refl
  length_filled (suc n) = length-set (filled at w n s) (at + n) (w n) ∙ length_filled n

  pub filled_other : (n j : ℕ) → ((k : ℕ) → k < n → j ≢ at + k) → get_or (filled at w n s) j 0 ≡ get_or s j 0
  unfolding filled
  filled_other zero j h = refl
  filled_other (suc n) j h = get_or-set_other (filled at w n s) (at + n) j (w n) 0 (h n (omega arith)) ∙ filled_other n j (λ k l. h k (omega arith))

  pub filled_at : (n k : ℕ) → k < n → at + n ≤ length s → get_or (filled at w n s) (at + k) 0 ≡ w k
  unfolding filled
  filled_at zero k l h = absurd (omega arith)
  filled_at (suc n) k l h = go (eqb k n) refl (λ m. filled_at n k m (omega arith))
    where
      go : (e : Bool) → eqb k n ≡ e → (k < n → get_or (filled at w n s) (at + k) 0 ≡ w k) → get_or (set (filled at w n s) (at + n) (w n)) (at + k) 0 ≡ w k
      go true q ih = rw (eqb-true k n q) (get_or-set_same (filled at w n s) (at + n) (w n) 0 (omega (arith, length_filled n)))
      go false q ih =
          let other : k ≢ n = eqb-false k n q in
          get_or-set_other (filled at w n s) (at + n) (at + k) (w n) 0 (omega arith) ∙ ih (omega arith)

-- the same words written at once, as a part of the state
module _ (at : ℕ) (w : ℕ → ℕ) (s ys : List ℕ) where
  filled_paste : (n : ℕ) → n ≤ length ys → at + n ≤ length s → ((i : ℕ) → i < n → get_or ys i 0 ≡ w i) → filled at w n s ≡ paste s at ys n
  unfolding filled
  filled_paste zero a b h = paste_none s at ys
  filled_paste (suc n) a b h =
      rw (filled_paste n (omega arith) (omega arith) (λ i l. h i (omega arith)), ← h n (omega arith))
      (paste_more s at ys n 0 (omega arith) (omega arith) ∙ rw add-one)

  pub part_filled : (n k : ℕ) → k ≡ n → length ys ≡ n → at + n ≤ length s → ((i : ℕ) → i < n → get_or ys i 0 ≡ w i) → put_mid at k s ys ≡ filled at w n s
  part_filled n k e l m h =
      put_mid-paste at k s ys ys n refl (sym e) (sym l) ∙ sym (filled_paste n (omega arith) m h)

pub filled_ext : (at : ℕ) (v w : ℕ → ℕ) (s : List ℕ) (n : ℕ) → ((k : ℕ) → k < n → v k ≡ w k) → filled at v n s ≡ filled at w n s
unfolding filled
filled_ext at v w s zero h = refl
filled_ext at v w s (suc n) h = rw (h n (omega arith), filled_ext at v w s n (λ k l. h k (omega arith)))

-- the word at an index is a target's
pub word_held : (s : List ℕ) (j i : ℕ) → words_from j ≤ i → i < words_from j + 64 → get_or s i 0 ≡ held_at s j (i - words_from j)
unfolding held_at
word_held s j i l m =
    let e : words_from j + (i - words_from j) ≡ i = omega arith in
    rw (lt-ltb (i - words_from j) 64 (omega arith), e)

-- what is stored above a frame leaves its words
pub below_held : (s : List ℕ) (j : ℕ) (t : Target) (w : ℕ → ℕ) (n k : ℕ) → k ≡ words_from j + t → t < 64
    → get_or (filled (words_from (j + 1)) w n s) k 0 ≡ held_at s j t
unfolding held_at
below_held s j t w n k e l = rw (e, lt-ltb t 64 l) (filled_other (words_from (j + 1)) w s n (words_from j + t) (omega arith))

-- a frame whose words stay
pub held_same : (s s' : List ℕ) (j : ℕ) → ((i : ℕ) → frame_from j ≤ i → i < frame_from (suc j) → get_or s' i 0 ≡ get_or s i 0)
    → (t : Target) → held_at s' j t ≡ held_at s j t
unfolding held_at
held_same s s' j h t = go (ltb t 64) refl
  where
    go : (e : Bool) → ltb t 64 ≡ e → cond e (get_or s' (words_from j + t) 0) 0 ≡ cond e (get_or s (words_from j + t) 0) 0
    go true q = h (words_from j + t) (omega arith) (omega (arith, ltb-true t 64 q))
    go false q = refl

-- enable, disable and revert store one word of the frame above j others
module _ (s : List ℕ) (j : ℕ) (t : Target) (w : ℕ) (whole : length s ≡ 4096) (room : j < 63) (low : t < 64) where
  pub held_set : (u : Target) → held_at (set s (words_from j + t) w) j u ≡ cond (eqb t u) w (held_at s j u)
  unfolding held_at
  held_set u = go (eqb t u) refl (ltb u 64) refl
    where
      go : (e : Bool) → eqb t u ≡ e → (l : Bool) → ltb u 64 ≡ l
          → cond l (get_or (set s (words_from j + t) w) (words_from j + u) 0) 0 ≡ cond e w (cond l (get_or s (words_from j + u) 0) 0)
      go true q true m = rw (← eqb-true t u q) (get_or-set_same s (words_from j + t) w 0 (omega arith))
      go true q false m = let same : t ≡ u = eqb-true t u q in absurd (omega (arith, ltb-false u 64 m))
      go false q true m = let other : t ≢ u = eqb-false t u q in get_or-set_other s (words_from j + t) (words_from j + u) w 0 (omega arith)
      go false q false m = refl

-- return stores zeros in the frame above j others, and then the depth j
abbrev pub lowered : ℕ → List ℕ → List ℕ
lowered j s = set (filled (frame_from j) (λ i. 0) 65 s) 0 j

module _ (j : ℕ) (s : List ℕ) (whole : length s ≡ 4096) (room : j < 63) where
  abbrev cleared : List ℕ
  cleared = filled (frame_from j) (λ i. 0) 65 s

  pub lowered_depth : get_or (lowered j s) 0 0 ≡ j
  lowered_depth = get_or-set_same cleared 0 j 0 (omega (arith, length_filled (frame_from j) (λ i. 0) s 65))

  pub lowered_below : (i : ℕ) → 0 < i → i < frame_from j → get_or (lowered j s) i 0 ≡ get_or s i 0
  lowered_below i a b = get_or-set_other cleared 0 i j 0 (omega arith) ∙ filled_other (frame_from j) (λ i. 0) s 65 i (omega arith)

  pub lowered_above : ((i : ℕ) → frame_from (suc j) ≤ i → get_or s i 0 ≡ 0) → (i : ℕ) → frame_from j ≤ i → get_or (lowered j s) i 0 ≡ 0
  lowered_above h i l = get_or-set_other cleared 0 i j 0 (omega arith) ∙ go (dec_lt i (frame_from (suc j)))
    where
      go : Dec (i < frame_from (suc j)) → get_or cleared i 0 ≡ 0
      go (yes m) =
          let e : i ≡ frame_from j + (i - frame_from j) = omega arith in
          rw e (filled_at (frame_from j) (λ i. 0) s 65 (i - frame_from j) (omega arith) (omega arith))
      go (no m) = filled_other (frame_from j) (λ i. 0) s 65 i (omega arith) ∙ h i (omega arith)

-- call stores the words of the frame above j others, its signer, and then the depth j + 1
abbrev pub raised : ℕ → (ℕ → ℕ) → ℕ → List ℕ → List ℕ
raised j w g s = set (set (filled (words_from j) w 64 s) (frame_from j) g) 0 (j + 1)

module _ (j : ℕ) (w : ℕ → ℕ) (g : ℕ) (s : List ℕ) (whole : length s ≡ 4096) (room : j < 63) where
  abbrev begun : List ℕ
  begun = filled (words_from j) w 64 s

  long : length begun ≡ 4096
  long = length_filled (words_from j) w s 64 ∙ whole

  past : (i : ℕ) → 0 < i → get_or (raised j w g s) i 0 ≡ get_or (set begun (frame_from j) g) i 0
  past i a = get_or-set_other (set begun (frame_from j) g) 0 i (j + 1) 0 (omega arith)

  pub raised_depth : get_or (raised j w g s) 0 0 ≡ j + 1
  raised_depth = get_or-set_same (set begun (frame_from j) g) 0 (j + 1) 0 (omega (arith, length-set begun (frame_from j) g, long))

  pub raised_signer : signer_at (raised j w g s) j ≡ g
  raised_signer = past (frame_from j) (omega arith) ∙ get_or-set_same begun (frame_from j) g 0 (omega (arith, long))

  pub raised_other : (i : ℕ) → 0 < i → ((k : ℕ) → k < 65 → i ≢ frame_from j + k) → get_or (raised j w g s) i 0 ≡ get_or s i 0
  raised_other i a h =
      past i a ∙ get_or-set_other begun (frame_from j) i g 0 (omega (arith, h 0 (omega arith)))
      ∙ filled_other (words_from j) w s 64 i (λ k l. omega (arith, h (suc k) (omega arith)))

  pub raised_held : (t : Target) → held_at (raised j w g s) j t ≡ cond (ltb t 64) (w t) 0
  unfolding held_at
  raised_held t = go (ltb t 64) refl
    where
      go : (e : Bool) → ltb t 64 ≡ e → cond e (get_or (raised j w g s) (words_from j + t) 0) 0 ≡ cond e (w t) 0
      go true q =
          past (words_from j + t) (omega arith) ∙ get_or-set_other begun (frame_from j) (words_from j + t) g 0 (omega arith)
          ∙ filled_at (words_from j) w s 64 t (ltb-true t 64 q) (omega arith)
      go false q = refl
