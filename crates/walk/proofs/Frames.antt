-- Frames in the flat state: a stored frame is read back, and nothing else of the state is touched. Assumes nothing.
use mathlib.Core.Path.{◌≡◌, refl, sym, ap, ap₂, ◌∙◌}
use mathlib.Core.Logic.{◌≢◌}
use mathlib.Core.List.{List, ◌∷◌}
use Prim.Native.Nat.{ℕ, zero, suc, ◌+◌, ◌-◌, ◌*◌, ◌%◌, ◌≤◌, ◌<◌}
use native.Mathlib.Omega.{arith}
use lib.ListN.{get_or, set, length, length-set, get_or-eq_default}
use lib.Seq.{get_or-set_same, get_or-set_other, set_out}
use Rattle.beliefs.specs.declared.Marked.{Marked}
use Rattle.beliefs.specs.declared.Seen.{Seen}
use Rattle.beliefs.specs.Stack.{nobody, walk}
use Rattle.beliefs.proofs.Counts.{looked_le}
use Rattle.walk.specs.Layout.{depth, frame_at, frames_at, frames, put}

-- a frame by its three words
same_frame : (s : List ℕ) (j : ℕ) (m : Marked) → get_or s (3 * j + 1) 0 ≡ m.signer → get_or s (3 * j + 2) 0 ≡ m.enabled → get_or s (3 * j + 3) 0 ≡ m.disabled
    → frame_at s j ≡ m
unfolding frame_at
same_frame s j m a b c = λ i. record { signer = a i; enabled = b i; disabled = c i }

module _ (s : List ℕ) (long : length s ≡ 190) (k : ℕ) where
  -- there is no 64th frame
  pub frame_past : 63 ≤ k → nobody ≡ frame_at s k
  frame_past h =
      sym (same_frame s k nobody (get_or-eq_default s 0 (omega arith)) (get_or-eq_default s 0 (omega arith)) (get_or-eq_default s 0 (omega arith)))

  pub put_past : (m : Marked) → 63 ≤ k → s ≡ put s k m
  put_past m h =
      let a : set s (3 * k + 1) m.signer ≡ s = set_out s (3 * k + 1) m.signer (omega arith) in
      let b : set s (3 * k + 2) m.enabled ≡ s = set_out s (3 * k + 2) m.enabled (omega arith) in
      let c : set s (3 * k + 3) m.disabled ≡ s = set_out s (3 * k + 3) m.disabled (omega arith) in
      sym (rw (a, b, c))

pub length_put : (s : List ℕ) (k : ℕ) (m : Marked) → length (put s k m) ≡ length s
length_put s k m = simp length-set

module _ (s : List ℕ) (k : ℕ) (m : Marked) where
  -- a word that is none of the frame's three
  pub put_other : (j : ℕ) → j ≢ 3 * k + 1 → j ≢ 3 * k + 2 → j ≢ 3 * k + 3 → get_or (put s k m) j 0 ≡ get_or s j 0
  put_other j a b c =
      get_or-set_other (set (set s (3 * k + 1) m.signer) (3 * k + 2) m.enabled) (3 * k + 3) j m.disabled 0 c
      ∙ get_or-set_other (set s (3 * k + 1) m.signer) (3 * k + 2) j m.enabled 0 b ∙ get_or-set_other s (3 * k + 1) j m.signer 0 a

  pub put_frame : length s ≡ 190 → k < 63 → frame_at (put s k m) k ≡ m
  put_frame long h =
      let s₁ : List ℕ = set s (3 * k + 1) m.signer in
      let s₂ : List ℕ = set s₁ (3 * k + 2) m.enabled in
      let l₁ : length s₁ ≡ 190 = length-set s (3 * k + 1) m.signer ∙ long in
      let l₂ : length s₂ ≡ 190 = length-set s₁ (3 * k + 2) m.enabled ∙ l₁ in
      same_frame (put s k m) k m
      (get_or-set_other s₂ (3 * k + 3) (3 * k + 1) m.disabled 0 (omega arith) ∙ get_or-set_other s₁ (3 * k + 2) (3 * k + 1) m.enabled 0 (omega arith)
      ∙ get_or-set_same s (3 * k + 1) m.signer 0 (omega arith))
      (get_or-set_other s₂ (3 * k + 3) (3 * k + 2) m.disabled 0 (omega arith) ∙ get_or-set_same s₁ (3 * k + 2) m.enabled 0 (omega arith))
      (get_or-set_same s₂ (3 * k + 3) m.disabled 0 (omega arith))

  pub put_others : (j : ℕ) → j ≢ k → frame_at (put s k m) j ≡ frame_at s j
  unfolding frame_at
  put_others j h =
      same_frame (put s k m) j (frame_at s j)
      (put_other (3 * j + 1) (omega arith) (omega arith) (omega arith))
      (put_other (3 * j + 2) (omega arith) (omega arith) (omega arith))
      (put_other (3 * j + 3) (omega arith) (omega arith) (omega arith))

  pub put_depth : get_or (put s k m) 0 0 ≡ get_or s 0 0
  put_depth = put_other 0 (omega arith) (omega arith) (omega arith)

-- the depth's word is no frame's
pub set_depth : (s : List ℕ) (n j : ℕ) → frame_at (set s 0 n) j ≡ frame_at s j
unfolding frame_at
set_depth s n j =
    same_frame (set s 0 n) j (frame_at s j)
    (get_or-set_other s 0 (3 * j + 1) n 0 (omega arith))
    (get_or-set_other s 0 (3 * j + 2) n 0 (omega arith))
    (get_or-set_other s 0 (3 * j + 3) n 0 (omega arith))

-- the k lowest frames are the same where each is
pub frames_at_same : (s s' : List ℕ) (k : ℕ) → ((j : ℕ) → j < k → frame_at s' j ≡ frame_at s j) → frames_at s' k ≡ frames_at s k
frames_at_same s s' zero h = refl
frames_at_same s s' (suc k) h = ap₂ (λ (m : Marked) (ms : List Marked). m ∷ ms) (h k (omega arith)) (frames_at_same s s' k (λ j l. h j (omega arith)))

pub frames_at_length : (s : List ℕ) (k : ℕ) → length (frames_at s k) ≡ k
frames_at_length s zero = refl
frames_at_length s (suc k) = ap suc (frames_at_length s k)

-- the frame at a place, 0 at the newest
module _ (s : List ℕ) where
  pub place_past : (d k : ℕ) → d ≤ k → nobody ≡ get_or (frames_at s d) k nobody
  place_past d k h = sym (get_or-eq_default (frames_at s d) nobody (omega (arith, frames_at_length s d)))

  pub place_in : (d k : ℕ) → k < d → frame_at s (d - 1 - k) ≡ get_or (frames_at s d) k nobody
  place_in zero k h = absurd (omega arith)
  place_in (suc d) zero h = let e : suc d - 1 - 0 ≡ d = omega arith in ap (frame_at s) e
  place_in (suc d) (suc k) h = let e : suc d - 1 - suc k ≡ d - 1 - k = omega arith in ap (frame_at s) e ∙ place_in d k (omega arith)

-- six bits hold the frames that a walk looks at
pub six_bits : (p s : List ℕ) (t : ℕ) (v : Seen) → v ≡ walk p t (frames s) → v.looked % 64 ≡ v.looked
six_bits p s t v e = omega (arith, ap (λ (x : Seen). x.looked) e, looked_le p t (frames s), frames_at_length s (depth s))
