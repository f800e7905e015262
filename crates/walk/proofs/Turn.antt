-- One turn of the walk: the frame above the k others decides, or the walk goes on below it. Assumes nothing.
use mathlib.Core.Path.{◌≡◌, refl, sym, ap, ◌∙◌}
use mathlib.Core.Logic.{◌≢◌}
use mathlib.Core.Bool.{Bool, true, false, cond}
use mathlib.Core.List.{List}
use Prim.Native.Nat.{ℕ, suc, ◌+◌, ◌-◌}
use native.Mathlib.Nat.{zero-add}
use native.Mathlib.Omega.{arith}
use Rattle.std.proofs.Common.{Option, Some, None}
use Rattle.beliefs.specs.declared.Seen.{Seen}
use Rattle.beliefs.specs.Policy.{Policy}
use Rattle.beliefs.specs.Stack.{walk, decides, goes_on}
use Rattle.walk.specs.Layout.{frame_at, frames_at}
use Rattle.walk.specs.Does.{decided}

-- n frames were looked at before
abbrev pub after : ℕ → Seen → Seen
after n v = record { granted = v.granted; looked = n + v.looked }

-- what a frame's decision comes to, where v is what the walk below it finds
abbrev told : Option Bool → Seen → Seen
told None v = goes_on v
told (Some granted) v = decides granted

by_decision : (q e d : Bool) (v : Seen)
    → cond q (cond e (decides true) (cond d (decides false) (goes_on v))) (decides false)
    ≡ told (cond q (cond e (Some true) (cond d (Some false) None)) (Some false)) v
by_decision false e d v = refl
by_decision true true d v = refl
by_decision true false true v = refl
by_decision true false false v = refl

module _ (p : Policy) (s : List ℕ) (t : ℕ) (total : Seen) where
  -- no frame was looked at
  pub start : (d : ℕ) → total ≡ walk p t (frames_at s d) → total ≡ after 0 (walk p t (frames_at s d))
  start d e = rw zero-add e

  module _ (looked : ℕ) where
    -- all were, and none decides
    pub bottom : (k : ℕ) → k ≡ 0 → total ≡ after looked (walk p t (frames_at s k)) → record { granted = false; looked = looked } ≡ total
    unfolding walk
    bottom k e inv =
        let all : looked + 0 ≡ looked = omega arith in
        sym (inv ∙ ap (λ (n : ℕ). after looked (walk p t (frames_at s n))) e ∙ ap (λ (n : ℕ). record { granted = false; looked = n }) all)

    -- the frame below k decides, or the walk goes on
    module _ (k : ℕ) (some_left : k ≢ 0) (inv : total ≡ after looked (walk p t (frames_at s k))) where
      turn : total ≡ after looked (told (decided p t (frame_at s (k - 1))) (walk p t (frames_at s (k - 1))))
      unfolding walk
      turn =
          let e : k ≡ suc (k - 1) = omega arith in
          inv ∙ ap (λ (n : ℕ). after looked (walk p t (frames_at s n))) e ∙ ap (after looked) (by_decision _ _ _ _)

      pub decides_here : (granted : Bool) → decided p t (frame_at s (k - 1)) ≡ Some granted → record { granted = granted; looked = looked + 1 } ≡ total
      decides_here granted e =
          let v : Seen = walk p t (frames_at s (k - 1)) in
          sym (turn ∙ ap (λ (x : Option Bool). after looked (told x v)) e)

      pub onward : decided p t (frame_at s (k - 1)) ≡ None → total ≡ after (looked + 1) (walk p t (frames_at s (k - 1)))
      onward e =
          let v : Seen = walk p t (frames_at s (k - 1)) in
          let more : looked + suc v.looked ≡ looked + 1 + v.looked = omega arith in
          turn ∙ ap (λ (x : Option Bool). after looked (told x v)) e ∙ ap (λ (n : ℕ). record { granted = v.granted; looked = n }) more
