-- In a coherent stack the walk's verdict is the belief sets', and every operation keeps a frame sound. Assumes nothing.
use mathlib.Core.Path.{◌≡◌, refl, sym, ap, ap₂, ◌∙◌}
use mathlib.Core.Bool.{Bool, true, false, cond, not, ◌&&◌, ◌||◌, and-false}
use mathlib.Core.List.{List, [], ◌∷◌, map}
use Prim.Native.Nat.{ℕ, ◌≤◌, ◌<◌}
use lib.Dec.{eqb}
use Rattle.bits.specs.Bit.{bit}
use Rattle.bits.proofs.Laws.{bit_with, bit_without, bit_none}
use Rattle.beliefs.specs.declared.Seen.{Seen}
use Rattle.beliefs.specs.Policy.{targets}
use Rattle.beliefs.specs.Stack.{Frame, marked, granted, permitted, walk, decides, goes_on, called, enable, disable, revert}
use Rattle.beliefs.proofs.Granted.{granted_split, own_enable, own_disable, own_revert, inherited_enable, inherited_disable, inherited_revert}
use Rattle.beliefs.proofs.Granted.{own_marks, inherited_start, own_called, inherited_called}
use Rattle.walk.specs.Pictures.{Sound, Coherent}

-- one frame's part in the verdict
walk_step : (q e d : Bool) (v : Seen) → (cond q (cond e (decides true) (cond d (decides false) (goes_on v))) (decides false)).granted
    ≡ (q && (e || (not d && v.granted)))
walk_step false e d v = refl
walk_step true true d v = refl
walk_step true false true v = refl
walk_step true false false v = refl

pub agree : (p : List ℕ) (t : ℕ) (st : List Frame) → Coherent p st → granted p t st ≡ (walk p t (map marked st)).granted
unfolding granted walk
agree p t [] h = refl
agree p t (f ∷ r) h =
    granted_split p t f r
    ∙ ap₂ (λ (x y : Bool). permitted p t f.principal && (x || y)) (h.0.owns t)
    (h.0.inherits t ∙ ap (λ (x : Bool). not (bit f.disabled t) && x) (agree p t r h.1))
    ∙ sym (walk_step (permitted p t f.principal) (bit f.enabled t) (bit f.disabled t) (walk p t (map marked r)))

-- a mark that is set, and one that was there
neither : (a d g : Bool) → (not a && (not d && g)) ≡ (not (a || d) && g)
neither true d g = refl
neither false d g = refl

module _ (p : List ℕ) (u : ℕ) (f : Frame) (r : List Frame) (h : Sound p f r) where
  pub enable_sound : u < 64 → Sound p (enable u f) r
  unfolding enable
  enable_sound l = record {
    owns = λ t. own_enable u t f ∙ ap (λ (x : Bool). eqb u t || x) (h.owns t) ∙ sym (bit_with f.enabled u t l);
    inherits = λ t. inherited_enable u t f p ∙ h.inherits t;
  }

  pub disable_sound : u < 64 → Sound p (disable u f) r
  unfolding disable
  disable_sound l = record {
    owns = λ t. own_disable u t f ∙ ap (λ (x : Bool). not (eqb u t) && x) (h.owns t) ∙ sym (bit_without f.enabled u t);
    inherits = λ t. inherited_disable u t f p ∙ ap (λ (x : Bool). not (eqb u t) && x) (h.inherits t)
        ∙ neither (eqb u t) (bit f.disabled t) (granted p t r) ∙ ap (λ (x : Bool). not x && granted p t r) (sym (bit_with f.disabled u t l));
  }

  pub revert_sound : Sound p (revert u f) r
  unfolding revert
  revert_sound = record {
    owns = λ t. own_revert u t f ∙ ap (λ (x : Bool). not (eqb u t) && x) (h.owns t) ∙ sym (bit_without f.enabled u t);
    inherits = λ t. inherited_revert u t f p ∙ h.inherits t;
  }

-- a new frame has no disabled mark
fresh_mark : (t : ℕ) (g : Bool) → g ≡ (not (bit 0 t) && g)
fresh_mark t g = ap (λ (x : Bool). not x && g) (sym (bit_none t))

pub call_sound : (p : List ℕ) (s : ℕ) (r : List Frame) → targets p ≤ 64 → Sound p (called p s r) r
unfolding called granted
call_sound p s [] few = record {
  owns = λ t. own_marks p t s few;
  inherits = λ t. inherited_start p t s ∙ sym (and-false (not (bit 0 t)));
}
call_sound p s (f ∷ r) few = record {
  owns = λ t. own_called p t s f r ∙ sym (bit_none t);
  inherits = λ t. inherited_called p t s f r ∙ fresh_mark t (granted p t (f ∷ r));
}
