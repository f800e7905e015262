-- Derivations against the walk: one is accepted exactly where the check is granted, ours is, and none that is accepted is shorter; of frames, and of what the
-- checker and the writer report of a walk state. Assumes nothing.
use mathlib.Core.Path.{◌≡◌, refl, sym, ap, ◌∙◌}
use mathlib.Core.Logic.{◌≢◌}
use mathlib.Core.Bool.{Bool, true, false, cond, ◌&&◌, ◌||◌}
use mathlib.Core.Option.{Option, some, none, Option-elim}
use mathlib.Core.List.{List, [], ◌∷◌}
use Prim.Native.Nat.{ℕ, suc, ◌+◌, ◌*◌, ◌≤◌, ◌<◌}
use native.Mathlib.Nat.{zero-add}
use native.Mathlib.Omega.{arith}
use lib.Dec.{eqb, ltb}
use lib.ListN.{length, get_or}
use borrow.Author.Tests.{eqb-true, eqb-false, eq-eqb, ne_eqb, lt-ltb, le-ltb, ltb-false}
use Rattle.beliefs.specs.declared.Marked.{Marked}
use Rattle.beliefs.specs.Lists.{empty}
use Rattle.answers.specs.Numbers.{not_allowed, not_empty, forbidden, unless, first}
use Rattle.answers.specs.Account.{Account, told, short_of}
use Rattle.answers.proofs.Numbers.{held, neither, spared}
use Rattle.answers.proofs.Given.{passes}
use Rattle.words.specs.Words.{outside}
use Rattle.words.specs.Words as words
use Rattle.beliefs.specs.Policy.{Policy, Target, targets, valid}
use Rattle.beliefs.specs.Stack.{walk}
use Rattle.beliefs.specs.Derivation.{Entry, rule, follow, judge, ours}
use Rattle.beliefs.proofs.Counts.{looked_le}
use Rattle.beliefs.proofs.Policy.{not_refused_with}
use Rattle.walk.specs.Layout.{depth, frames}
use Rattle.walk.specs.Fits.{fits}
use Rattle.walk.proofs.Frames.{frames_at_length}
use Rattle.derivation.specs.Promise.{barred, checking, writing}
use Rattle.derivation.proofs.Deciding.{granted_stands, stands_granted}
use Rattle.derivation.proofs.Accepted.{accepted_shows}
use Rattle.derivation.proofs.Judged.{check_barred, check_judged, write_barred, written}
use Rattle.derivation.proofs.Ours.{ours_accepted}

module _ (p : List ℕ) (t : ℕ) (ms : List Marked) where
  -- where the walk grants, ours is accepted, with three steps for each frame looked at and the take
  pub granted_ours : length ms ≤ 63 → (walk p t ms).granted ≡ true → judge p ms t false 0 [] (ours (walk p t ms).looked) ≡ told 0 (3 * (walk p t ms).looked + 1)
  granted_ours few h = ours_accepted p t ms (walk p t ms).looked (omega (arith, looked_le p t ms)) (granted_stands p t ms h)

  -- where any steps at all are accepted, the walk grants
  pub accepted_granted : (steps : List ℕ) → (judge p ms t false 0 [] steps).number ≡ 0 → (walk p t ms).granted ≡ true
  accepted_granted steps h = let s = accepted_shows p t ms steps h in (stands_granted p t ms s.n s.stands).granted

  -- no accepted steps are fewer than ours
  pub no_shorter : (steps : List ℕ) → (judge p ms t false 0 [] steps).number ≡ 0 → 3 * (walk p t ms).looked + 1 ≤ length steps
  no_shorter steps h =
      let s = accepted_shows p t ms steps h in
      let a : (walk p t ms).looked ≤ s.n = (stands_granted p t ms s.n s.stands).looked in
      let b : 3 * s.n + 1 ≤ length steps = s.steps_enough in
      omega arith

  -- the figure of accepted steps is their number
  pub accepted_figure : (steps : List ℕ) (took : Bool) (i : ℕ) (es : List Entry) → (judge p ms t took i es steps).number ≡ 0
      → (judge p ms t took i es steps).figure ≡ i + length steps
  unfolding judge Option-elim
  accepted_figure [] took i es h = go (took && empty es) h
    where
      go : (e : Bool) → (cond e (told 0 i) (told not_empty 0)).number ≡ 0 → (cond e (told 0 i) (told not_empty 0)).figure ≡ i + 0
      go true k = omega arith
      go false k = absurd (omega arith)
  accepted_figure (b ∷ bs) took i es h = go (follow p ms t b es) (λ l. accepted_figure bs (took || eqb (rule b) 0) (suc i) l) h
    where
      go : (y : Option (List Entry)) → ((l : List Entry) → (judge p ms t (took || eqb (rule b) 0) (suc i) l bs).number ≡ 0
          → (judge p ms t (took || eqb (rule b) 0) (suc i) l bs).figure ≡ suc i + length bs)
          → (Option-elim y (told not_allowed i) (λ (l : List Entry). judge p ms t (took || eqb (rule b) 0) (suc i) l bs)).number ≡ 0
          → (Option-elim y (told not_allowed i) (λ (l : List Entry). judge p ms t (took || eqb (rule b) 0) (suc i) l bs)).figure ≡ i + suc (length bs)
      go none ih k = absurd (omega arith)
      go (some l) ih k = omega (arith, ih l k)

-- a valid policy, a state that number 14 lets through, a frame and a target of the policy: nothing bars a report on the steps
pub unbarred : (p : Policy) (s : List ℕ) (t : Target) → valid p ≡ true → fits p s ≡ true → get_or s 0 0 ≢ 0 → t < targets p → barred p s t ≡ 0
unfolding outside words.barred
unbarred p s t v f d l = rw (eq-eqb _ _ (not_refused_with p (fits p s) v f), lt-ltb t (targets p) l, ne_eqb (depth s) 0 (omega arith))

-- a report of 0 was not barred
not_barred : (p s : List ℕ) (t : ℕ) (a : Account) → a.number ≡ 0 → (barred p s t ≢ 0 → a ≡ told (barred p s t) 0) → barred p s t ≡ 0
not_barred p s t a z h = go (eqb (barred p s t) 0) refl
  where
    go : (e : Bool) → eqb (barred p s t) 0 ≡ e → barred p s t ≡ 0
    go true q = eqb-true (barred p s t) 0 q
    go false q = sym (ap (λ (x : Account). x.number) (h (eqb-false (barred p s t) 0 q))) ∙ z

module _ (p s : List ℕ) (t : ℕ) where
  abbrev looked : ℕ
  looked = (walk p t (frames s)).looked

  pub looked_few : looked ≤ 63
  looked_few = omega (arith, looked_le p t (frames s), frames_at_length s (depth s))

  -- where the walk grants, the checker accepts ours, with 3n + 1 as its figure
  pub ours_checked : barred p s t ≡ 0 → (walk p t (frames s)).granted ≡ true → checking p s t (ours looked) ≡ told 0 (3 * looked + 1)
  ours_checked b g = check_judged p s t b (ours looked) ∙ granted_ours p t (frames s) (omega (arith, frames_at_length s (depth s))) g

  -- whatever steps it accepts, the walk grants; they are at least 3n + 1, and the figure is their number
  module _ (steps : List ℕ) (z : (checking p s t steps).number ≡ 0) where
    judged_here : checking p s t steps ≡ judge p (frames s) t false 0 [] steps
    judged_here = check_judged p s t (not_barred p s t (checking p s t steps) z (λ no. check_barred p s t _ refl no steps)) steps

    accepts : (judge p (frames s) t false 0 [] steps).number ≡ 0
    accepts = rw judged_here at z

    pub checked_granted : (walk p t (frames s)).granted ≡ true
    checked_granted = accepted_granted p t (frames s) steps accepts

    pub checked_enough : 3 * looked + 1 ≤ length steps
    checked_enough = no_shorter p t (frames s) steps accepts

    pub checked_figure : (checking p s t steps).figure ≡ length steps
    checked_figure = rw judged_here (accepted_figure p t (frames s) steps false 0 [] accepts ∙ zero-add (length steps))

  -- the writer, where nothing bars it, the walk grants and there is room
  pub ours_written : (room : ℕ) → barred p s t ≡ 0 → (walk p t (frames s)).granted ≡ true → 3 * looked + 1 ≤ room
      → writing p s t room ≡ record { number = 0; figure = 3 * looked + 1; written = ours looked }
  ours_written room b g l = written p s t b _ refl room ∙ rw (g, le-ltb room (3 * looked + 1) l)

  -- and only there does it report 0
  module _ (room : ℕ) (z : (writing p s t room).number ≡ 0) where
    pub written_unbarred : barred p s t ≡ 0
    written_unbarred = not_barred p s t (writing p s t room) z (λ no. write_barred p s t _ refl no room)

    tests : (unless (walk p t (frames s)).granted forbidden ≡ 0) × (short_of (3 * looked + 1) room ≡ 0)
    tests = neither _ _ (passes (first (unless (walk p t (frames s)).granted forbidden) (short_of (3 * looked + 1) room)) _
        (rw (written p s t written_unbarred _ refl room) at z))

    pub written_granted : (walk p t (frames s)).granted ≡ true
    written_granted = held _ 11 tests.0

    pub written_room : 3 * looked + 1 ≤ room
    written_room = ltb-false room (3 * looked + 1) (spared (ltb room (3 * looked + 1)) 8 0 tests.1).0
