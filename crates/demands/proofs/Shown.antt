-- Demand 3 at the C boundary: what the checker and the writer promise of a walk state, against the walk's verdict there. Assumes nothing.
use mathlib.Core.Path.{◌≡◌, sym, ap, ◌∙◌}
use mathlib.Core.Bool.{true}
use mathlib.Core.List.{List}
use Prim.Native.Nat.{ℕ, ◌+◌, ◌*◌, ◌≤◌}
use native.Mathlib.Omega.{arith}
use lib.ListN.{length, take}
use Rattle.answers.specs.Account.{Account}
use Rattle.beliefs.specs.Policy.{Policy, Target}
use Rattle.beliefs.specs.Stack.{walk}
use Rattle.beliefs.specs.Derivation.{ours}
use Rattle.beliefs.proofs.Lists.{front}
use Rattle.walk.specs.Layout.{frames}
use Rattle.derivation.specs.Promise.{barred}
use Rattle.derivation.proofs.Ours.{ours_length, ours_bytes}
use Rattle.derivation.proofs.Demand.{looked_few, ours_checked, checked_granted, checked_enough, checked_figure, ours_written, written_unbarred}
use Rattle.derivation.proofs.Demand.{written_granted, written_room}
use Rattle.demands.specs.Exported.{DerivationWrote, DerivationChecked}
use Rattle.demands.specs.Shown.{Settled}

module _ (p : Policy) (s : List ℕ) (t : Target) where
  abbrev looked : ℕ
  looked = (walk p t (frames s)).looked

  abbrev grants : Type 0
  grants = (walk p t (frames s)).granted ≡ true

  -- ours, whatever the checker returns of them
  accepted : barred p s t ≡ 0 → grants → (n figure : ℕ) → DerivationChecked p s t (ours looked) n figure → (n ≡ 0) × (figure ≡ 3 * looked + 1)
  accepted b g n figure h =
      let told = ours_checked p s t b g in
      (h.number ∙ ap (λ (a : Account). a.number) told, h.figure ∙ ap (λ (a : Account). a.figure) told)

  -- what the writer leaves where it returns 0
  module _ (lent : List ℕ) (figure : ℕ) (left : List ℕ) (h : DerivationWrote p s t lent 0 figure left) where
    through : barred p s t ≡ 0
    through = written_unbarred p s t (length lent) (sym h.number)

    granted_here : grants
    granted_here = written_granted p s t (length lent) (sym h.number)

    room : 3 * looked + 1 ≤ length lent
    room = written_room p s t (length lent) (sym h.number)

    pub left_figure : figure ≡ 3 * looked + 1
    left_figure = h.figure ∙ ap (λ (a : Account). a.figure) (ours_written p s t (length lent) through granted_here room)

    pub left_ours : take figure left ≡ ours looked
    left_ours =
        let buffer = rw (ours_written p s t (length lent) through granted_here room) at h.buffer in
        rw (left_figure, buffer, ← ours_length looked) (front lent (ours looked) (omega (arith, ours_length looked, room)))

    pub left_accepted : (n f : ℕ) → DerivationChecked p s t (take figure left) n f → (n ≡ 0) × (f ≡ figure)
    left_accepted n f c =
        let a = accepted through granted_here n f (rw left_ours at c) in
        (a.0, a.1 ∙ sym left_figure)

  -- the writer, given room where the walk grants
  writes : barred p s t ≡ 0 → grants → (lent : List ℕ) → 3 * looked + 1 ≤ length lent
      → (n figure : ℕ) (left : List ℕ) → DerivationWrote p s t lent n figure left → (n ≡ 0) × (figure ≡ 3 * looked + 1) × (take figure left ≡ ours looked)
  writes b g lent room n figure left h =
      let told = ours_written p s t (length lent) b g room in
      let done : n ≡ 0 = h.number ∙ ap (λ (a : Account). a.number) told in
      (done, h.figure ∙ ap (λ (a : Account). a.figure) told, left_ours lent figure left (rw done at h))

  pub settled : barred p s t ≡ 0 → Settled p s t looked (walk p t (frames s)).granted
  settled b = record {
    exactly = (
      λ some. checked_granted p s t some.0 (sym some.2.1.number),
      λ g. let told = ours_checked p s t b g in (
        ours looked,
        ours_bytes looked (looked_few p s t),
        (3 * looked + 1, record { number = sym (ap (λ (a : Account). a.number) told); figure = sym (ap (λ (a : Account). a.figure) told) }),
      ),
    );
    ours_accepted = accepted b;
    ours_count = ours_length looked;
    ours_bytes = ours_bytes looked (looked_few p s t);
    ours_written = writes b;
    none_shorter = λ steps figure h. checked_enough p s t steps (sym h.number);
    figure = λ steps figure h. h.figure ∙ checked_figure p s t steps (sym h.number);
  }
