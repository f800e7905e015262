-- What number 14 says of a state that it lets through; and it lets through each state that pictures a stack, and whatever an operation on a state that it
-- lets through leads to. Assumes nothing.
use mathlib.Core.Path.{◌≡◌, refl, sym, ap, ap₂, ◌∙◌}
use mathlib.Core.Logic.{◌≢◌}
use mathlib.Core.Bool.{Bool, true, false, cond, ◌&&◌}
use mathlib.Core.List.{[], ◌∷◌}
use Prim.Native.Nat.{ℕ, suc, ◌^◌, ◌≤◌, ◌<◌}
use native.Mathlib.Nat.{lt_of_le_of_lt}
use native.Mathlib.Omega.{arith}
use lib.Bits.{bit_or, and_comm, and_le_l, or_lt}
use lib.Dec.{eqb, ltb, leb}
use lib.ListN.{length}
use lib.Pow.{pow_pos}
use borrow.Author.Tests.{lt-ltb, le-leb, eq-eqb, ne_eqb, ltb-true, leb-true, eqb-true, eqb-false}
use Rattle.bits.specs.Bit.{without_bit, below}
use Rattle.bits.proofs.Laws.{with_lt, without_lt, without_out}
use Rattle.words.specs.declared.Operation.{Operation}
use Rattle.words.specs.declared.Operation.TheVariants.{Call, Return, Enable, Disable, Revert, Check}
use Rattle.words.specs.Words.{outside, barred, framed}
use Rattle.words.proofs.Words.{signer_below, target_below, room_above, some_frame}
use Rattle.beliefs.specs.Policy.{Policy, signers, targets, row, outside_of}
use Rattle.beliefs.specs.Stack.{Stack}
use Rattle.beliefs.proofs.Policy.{both}
use Rattle.beliefs.proofs.Granted.{start_lt}
use Rattle.passed.specs.declared.Passed.{Passed}
use Rattle.passed.specs.Does.{Led}
use Rattle.passed.specs.Does.{Stay, Down, Up, Refused}
use Rattle.passed.specs.Fits.{fits}
use Rattle.passed.specs.Does.{fresh, granted_of, bottom_of, callee_of, call_of, led_to}
use Rattle.passed.specs.Pictures.{Framed, Pictures}

and : {a b : Bool} → a ≡ true → b ≡ true → (a && b) ≡ true
and h k = ap₂ (λ (a b : Bool). a && b) h k

module _ (p : Policy) (s : Passed) where
  pub fits_fresh : fits p s ≡ true → s.depth ≡ 0 → s ≡ fresh
  unfolding fits
  fits_fresh h d =
      let a = both (eqb s.signer 0) (rw (eq-eqb s.depth 0 d) at h) in
      let b = both (eqb s.own 0) a.1 in
      λ i. record { depth = d i; signer = eqb-true s.signer 0 a.0 i; own = eqb-true s.own 0 b.0 i; callers = eqb-true s.callers 0 b.1 i }

  pub fits_framed : fits p s ≡ true → s.depth ≢ 0 → Framed p s
  unfolding fits below
  fits_framed h d =
      let a = both (leb s.depth 63) (rw (ne_eqb s.depth 0 d) at h) in
      let b = both (ltb s.signer _) a.1 in
      let c = both (ltb s.own (2 ^ targets p)) b.1 in
      let k = go (eqb s.depth 1) refl c.1 in
      record {
        deep = leb-true s.depth 63 a.0;
        signer = omega (arith, ltb-true s.signer _ b.0);
        own = ltb-true s.own (2 ^ targets p) c.0;
        callers = k.0;
        bottom = k.1;
      }
    where
      go : (e : Bool) → eqb s.depth 1 ≡ e → cond e (eqb s.callers 0) (ltb s.callers (2 ^ targets p)) ≡ true
          → (s.callers < 2 ^ targets p) × (s.depth ≡ 1 → s.callers ≡ 0)
      go true q h = (omega (arith, eqb-true s.callers 0 h, pow_pos (targets p)), λ e. eqb-true s.callers 0 h)
      go false q h = (ltb-true s.callers (2 ^ targets p) h, λ e. absurd (eqb-false s.depth 1 q e))

  pub framed_fits : s.depth ≢ 0 → Framed p s → fits p s ≡ true
  unfolding fits below
  framed_fits d f =
      let bits = and (lt-ltb s.own (2 ^ targets p) f.own) (go (eqb s.depth 1) refl) in
      rw (ne_eqb s.depth 0 d) (and (le-leb s.depth 63 f.deep) (and (lt-ltb s.signer _ (omega (arith, f.signer))) bits))
    where
      go : (e : Bool) → eqb s.depth 1 ≡ e → cond e (eqb s.callers 0) (ltb s.callers (2 ^ targets p)) ≡ true
      go true q = eq-eqb s.callers 0 (f.bottom (eqb-true s.depth 1 q))
      go false q = lt-ltb s.callers (2 ^ targets p) f.callers

  -- a state that pictures a stack
  pub pictured_fits : (st : Stack) → Pictures p s st → fits p s ≡ true
  unfolding fits
  pictured_fits [] h = ap (fits p) h.says
  pictured_fits (f ∷ r) h =
      let d : s.depth ≡ suc (length r) = h.deep in
      let some : s.depth ≢ 0 = omega arith in
      framed_fits some (h.framed some)

-- the state that an answer carries, where it carries one
abbrev pub Fit : Policy → Led → Type 0
Fit p (Stay s b) = fits p s ≡ true
Fit p (Down s) = fits p s ≡ true
Fit p Up = Unit {0}
Fit p (Refused n) = Unit {0}

module _ (p : Policy) (s : Passed) (few : targets p ≤ 64) (h : fits p s ≡ true) where
  -- no target is granted that neither the frame nor its callers have
  granted_lt : Framed p s → granted_of p s < 2 ^ targets p
  granted_lt f =
      let w : ℕ = bit_or s.own s.callers in
      lt_of_le_of_lt (rw (and_comm (row p s.signer) w) (and_le_l w (row p s.signer))) (or_lt (targets p) s.own s.callers f.own f.callers)

  call_fits : (g : ℕ) → g < signers p → s.depth < 63 → fits p (call_of p s g) ≡ true
  unfolding call_of
  call_fits g l room = rw (lt-ltb s.depth 63 room) (go (eqb s.depth 0) refl)
    where
      go : (e : Bool) → eqb s.depth 0 ≡ e → fits p (cond e (bottom_of p g) (callee_of p s g)) ≡ true
      go true q = framed_fits p _ (omega arith) (record {
        deep = omega arith;
        signer = l;
        own = start_lt p few;
        callers = pow_pos (targets p);
        bottom = λ e. refl;
      })
      go false q =
          let d : s.depth ≢ 0 = eqb-false s.depth 0 q in
          framed_fits p _ (omega arith) (record {
            deep = omega arith;
            signer = l;
            own = pow_pos (targets p);
            callers = granted_lt (fits_framed p s h d);
            bottom = λ e. absurd (omega arith);
          })

  -- other bits in the same frame
  marks_fit : (o c : ℕ) → framed s.depth ≡ 0 → (Framed p s → (o < 2 ^ targets p) × ((c < 2 ^ targets p) × (s.callers ≡ 0 → c ≡ 0)))
      → fits p (record { depth = s.depth; signer = s.signer; own = o; callers = c }) ≡ true
  marks_fit o c z k =
      let d : s.depth ≢ 0 = some_frame s.depth z in
      let f : Framed p s = fits_framed p s h d in
      framed_fits p _ d (record { deep = f.deep; signer = f.signer; own = (k f).0; callers = (k f).1.0; bottom = λ e. (k f).1.1 (f.bottom e) })

  pub led_fits : (op : Operation) → outside_of p op ≡ 0 → barred s.depth op ≡ 0 → Fit p (led_to p s op)
  unfolding outside barred led_to
  led_fits (Call g) i z = call_fits g (signer_below (signers p) (targets p) g i) (room_above s.depth g z)
  led_fits Return i z = tt
  led_fits (Enable t) i z = marks_fit _ _ z (λ f. (with_lt (targets p) s.own t f.own (target_below (targets p) t i), (f.callers, λ e. e)))
  led_fits (Disable t) i z = marks_fit _ _ z (λ f. (
    without_lt (targets p) s.own t f.own,
    (without_lt (targets p) s.callers t f.callers, λ e. ap (λ (w : ℕ). without_bit w t) e ∙ sym (without_out 0 t (pow_pos t))),
  ))
  led_fits (Revert t) i z = marks_fit _ _ z (λ f. (without_lt (targets p) s.own t f.own, (f.callers, λ e. e)))
  led_fits (Check t) i z = h
