-- The passed state answers what the belief sets say, and goes on picturing them: `own` are the beliefs with the empty chain, and `callers` those whose chain is
-- permitted throughout, which is what the caller would have been granted. Assumes nothing.
use mathlib.Core.Path.{◌≡◌, refl, sym, ap, ap₂, ◌∙◌}
use mathlib.Core.Bool.{Bool, true, false, cond, ◌&&◌, ◌||◌}
use mathlib.Core.List.{[], ◌∷◌}
use Prim.Native.Nat.{ℕ, suc, ◌≤◌, ◌<◌}
use native.Mathlib.Numerals.{add-one}
use native.Mathlib.Omega.{arith}
use lib.Dec.{eqb}
use lib.ListN.{length}
use borrow.Author.Tests.{lt-ltb, eq-eqb, ne_eqb, eqb-true, eqb-false}
use Rattle.bits.specs.Bit.{bit}
use Rattle.bits.proofs.Laws.{bit_with, bit_without, bit-and, bit-or, bit_none}
use Rattle.answers.specs.Answer.{verdict_byte, refused, done}
use Rattle.words.specs.declared.Operation.{Operation}
use Rattle.words.specs.declared.Operation.TheVariants.{Call, Return, Enable, Disable, Revert, Check}
use Rattle.words.specs.Words.{outside, barred, framed}
use Rattle.words.proofs.Words.{target_below, room_above, some_frame}
use Rattle.beliefs.specs.Policy.{Policy, Target, targets, row, permits, valid, outside_of}
use Rattle.beliefs.specs.Stack.{Frame, Stack, called, enable, disable, revert, granted}
use Rattle.beliefs.specs.Trace.{by_newest, does, step}
use Rattle.beliefs.proofs.Policy.{Ranges, ranges, in_word}
use Rattle.beliefs.proofs.Granted.{granted_split, own_enable, own_disable, own_revert, own_marks, own_called}
use Rattle.beliefs.proofs.Granted.{inherited_enable, inherited_disable, inherited_revert, inherited_start, inherited_called}
use Rattle.passed.specs.declared.Passed.{Passed}
use Rattle.passed.specs.Does.{Led}
use Rattle.passed.specs.Does.{Refused}
use Rattle.passed.specs.Fits.{fits}
use Rattle.passed.specs.Does.{fresh, granted_of, call_of, enable_of, disable_of, revert_of, check_of, led_to, next_of}
use Rattle.passed.specs.Pictures.{Knows, Pictures, Stays, Goes, Passes}
use Rattle.passed.proofs.Fits.{fits_framed, pictured_fits, Fit, led_fits}

-- a bit of what goes down is the verdict of a check
pub granted_bit : (p : Policy) (s : Passed) (t : Target) → bit (granted_of p s) t ≡ check_of p s t
unfolding check_of permits
granted_bit p s t = bit-and (row p s.signer) _ t ∙ ap (λ (x : Bool). bit (row p s.signer) t && x) (bit-or s.own s.callers t)

-- no frame
pub fresh_pictures : (p : Policy) → Pictures p fresh []
fresh_pictures p = record { deep = refl; framed = λ d. absurd (d refl); says = refl }

-- what the operations on a target do to what a frame knows
module _ (p : Policy) (s : Passed) (t : Target) (f : Frame) (k : Knows p s f) where
  check_knows : (r : Stack) → check_of p s t ≡ granted p t (f ∷ r)
  unfolding check_of
  check_knows r =
      ap₂ (λ (x : ℕ) (y : Bool). permits p x t && y) k.signer (ap₂ (λ (x y : Bool). x || y) (k.owns t) (k.inherits t))
      ∙ sym (granted_split p t f r)

  enable_knows : t < 64 → Knows p (enable_of s t) (enable t f)
  unfolding enable
  enable_knows low = record {
    signer = k.signer;
    owns = λ u. bit_with s.own t u low ∙ ap (λ (x : Bool). eqb t u || x) (k.owns u) ∙ sym (own_enable t u f);
    inherits = λ u. k.inherits u ∙ sym (inherited_enable t u f p);
  }

  disable_knows : Knows p (disable_of s t) (disable t f)
  unfolding disable
  disable_knows = record {
    signer = k.signer;
    owns = λ u. rw (bit_without s.own t u, k.owns u) (sym (own_disable t u f));
    inherits = λ u. rw (bit_without s.callers t u, k.inherits u) (sym (inherited_disable t u f p));
  }

  revert_knows : Knows p (revert_of s t) (revert t f)
  unfolding revert
  revert_knows = record {
    signer = k.signer;
    owns = λ u. rw (bit_without s.own t u, k.owns u) (sym (own_revert t u f));
    inherits = λ u. k.inherits u ∙ sym (inherited_revert t u f p);
  }

module _ (p : Policy) (s : Passed) where
  -- a callee's state pictures the stack with the callee on it
  call_pictures : (g : ℕ) (st : Stack) → targets p ≤ 64 → s.depth < 63 → fits p (call_of p s g) ≡ true → Pictures p s st
      → Pictures p (call_of p s g) (called p g st ∷ st)
  unfolding call_of called
  call_pictures g [] few room fit h =
      let q = lt-ltb s.depth 63 room in
      let z = eq-eqb s.depth 0 h.deep in
      rw (q, z) (record {
        deep = refl;
        framed = fits_framed p _ (rw (q, z) at fit);
        says = record { signer = refl; owns = λ t. sym (own_marks p t g few); inherits = λ t. bit_none t ∙ sym (inherited_start p t g) };
      })
  call_pictures g (f ∷ r) few room fit h =
      let d : s.depth ≡ suc (length r) = h.deep in
      let q = lt-ltb s.depth 63 room in
      let z = ne_eqb s.depth 0 (omega arith) in
      rw (q, z) (record {
        deep = add-one s.depth ∙ ap suc d;
        framed = fits_framed p _ (rw (q, z) at fit);
        says = record {
          signer = refl;
          owns = λ t. bit_none t ∙ sym (own_called p t g f r);
          inherits = λ t. granted_bit p s t ∙ check_knows p s t f h.says r ∙ sym (inherited_called p t g f r);
        };
      })

  -- the newest frame does something to itself: there is one, and its state then knows what it does
  stays : (st : Stack) → Pictures p s st → framed (length st) ≡ 0 → (g : Frame → Frame) (s' : Passed) → s'.depth ≡ s.depth → fits p s' ≡ true
      → ((f : Frame) → Knows p s f → Knows p s' (g f)) → Stays p st (done (by_newest g st)) s' 0
  stays [] h z g s' same fit k = absurd (some_frame 0 z refl)
  stays (f ∷ r) h z g s' same fit k = record {
    number = refl;
    byte = refl;
    pictures = record { deep = same ∙ h.deep; framed = fits_framed p s' fit; says = k f h.says };
    level = refl;
    under = refl;
  }

  checked : (t : Target) (st : Stack) → Pictures p s st → framed (length st) ≡ 0 → check_of p s t ≡ granted p t st
  checked t [] h z = absurd (some_frame 0 z refl)
  checked t (f ∷ r) h z = check_knows p s t f h.says r

  -- an operation that nothing refuses
  led_goes : Ranges p → (op : Operation) → outside_of p op ≡ 0 → (st : Stack) → Pictures p s st → barred (length st) op ≡ 0 → Fit p (led_to p s op)
      → Goes p st (does false p op st) (led_to p s op)
  unfolding outside barred does led_to
  led_goes v (Call g) i st h z fit =
      let room = room_above s.depth g (rw h.deep z) in
      record { number = refl; byte = refl; pictures = call_pictures g st v.targets_most room fit h; under = refl }
  led_goes v Return i st h z fit = record { number = refl; byte = refl; framed = some_frame (length st) z; stack = refl }
  led_goes v (Enable t) i st h z fit = stays st h z (enable t) _ refl fit (λ f k. enable_knows p s t f k (in_word p v t (target_below (targets p) t i)))
  led_goes v (Disable t) i st h z fit = stays st h z (disable t) _ refl fit (disable_knows p s t)
  led_goes v (Revert t) i st h z fit = stays st h z (revert t) _ refl fit (revert_knows p s t)
  led_goes v (Check t) i st h z fit =
      record { number = refl; byte = ap (λ (b : Bool). verdict_byte b 0) (checked t st h z); pictures = h; level = refl; under = refl }

  pub simulate : (op : Operation) → valid p ≡ true → outside_of p op ≡ 0 → (st : Stack) → Pictures p s st → Goes p st (step false p op st) (next_of p s op)
  unfolding next_of
  simulate op v i st h = rw (← h.deep) (go (eqb (barred s.depth op) 0) refl)
    where
      go : (e : Bool) → eqb (barred s.depth op) 0 ≡ e
          → Goes p st (cond e (does false p op st) (refused (barred s.depth op) st)) (cond e (led_to p s op) (Refused (barred s.depth op)))
      go true q =
          let z = eqb-true (barred s.depth op) 0 q in
          let r = ranges p v in
          led_goes r op i st h (rw (← h.deep) z) (led_fits p s r.targets_most (pictured_fits p s st h) op i z)
      go false q = record { number = refl; refused = eqb-false (barred s.depth op) 0 q }

  -- so what is exactly given serves the belief sets
  pub served : (op : Operation) (r : Led) → r ≡ next_of p s op → Passes p s op r
  served op r e = record { exact = e; serves = λ v i st h. rw e (simulate op v i st h) }
