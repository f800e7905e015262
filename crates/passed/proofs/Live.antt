-- Any operation, on any policy and state: what it hands back is let through by number 14, and over a stack that the state pictures it goes as the belief sets
-- do. And of the states that are let through, which picture some stack: exactly those each of whose callers' targets is permitted to some signer. A bit that no
-- signer is permitted cannot have come from a caller. Assumes nothing.
use mathlib.Core.Path.{◌≡◌, refl, sym, ap, ap₂, ◌∙◌}
use mathlib.Core.Logic.{◌≢◌}
use mathlib.Core.Bool.{Bool, true, false, cond, not, ◌&&◌, ◌||◌, and-false}
use mathlib.Core.List.{List, [], ◌∷◌, ◌++◌}
use Prim.Native.Nat.{ℕ, ◌-◌, ◌^◌, ◌<◌}
use native.Mathlib.Omega.{arith}
use lib.Dec.{eqb, ltb}
use lib.ListN.{length, replicate, length-replicate}
use borrow.Author.Tests.{eq-eqb, eqb-true, eqb-false}
use Rattle.bits.specs.Bit.{bit}
use Rattle.bits.proofs.Laws.{bit_none, below_bits}
use Rattle.answers.proofs.Numbers.{neither}
use Rattle.words.specs.declared.Operation.{Operation}
use Rattle.words.specs.Words.{barred}
use Rattle.beliefs.specs.Lists.{any, all, empty}
use Rattle.beliefs.specs.Policy.{Policy, Target, targets, permits, valid, refusal_in, outside_of}
use Rattle.beliefs.specs.Stack.{Principal, Belief, Frame, Stack, on, permitted}
use Rattle.beliefs.specs.Trace.{step}
use Rattle.beliefs.specs.Engine.{inherited}
use Rattle.beliefs.proofs.Lists.{any_append}
use Rattle.beliefs.proofs.Policy.{both, ranges, let_in_with, not_refused_with}
use Rattle.beliefs.proofs.Chosen.{chosen, chosen_any}
use Rattle.passed.specs.declared.Passed.{Passed}
use Rattle.passed.specs.Does.{Refused}
use Rattle.passed.specs.Fits.{fits}
use Rattle.passed.specs.Does.{led_to, next_of, refused_by, operate_of}
use Rattle.passed.specs.Pictures.{Knows, Framed, Pictures, Goes}
use Rattle.passed.proofs.Fits.{fits_fresh, fits_framed, pictured_fits, Fit, led_fits}
use Rattle.passed.proofs.Kept.{simulate}

-- what nothing refuses: 13, 14, 5 or 6, 7, 8 have all passed
pub record Through (p : Policy) (s : Passed) (op : Operation) : Type 0 where
  pub policy : valid p ≡ true
  pub state : fits p s ≡ true
  pub outside : outside_of p op ≡ 0
  pub barred : barred s.depth op ≡ 0

module _ (p : Policy) (s : Passed) (op : Operation) where
  pub through : refused_by p s op ≡ 0 → Through p s op
  unfolding refused_by
  through h =
      let a = neither (refusal_in p (fits p s)) _ h in
      let b = neither (outside_of p op) (barred s.depth op) a.1 in
      let c = let_in_with p (fits p s) a.0 in
      record { policy = c.0; state = c.1; outside = b.0; barred = b.1 }

  pub operate_fits : Fit p (operate_of p s op)
  unfolding operate_of
  operate_fits = go (eqb (refused_by p s op) 0) refl
    where
      go : (e : Bool) → eqb (refused_by p s op) 0 ≡ e → Fit p (cond e (led_to p s op) (Refused (refused_by p s op)))
      go true q =
          let h = through (eqb-true _ 0 q) in
          led_fits p s (ranges p h.policy).targets_most h.state op h.outside h.barred
      go false q = tt

  pub operates : valid p ≡ true → outside_of p op ≡ 0 → (st : Stack) → Pictures p s st → Goes p st (step false p op st) (operate_of p s op)
  unfolding operate_of refused_by next_of
  operates v i st h = rw (eq-eqb _ _ (not_refused_with p (fits p s) v (pictured_fits p s st h)), eq-eqb _ _ i) (simulate p s op v i st h)

-- each target in w is permitted to a signer that can be named
pub record Permitted (p : Policy) (w : ℕ) : Type 0 where
  pub signer : Target → ℕ
  pub permits : (t : Target) → bit w t ≡ true → permits p (signer t) t ≡ true

-- a belief with the empty chain is the frame's own, and one with a caller's is inherited where that caller is permitted
own_side : (l b c : Bool) → (l && b) ≡ b → ((l && (b && true)) || (l && (c && false))) ≡ b
own_side true true c h = refl
own_side true false c h = and-false c
own_side false b c h = h

callers_side : (l b c q : Bool) → (l && c) ≡ c → (c ≡ true → q ≡ true) → ((l && (b && false)) || (l && (c && (q && true)))) ≡ c
callers_side true b true q h k = ap₂ (λ (u v : Bool). u || v) (and-false b) (ap (λ (v : Bool). v && true) (k refl))
callers_side true b false q h k = ap (λ (u : Bool). u || false) (and-false b)
callers_side false b c q h k = h

module _ (p : Policy) (s : Passed) (g : Permitted p s.callers) where
  -- a frame that holds Ok(T) for each target of its own, and a caller's Ok(T) for each target of its callers
  alone : Target → List Principal
  alone t = []

  caller : Target → List Principal
  caller t = record { place = 0; signer = g.signer t } ∷ []

  owned : List Belief
  owned = chosen alone s.own (targets p)

  handed : List Belief
  handed = chosen caller s.callers (targets p)

  newest : Frame
  newest = record { principal = record { place = s.depth; signer = s.signer }; beliefs = owned ++ handed; enabled = s.own; disabled = 0 }

  -- some belief of the frame on t has a chain of that kind
  some_belief : (kind : List Principal → Bool) (t : Target) → any (λ b. on t b && kind b.chain) newest.beliefs
      ≡ ((ltb t (targets p) && (bit s.own t && kind [])) || (ltb t (targets p) && (bit s.callers t && kind (caller t))))
  unfolding newest owned handed alone
  some_belief kind t =
      any_append (λ b. on t b && kind b.chain) owned handed
      ∙ ap₂ (λ (u v : Bool). u || v) (chosen_any alone kind s.own t (targets p)) (chosen_any caller kind s.callers t (targets p))

  newest_knows : s.own < 2 ^ targets p → s.callers < 2 ^ targets p → Knows p s newest
  unfolding newest caller
  newest_knows a b = record {
    signer = refl;
    owns = λ t. sym (some_belief empty t ∙ own_side (ltb t (targets p)) (bit s.own t) (bit s.callers t) (below_bits (targets p) s.own t a));
    inherits = λ t. sym (some_belief (λ c. not (empty c) && all (permitted p t) c) t
        ∙ callers_side (ltb t (targets p)) (bit s.own t) (bit s.callers t) (permits p (g.signer t) t)
        (below_bits (targets p) s.callers t b) (g.permits t));
  }

  pub pictured : fits p s ≡ true → (st : Stack) × Pictures p s st
  pictured h = go (eqb s.depth 0) refl
    where
      go : (e : Bool) → eqb s.depth 0 ≡ e → (st : Stack) × Pictures p s st
      go true q = let d : s.depth ≡ 0 = eqb-true s.depth 0 q in ([], record { deep = d; framed = fits_framed p s h; says = fits_fresh p s h d })
      go false q =
          let d : s.depth ≢ 0 = eqb-false s.depth 0 q in
          let f : Framed p s = fits_framed p s h d in
          let n : length (replicate (s.depth - 1) newest) ≡ s.depth - 1 = length-replicate (s.depth - 1) newest in (
            newest ∷ replicate (s.depth - 1) newest,
            record { deep = omega arith; framed = fits_framed p s h; says = newest_knows f.own f.callers },
          )

-- and only those: a belief that came down and is permitted throughout names a permitted signer, the first of its chain
first : List Principal → ℕ
first [] = 0
first (x ∷ c) = x.signer

module _ (p : Policy) (t : Target) where
  named : List Belief → ℕ
  named [] = 0
  named (b ∷ bs) = cond (inherited p t b) (first b.chain) (named bs)

  first_permitted : (o : Bool) (c : List Principal) → (o && (not (empty c) && all (permitted p t) c)) ≡ true → permits p (first c) t ≡ true
  unfolding first
  first_permitted true [] h = cc
  first_permitted true (x ∷ c) h = (both (permits p x.signer t) h).0
  first_permitted false c h = cc

  named_permitted : (bs : List Belief) → any (inherited p t) bs ≡ true → permits p (named bs) t ≡ true
  unfolding named
  named_permitted [] h = cc
  named_permitted (b ∷ bs) h = go (inherited p t b) refl h (named_permitted bs)
    where
      go : (e : Bool) → inherited p t b ≡ e → (e || any (inherited p t) bs) ≡ true → (any (inherited p t) bs ≡ true → permits p (named bs) t ≡ true)
          → permits p (cond e (first b.chain) (named bs)) t ≡ true
      go true q h ih = first_permitted (on t b) b.chain q
      go false q h ih = ih h

pub only_pictured : (p : Policy) (s : Passed) (st : Stack) → Pictures p s st → Permitted p s.callers
only_pictured p s [] h = record { signer = λ t. 0; permits = λ t e. cc (e, ap (λ (x : Passed). bit x.callers t) h.says ∙ bit_none t) }
only_pictured p s (f ∷ r) h = record {
  signer = λ t. named p t f.beliefs;
  permits = λ t e. named_permitted p t f.beliefs (sym (h.says.inherits t) ∙ e);
}
