-- A check is granted where the frame's signer is permitted and the frame owns Ok(T) or inherited it; and what each operation does to the two. Assumes nothing.
use mathlib.Core.Path.{◌≡◌, refl, sym, ap, ap₂, ◌∙◌}
use mathlib.Core.Bool.{Bool, true, false, cond, not, ◌&&◌, ◌||◌, and-false, and-true}
use mathlib.Core.List.{List, [], ◌∷◌}
use Prim.Native.Nat.{ℕ, zero, suc, ◌^◌, ◌≤◌, ◌<◌}
use native.Mathlib.Omega.{arith}
use mathlib.Core.Logic.{◌≢◌}
use lib.Dec.{eqb, ltb}
use lib.Pow.{pow_pos, ones_lt}
use borrow.Author.Tests.{eqb-true, eqb-false, eq-eqb, ne_eqb, ltb-true, ltb-false, lt-ltb, le-ltb}
use Rattle.bits.specs.Bit.{bit, lowest}
use Rattle.bits.proofs.Laws.{bit_none, bit_ones, lowest_low}
use Rattle.beliefs.specs.Lists.{any, all, keep, empty}
use Rattle.beliefs.specs.Policy.{targets}
use Rattle.beliefs.specs.Stack.{Principal, Belief, Frame, on, own, said, oks, full, start_marks, permitted, granted, called, enable, disable, revert}
use Rattle.beliefs.specs.Engine.{inherited}
use Rattle.beliefs.proofs.Lists.{any_map, any_ext, any_and, any_never, any_keep}

-- one belief more, on either side
mix : (q o n a w i : Bool) → (n ≡ true → a ≡ true) → ((o && (q && a)) || (q && (w || i))) ≡ (q && (((o && n) || w) || ((o && (not n && a)) || i)))
mix false false n a w i h = refl
mix false true n a w i h = refl
mix true false n a w i h = refl
mix true true true true w i h = refl
mix true true true false w i h = cc (h refl)
mix true true false true true i h = refl
mix true true false true false i h = refl
mix true true false false w i h = refl

empty_all : (f : Principal → Bool) (c : List Principal) → empty c ≡ true → all f c ≡ true
empty_all f [] h = refl
empty_all f (x ∷ c) h = cc

split : (p : List ℕ) (t : ℕ) (q : Bool) (bs : List Belief)
    → any (λ b. on t b && (q && all (permitted p t) b.chain)) bs ≡ (q && (any (own t) bs || any (inherited p t) bs))
split p t q [] = sym (and-false q)
split p t q (b ∷ bs) =
    ap (λ (x : Bool). (on t b && (q && all (permitted p t) b.chain)) || x) (split p t q bs)
    ∙ mix q (on t b) (empty b.chain) (all (permitted p t) b.chain) (any (own t) bs) (any (inherited p t) bs) (empty_all (permitted p t) b.chain)

pub granted_split : (p : List ℕ) (t : ℕ) (f : Frame) (r : List Frame)
    → granted p t (f ∷ r) ≡ (permitted p t f.principal && (any (own t) f.beliefs || any (inherited p t) f.beliefs))
unfolding granted
granted_split p t f r = split p t (permitted p t f.principal) f.beliefs

pub eqb_comm : (a b : ℕ) → eqb a b ≡ eqb b a
eqb_comm a b = go (eqb b a) refl
  where
    go : (e : Bool) → eqb b a ≡ e → eqb a b ≡ e
    go true q = eq-eqb a b (sym (eqb-true b a q))
    go false q = ne_eqb a b (λ h. eqb-false b a q (sym h))

-- a test d of the target, asked of beliefs that are on t, is asked of t
at_target : (d : ℕ → Bool) (g t : ℕ) (x : Bool) → (not (d g) && (eqb g t && x)) ≡ (not (d t) && (eqb g t && x))
at_target d g t x = go (eqb g t) refl
  where
    go : (e : Bool) → eqb g t ≡ e → (not (d g) && (e && x)) ≡ (not (d t) && (e && x))
    go true q = ap (λ (y : ℕ). not (d y) && x) (eqb-true g t q)
    go false q = and-false (not (d g)) ∙ sym (and-false (not (d t)))

pub any_not : (d : ℕ → Bool) (t : ℕ) (x : Belief → Bool) (bs : List Belief)
    → any (λ b. on t b && x b) (keep (λ b. not (d b.target)) bs) ≡ (not (d t) && any (λ b. on t b && x b) bs)
any_not d t x bs =
    any_keep (λ b. on t b && x b) (λ b. not (d b.target)) bs
    ∙ any_ext (λ b. not (d b.target) && (on t b && x b)) (λ b. not (d t) && (on t b && x b)) (λ b. at_target d b.target t (x b)) bs
    ∙ any_and (not (d t)) (λ b. on t b && x b) bs

pub any_off : (u t : ℕ) (x : Belief → Bool) (bs : List Belief)
    → any (λ b. on t b && x b) (keep (λ b. not (on u b)) bs) ≡ (not (eqb u t) && any (λ b. on t b && x b) bs)
any_off u t x bs = rw (eqb_comm u t) (any_not (λ g. eqb g u) t x bs)

own_off : (g u t : ℕ) (n : Bool) → (not (eqb g u && n) && (eqb g t && n)) ≡ (not (eqb u t) && (eqb g t && n))
own_off g u t true = ap (λ (x : Bool). not x && (eqb g t && true)) (and-true (eqb g u)) ∙ at_target (λ n. eqb n u) g t true
    ∙ ap (λ (x : Bool). not x && (eqb g t && true)) (eqb_comm t u)
own_off g u t false =
    ap (λ (x : Bool). not (eqb g u && false) && x) (and-false (eqb g t)) ∙ and-false (not (eqb g u && false))
    ∙ sym (ap (λ (x : Bool). not (eqb u t) && x) (and-false (eqb g t)) ∙ and-false (not (eqb u t)))

stays : (x y n a : Bool) → (not (x && n) && (y && (not n && a))) ≡ (y && (not n && a))
stays x false n a = and-false (not (x && n))
stays x true true a = and-false (not (x && true))
stays true true false a = refl
stays false true false a = refl

-- enable, disable and revert of u, seen at t
module _ (u t : ℕ) (f : Frame) where
  pub own_enable : any (own t) (enable u f).beliefs ≡ (eqb u t || any (own t) f.beliefs)
  unfolding enable
  own_enable = ap (λ (x : Bool). x || any (own t) f.beliefs) (and-true (eqb u t))

  pub own_disable : any (own t) (disable u f).beliefs ≡ (not (eqb u t) && any (own t) f.beliefs)
  unfolding disable
  own_disable = any_off u t (λ b. empty b.chain) f.beliefs

  pub own_revert : any (own t) (revert u f).beliefs ≡ (not (eqb u t) && any (own t) f.beliefs)
  unfolding revert
  own_revert =
      any_keep (own t) (λ b. not (own u b)) f.beliefs
      ∙ any_ext (λ b. not (own u b) && own t b) (λ b. not (eqb u t) && own t b) (λ b. own_off b.target u t (empty b.chain)) f.beliefs
      ∙ any_and (not (eqb u t)) (own t) f.beliefs

  module _ (p : List ℕ) where
    pub inherited_enable : any (inherited p t) (enable u f).beliefs ≡ any (inherited p t) f.beliefs
    unfolding enable
    inherited_enable = ap (λ (x : Bool). x || any (inherited p t) f.beliefs) (and-false (eqb u t))

    pub inherited_disable : any (inherited p t) (disable u f).beliefs ≡ (not (eqb u t) && any (inherited p t) f.beliefs)
    unfolding disable
    inherited_disable = any_off u t (λ b. not (empty b.chain) && all (permitted p t) b.chain) f.beliefs

    pub inherited_revert : any (inherited p t) (revert u f).beliefs ≡ any (inherited p t) f.beliefs
    unfolding revert
    inherited_revert =
        any_keep (inherited p t) (λ b. not (own u b)) f.beliefs
        ∙ any_ext (λ b. not (own u b) && inherited p t b) (inherited p t) (λ b. stays (on u b) (on t b) (empty b.chain) (all (permitted p t) b.chain))
        f.beliefs

-- call: what a start hands over is owned, and what a caller hands down is inherited
pub ltb_step : (t n : ℕ) → (eqb n t || ltb t n) ≡ ltb t (suc n)
ltb_step t n = go (eqb n t) refl (ltb t n) refl
  where
    go : (e : Bool) → eqb n t ≡ e → (l : Bool) → ltb t n ≡ l → (e || l) ≡ ltb t (suc n)
    go true q l m = let h : n ≡ t = eqb-true n t q in sym (lt-ltb t (suc n) (omega arith))
    go false q true m = sym (lt-ltb t (suc n) (omega (arith, ltb-true t n m)))
    go false q false m = let h : n ≢ t = eqb-false n t q in sym (le-ltb t (suc n) (omega (arith, ltb-false t n m)))

oks_own : (t n : ℕ) → any (own t) (oks n) ≡ ltb t n
oks_own t zero = sym (le-ltb t 0 (omega arith))
oks_own t (suc n) = ap₂ (λ (x y : Bool). x || y) (and-true (eqb n t)) (oks_own t n) ∙ ltb_step t n

oks_inherited : (p : List ℕ) (t n : ℕ) → any (inherited p t) (oks n) ≡ false
oks_inherited p t zero = refl
oks_inherited p t (suc n) = ap₂ (λ (x y : Bool). x || y) (and-false (eqb n t)) (oks_inherited p t n)

module _ (p : List ℕ) (t s : ℕ) where
  pub own_start : any (own t) (called p s []).beliefs ≡ (full p && ltb t (targets p))
  unfolding called
  own_start = go (full p)
    where
      go : (e : Bool) → any (own t) (cond e (oks (targets p)) []) ≡ (e && ltb t (targets p))
      go true = oks_own t (targets p)
      go false = refl

  -- and its marks say so
  pub own_marks : targets p ≤ 64 → any (own t) (called p s []).beliefs ≡ bit (start_marks p) t
  own_marks few = own_start ∙ go (full p)
    where
      go : (e : Bool) → (e && ltb t (targets p)) ≡ bit (cond e (lowest (targets p)) 0) t
      go true = sym (bit_ones (targets p) t) ∙ ap (λ (w : ℕ). bit w t) (sym (lowest_low (targets p) few))
      go false = sym (bit_none t)

  pub inherited_start : any (inherited p t) (called p s []).beliefs ≡ false
  unfolding called
  inherited_start = go (full p)
    where
      go : (e : Bool) → any (inherited p t) (cond e (oks (targets p)) []) ≡ false
      go true = oks_inherited p t (targets p)
      go false = refl

  module _ (f : Frame) (r : List Frame) where
    pub own_called : any (own t) (called p s (f ∷ r)).beliefs ≡ false
    unfolding called
    own_called = any_map (own t) (said f.principal) f.beliefs ∙ any_never (λ b. on t b && false) (λ b. and-false (on t b)) f.beliefs

    pub inherited_called : any (inherited p t) (called p s (f ∷ r)).beliefs ≡ granted p t (f ∷ r)
    unfolding called granted
    inherited_called = any_map (inherited p t) (said f.principal) f.beliefs

-- what a start marks are targets of the policy
pub start_lt : (p : List ℕ) → targets p ≤ 64 → start_marks p < 2 ^ targets p
start_lt p few = go (full p)
  where
    go : (e : Bool) → cond e (lowest (targets p)) 0 < 2 ^ targets p
    go true = rw (lowest_low (targets p) few) (ones_lt (targets p))
    go false = pow_pos (targets p)
