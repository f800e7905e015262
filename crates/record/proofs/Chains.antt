-- A frame's chains are the frames below it, so that a chain is known by its length, and a check by the lengths held. Assumes nothing.
use mathlib.Core.Path.{◌≡◌, refl, sym, ap, ap₂, ◌∙◌}
use mathlib.Core.Bool.{Bool, true, false, ◌&&◌, ◌||◌, and-true, and-false}
use mathlib.Core.List.{List, [], ◌∷◌, ◌++◌}
use Prim.Native.Nat.{ℕ, zero, suc, ◌-◌, ◌≤◌, ◌<◌}
use native.Mathlib.Omega.{arith}
use lib.Dec.{eqb}
use lib.ListN.{length, get_or, take, length-take, length-map}
use lib.Seq.{take-suc}
use borrow.Author.Tests.{ne_eqb, eqb-true}
use Rattle.beliefs.specs.Lists.{any, all, each}
use Rattle.beliefs.specs.Policy.{Policy, Target, targets, permits}
use Rattle.beliefs.specs.Stack.{Principal, Belief, Frame, Stack, on, permitted, granted}
use Rattle.record.specs.Layout.{depth, signer_at}
use Rattle.record.specs.Does.{some, granted_in}
use Rattle.record.specs.Pictures.{principals, AllFounded, with_length, FramesPictured, Pictures}
use Rattle.beliefs.proofs.Lists.{each_ext}
use Rattle.record.proofs.Below.{some_false, some_ext, some_or, some_one}

-- a chain is no longer than the frames below
pub chain_short : (r : Stack) (b : Belief) → b.chain ≡ take (length b.chain) (principals r) → length b.chain ≤ length r
chain_short r b e = omega (arith, ap length e, length-take (length b.chain) (principals r), length-map r (λ (f : Frame). f.principal))

pub none_longer : (p : Policy) (r : Stack) (t : Target) (k : ℕ) → length r < k → (bs : List Belief) → AllFounded p r bs → any (with_length t k) bs ≡ false
none_longer p r t k l [] h = refl
none_longer p r t k l (b ∷ bs) h =
    let short : length b.chain ≤ length r = chain_short r b h.0.chain in
    rw (ne_eqb (length b.chain) k (omega arith), and-false (on t b)) (none_longer p r t k l bs h.1)

-- and no belief is on a target at N or above
pub none_outside : (p : Policy) (r : Stack) (t : Target) (k : ℕ) → targets p ≤ t → (bs : List Belief) → AllFounded p r bs → any (with_length t k) bs ≡ false
none_outside p r t k l [] h = refl
none_outside p r t k l (b ∷ bs) h =
    let low : b.target < targets p = h.0.target in
    rw (ne_eqb b.target t (omega arith)) (none_outside p r t k l bs h.1)

-- what is asked of a belief's target and length is asked of t and k, where it is on t with length k
pub at_length : (g : Target → ℕ → Bool) (t : Target) (k : ℕ) (b : Belief)
    → (g b.target (length b.chain) && with_length t k b) ≡ (g t k && with_length t k b)
at_length g t k b = go (on t b) refl (eqb (length b.chain) k) refl
  where
    off : (x y : Bool) → (x && false) ≡ (y && false)
    off x y = and-false x ∙ sym (and-false y)

    go : (x : Bool) → on t b ≡ x → (y : Bool) → eqb (length b.chain) k ≡ y
        → (g b.target (length b.chain) && (x && y)) ≡ (g t k && (x && y))
    go true q true m = ap₂ (λ (u n : ℕ). g u n && true) (eqb-true b.target t q) (eqb-true (length b.chain) k m)
    go true q false m = off (g b.target (length b.chain)) (g t k)
    go false q y m = off (g b.target (length b.chain)) (g t k)

-- the first n of a list, by index
module _ {A : Type 0} (f : A → Bool) (d : A) where
  all_last : (l : List A) (a : A) → all f (l ++ (a ∷ [])) ≡ (all f l && f a)
  all_last [] a = and-true (f a)
  all_last (x ∷ l) a = go (f x) (all_last l a)
    where
      go : (e : Bool) → all f (l ++ (a ∷ [])) ≡ (all f l && f a) → (e && all f (l ++ (a ∷ []))) ≡ ((e && all f l) && f a)
      go true h = h
      go false h = refl

  all_take : (l : List A) (n : ℕ) → n ≤ length l → all f (take n l) ≡ each (λ i. f (get_or l i d)) n
  unfolding each
  all_take l zero h = refl
  all_take l (suc n) h =
      ap (all f) (take-suc l n d (omega arith)) ∙ all_last (take n l) (get_or l n d)
      ∙ ap (λ (x : Bool). x && f (get_or l n d)) (all_take l n (omega arith))

-- the i-th frame from the newest has its signer in the words
abbrev nobody : Principal
nobody = record { place = 0; signer = 0 }

signer_at_lem : (p : Policy) (s : List ℕ) (f : Frame) (r : Stack) → FramesPictured p s (f ∷ r) → (i : ℕ) → i ≤ length r
    → signer_at s (length r - i) ≡ (get_or (principals (f ∷ r)) i nobody).signer
signer_at_lem p s f r h zero l = let e : length r - 0 ≡ length r = omega arith in rw e h.0.signer
signer_at_lem p s f [] h (suc i) l = absurd (omega arith)
signer_at_lem p s f (g ∷ r) h (suc i) l = let e : suc (length r) - suc i ≡ length r - i = omega arith in rw e (signer_at_lem p s g r h.1 i (omega arith))

-- where g asks a belief only for the length of its chain, some belief passes exactly if some length held passes
module _ (p : Policy) (t : Target) (r : Stack) (e : ℕ → Bool) (g : Belief → Bool)
    (same : (b : Belief) → b.chain ≡ take (length b.chain) (principals r) → g b ≡ e (length b.chain)) where
  by_length : (bs : List Belief) → AllFounded p r bs → any (λ b. on t b && g b) bs ≡ some (λ k. any (with_length t k) bs && e k) (suc (length r))
  by_length [] h = sym (some_false (λ k. false) (suc (length r)) (λ k l. refl))
  by_length (b ∷ bs) h =
      ap₂ (λ (x y : Bool). x || y)
      (ap (λ (x : Bool). on t b && x) (same b h.0.chain)
      ∙ sym (some_one (on t b) e (length b.chain) (suc (length r)) (omega (arith, chain_short r b h.0.chain))))
      (by_length bs h.1)
      ∙ sym (some_or (λ k. with_length t k b) (λ k. any (with_length t k) bs) e (suc (length r)))

-- a check tries each length held
pub granted_in_lem : (p : Policy) (s : List ℕ) (t : Target) (f : Frame) (r : Stack) → Pictures p s (f ∷ r) → granted_in p t s ≡ granted p t (f ∷ r)
unfolding granted_in granted
granted_in_lem p s t f r h =
    let d : depth s ≡ suc (length r) = omega arith in
    let top : suc (length r) - 1 ≡ length r = omega arith in
    rw (d, top)
    (some_ext _ _ (suc (length r)) (λ k l. ap (λ (x : Bool). x && newest (suc k)) (h.frames.0.lengths t k))
    ∙ sym (by_length p t r (λ k. newest (suc k)) (λ b. all (permitted p t) (f.principal ∷ b.chain)) same f.beliefs h.frames.0.founded))
  where
    newest : ℕ → Bool
    newest n = each (λ i. permits p (signer_at s (length r - i)) t) n

    same : (b : Belief) → b.chain ≡ take (length b.chain) (principals r) → all (permitted p t) (f.principal ∷ b.chain) ≡ newest (suc (length b.chain))
    same b e =
        let short : length b.chain ≤ length r = chain_short r b e in
        ap (λ (l : List Principal). all (permitted p t) (f.principal ∷ l)) e
        ∙ all_take (permitted p t) nobody (principals (f ∷ r)) (suc (length b.chain)) (omega (arith, length-map r (λ (x : Frame). x.principal)))
        ∙ each_ext _ _ (suc (length b.chain)) (λ i l. ap (λ (g : ℕ). permits p g t) (sym (signer_at_lem p s f r h.frames i (omega arith))))
