-- Laws of `any`, `all`, `keep` and `each`, and of runs of stores. Assumes nothing.
use mathlib.Core.Path.{◌≡◌, refl, sym, ap, ap₂, ◌∙◌}
use mathlib.Core.Bool.{Bool, true, false, cond, ◌&&◌, ◌||◌, and-false, and-true, and_assoc}
use mathlib.Core.List.{List, [], ◌∷◌, ◌++◌, map}
use mathlib.Core.Logic.{◌≢◌}
use Prim.Native.Nat.{ℕ, zero, suc, ◌+◌, ◌≤◌, ◌<◌}
use native.Mathlib.Numerals.{add-one}
use native.Mathlib.Omega.{arith}
use lib.Dec.{eqb}
use borrow.Author.Tests.{eqb-true, eqb-false}
use native.Mathlib.Nat.{add-zero, add-suc}
use lib.ListN.{length, get_or, set, take, drop, replicate, length-drop, drop_of_length-le}
use lib.Seq.{sets, sets-eq, drop-cons, take_at, get_or-take, get_or-drop, length-take-le}
use Rattle.bits.specs.Bit.{below, all_below}
use Rattle.beliefs.specs.Lists.{any, all, keep, each}

module _ {A : Type 0} where
  pub any_map : {B : Type 0} (f : B → Bool) (g : A → B) (l : List A) → any f (map g l) ≡ any (λ a. f (g a)) l
  any_map f g [] = refl
  any_map f g (a ∷ l) = ap (λ (x : Bool). f (g a) || x) (any_map f g l)

  pub any_ext : (f g : A → Bool) → ((a : A) → f a ≡ g a) → (l : List A) → any f l ≡ any g l
  any_ext f g h [] = refl
  any_ext f g h (a ∷ l) = ap₂ (λ (x y : Bool). x || y) (h a) (any_ext f g h l)

  pub any_and : (k : Bool) (f : A → Bool) (l : List A) → any (λ a. k && f a) l ≡ (k && any f l)
  any_and true f l = refl
  any_and false f [] = refl
  any_and false f (a ∷ l) = any_and false f l

  pub any_never : (f : A → Bool) → ((a : A) → f a ≡ false) → (l : List A) → any f l ≡ false
  any_never f h [] = refl
  any_never f h (a ∷ l) = rw (h a, any_never f h l)

  pub any_keep : (f k : A → Bool) (l : List A) → any f (keep k l) ≡ any (λ a. k a && f a) l
  any_keep f k [] = refl
  any_keep f k (a ∷ l) = go (k a) (any_keep f k l)
    where
      go : (e : Bool) → any f (keep k l) ≡ any (λ a. k a && f a) l → any f (cond e (a ∷ keep k l) (keep k l)) ≡ ((e && f a) || any (λ a. k a && f a) l)
      go true ih = ap (λ (x : Bool). f a || x) ih
      go false ih = ih

  pub any_append : (f : A → Bool) (l m : List A) → any f (l ++ m) ≡ (any f l || any f m)
  any_append f [] m = refl
  any_append f (a ∷ l) m = go (f a) (any_append f l m)
    where
      go : (e : Bool) → any f (l ++ m) ≡ (any f l || any f m) → (e || any f (l ++ m)) ≡ ((e || any f l) || any f m)
      go true q = refl
      go false q = q

-- every number below a bound
module _ (f : ℕ → Bool) where
  pub each_none : each f 0 ≡ true
  unfolding each
  each_none = refl

  pub each_more : (n : ℕ) → each f n ≡ true → f n ≡ true → each f (n + 1) ≡ true
  unfolding each
  each_more n h e = rw (add-one, h, e)

  -- one that fails, and one at a time
  pub each_false : (n k : ℕ) → k < n → f k ≡ false → each f n ≡ false
  unfolding each
  each_false zero k h e = absurd (omega arith)
  each_false (suc n) k h e = go (eqb k n) refl (λ l. each_false n k l e)
    where
      go : (b : Bool) → eqb k n ≡ b → (k < n → each f n ≡ false) → (each f n && f n) ≡ false
      go true q ih = let s : k ≡ n = eqb-true k n q in rw (← s, e) (and-false (each f k))
      go false q ih = let s : k ≢ n = eqb-false k n q in rw (ih (omega arith))

  pub each_at : (n : ℕ) → each f n ≡ true → (k : ℕ) → k < n → f k ≡ true
  each_at n h k l = go (f k) refl
    where
      go : (b : Bool) → f k ≡ b → f k ≡ true
      go true q = q
      go false q = cc (h, each_false n k l q)

-- what holds at each number below n
pub each_of : (f : ℕ → Bool) (n : ℕ) → ((k : ℕ) → k < n → f k ≡ true) → each f n ≡ true
unfolding each
each_of f zero h = refl
each_of f (suc n) h = rw (each_of f n (λ k l. h k (omega arith)), h n (omega arith))

pub each_ext : (f g : ℕ → Bool) (n : ℕ) → ((k : ℕ) → k < n → f k ≡ g k) → each f n ≡ each g n
unfolding each
each_ext f g zero h = refl
each_ext f g (suc n) h = rw (each_ext f g n (λ k l. h k (omega arith)), h n (omega arith))

-- the numbers below a, and the others
pub each_sum : (f : ℕ → Bool) (a b : ℕ) → each f (a + b) ≡ (each f a && each (λ k. f (a + k)) b)
unfolding each
each_sum f a zero = rw (add-zero a) (sym (and-true (each f a)))
each_sum f a (suc b) = rw (add-suc a b) (ap (λ (x : Bool). x && f (a + b)) (each_sum f a b) ∙ and_assoc (each f a) (each (λ k. f (a + k)) b) (f (a + b)))

each_first : (f : ℕ → Bool) (n : ℕ) → each f (suc n) ≡ (f 0 && each (λ k. f (suc k)) n)
unfolding each
each_first f zero = sym (and-true (f 0))
each_first f (suc n) = ap (λ (b : Bool). b && f (suc n)) (each_first f n) ∙ and_assoc (f 0) (each (λ k. f (suc k)) n) (f (suc n))

-- every element of a list is the element at every index
pub all_each : (f : ℕ → Bool) (l : List ℕ) → all f l ≡ each (λ k. f (get_or l k 0)) (length l)
unfolding each
all_each f [] = refl
all_each f (a ∷ l) = ap (λ (b : Bool). f a && b) (all_each f l) ∙ sym (each_first (λ k. f (get_or (a ∷ l) k 0)) (length l))

pub all_at : (f : ℕ → Bool) (l : List ℕ) → all f l ≡ true → (k : ℕ) → k < length l → f (get_or l k 0) ≡ true
all_at f l h = each_at (λ k. f (get_or l k 0)) (length l) (sym (all_each f l) ∙ h)

pub all_of : (f : ℕ → Bool) (l : List ℕ) → ((k : ℕ) → k < length l → f (get_or l k 0) ≡ true) → all f l ≡ true
all_of f l h = all_each f l ∙ each_of (λ k. f (get_or l k 0)) (length l) h

-- no word of a part of a list has a bit at n or above
all_below_lem : (l : List ℕ) (n : ℕ) → all_below l n ≡ all (λ w. below w n) l
unfolding all_below
all_below_lem [] n = refl
all_below_lem (w ∷ l) n = ap (λ (x : Bool). below w n && x) (all_below_lem l n)

pub part_below : (l : List ℕ) (at k n : ℕ) → at + k ≤ length l → all_below (take k (drop at l)) n ≡ each (λ i. below (get_or l (at + i) 0) n) k
part_below l at k n h =
    let part : List ℕ = take k (drop at l) in
    let long : length part ≡ k = length-take-le k (drop at l) (omega (arith, length-drop at l)) in
    all_below_lem part n ∙ all_each (λ w. below w n) part ∙ rw long
    (each_ext (λ i. below (get_or part i 0) n) (λ i. below (get_or l (at + i) 0) n) k
    (λ i m. ap (λ (w : ℕ). below w n) (get_or-take k (drop at l) i 0 m ∙ get_or-drop at l i 0)))

-- zeros are what `get_or` finds past a list's end
pub zeros : (n i : ℕ) → get_or {A = ℕ} (replicate n 0) i 0 ≡ 0
zeros zero i = refl
zeros (suc n) zero = refl
zeros (suc n) (suc i) = zeros n i

-- a loop of stores into a lent buffer: one of them, and the rest after it; of a text, from its first to its last, and after that
pub put_next : (l : List ℕ) (at i v : ℕ) (vs ws : List ℕ) → ws ≡ v ∷ vs → sets (set l (at + i) v) (at + (i + 1)) vs ≡ sets l (at + i) ws
put_next l at i v vs ws e = let up : at + (i + 1) ≡ suc (at + i) = omega arith in rw (e, up)

pub put_turn : (l text : List ℕ) (at i : ℕ) → i < length text
    → sets (set l (at + i) (get_or text i 0)) (at + (i + 1)) (drop (i + 1) text) ≡ sets l (at + i) (drop i text)
put_turn l text at i h = put_next l at i (get_or text i 0) (drop (i + 1) text) (drop i text) (rw add-one (drop-cons text i 0 h))

pub put_end : (l text : List ℕ) (at i : ℕ) → length text ≤ i → sets l (at + i) (drop i text) ≡ l
put_end l text at i h = rw (drop_of_length-le text {i = i} h)

-- one run of stores after the other
pub sets_more : (l : List ℕ) (i : ℕ) (vs ws : List ℕ) → sets (sets l i vs) (i + length vs) ws ≡ sets l i (vs ++ ws)
sets_more l i [] ws = rw (add-zero i)
sets_more l i (v ∷ vs) ws = let e : i + suc (length vs) ≡ suc i + length vs = omega arith in rw e (sets_more (set l i v) (suc i) vs ws)

-- what is stored at the front of a buffer is found there
pub front : (lent bs : List ℕ) → length bs ≤ length lent → take (length bs) (sets lent 0 bs) ≡ bs
front lent bs h = ap (take (length bs)) (sets-eq bs lent 0 (omega arith)) ∙ take_at bs (drop (0 + length bs) lent) (length bs) refl
