-- Every state that number 14 lets through pictures some stack of the definition: no promise over pictures is empty, and no operation on such a state
-- leaves one that number 14 refuses. Assumes nothing.
use mathlib.Core.Path.{◌≡◌, refl, sym, ap, ap₂, ◌∙◌}
use mathlib.Core.Bool.{Bool, true, false, cond, ◌&&◌, ◌||◌, and-false, and-true, and-or_distrib_left, and-or_distrib_right}
use mathlib.Core.List.{List, [], ◌∷◌, ◌++◌}
use Prim.Native.Nat.{ℕ, zero, suc, ◌+◌, ◌^◌, ◌≤◌, ◌<◌}
use native.Mathlib.Decide.{dec_lt}
use native.Mathlib.Omega.{arith}
use lib.Dec.{eqb, ltb, leb}
use lib.ListN.{length, get_or, take, length-map, get_or-eq_default}
use lib.Seq.{length-take-le}
use borrow.Author.Tests.{lt-ltb, le-ltb, ltb-true, ltb-false, leb-true}
use Rattle.bits.specs.Bit.{bit}
use Rattle.bits.proofs.Laws.{bit_none, bit_high}
use Rattle.beliefs.specs.Lists.{any, keep, each}
use Rattle.beliefs.specs.Policy.{Policy, Target, signers, targets}
use Rattle.beliefs.specs.Stack.{Belief, Frame, Stack}
use Rattle.beliefs.specs.Engine.{Operate}
use Rattle.beliefs.proofs.Lists.{any_ext, any_and, any_keep, any_append, each_at}
use Rattle.beliefs.proofs.Granted.{ltb_step}
use Rattle.record.specs.Layout.{frame_from, words_from, depth, signer_at, held_at}
use Rattle.record.specs.Fits.{words_below, words, frame_fits, fits}
use Rattle.record.specs.Pictures.{principals, AllFounded, with_length, FramePictured, FramesPictured, Pictures, by_record}
use Rattle.beliefs.proofs.Policy.{both}
use Rattle.beliefs.proofs.Engine as engine
use Rattle.record.proofs.Fits.{words_at, pictured_fits}
use Rattle.record.proofs.Chains.{at_length}
use Rattle.record.proofs.Kept.{founded_keep}

-- every belief that a frame above r may hold: on each target below n, a chain of each length up to the frames below
belief_on : Target → Stack → ℕ → Belief
belief_on t r k = record { chain = take k (principals r); target = t }

beliefs_on : Target → Stack → ℕ → List Belief
beliefs_on t r zero = []
beliefs_on t r (suc k) = belief_on t r k ∷ beliefs_on t r k

every_belief : Stack → ℕ → List Belief
every_belief r zero = []
every_belief r (suc t) = beliefs_on t r (suc (length r)) ++ every_belief r t

chain_length : (t k : ℕ) (r : Stack) → k ≤ length r → length (belief_on t r k).chain ≡ k
unfolding belief_on
chain_length t k r h = length-take-le k (principals r) (omega (arith, length-map r (λ (f : Frame). f.principal)))

module _ (p : List ℕ) (r : Stack) where
  founded_append : (l m : List Belief) → AllFounded p r l → AllFounded p r m → AllFounded p r (l ++ m)
  founded_append [] m h k = k
  founded_append (b ∷ l) m h k = (h.0, founded_append l m h.1 k)

  founded_on : (t n : ℕ) → t < targets p → n ≤ suc (length r) → AllFounded p r (beliefs_on t r n)
  unfolding beliefs_on belief_on
  founded_on t zero l h = tt
  founded_on t (suc k) l h = (
    record { target = l; chain = ap (λ (n : ℕ). take n (principals r)) (sym (chain_length t k r (omega arith))) },
    founded_on t k l (omega arith),
  )

  founded_every : (n : ℕ) → n ≤ targets p → AllFounded p r (every_belief r n)
  unfolding every_belief
  founded_every zero l = tt
  founded_every (suc t) l =
      founded_append (beliefs_on t r (suc (length r))) (every_belief r t) (founded_on t (suc (length r)) l (omega arith)) (founded_every t (omega arith))

-- which targets and lengths these have
module _ (u k : ℕ) (r : Stack) where
  on_lengths : (t n : ℕ) → n ≤ suc (length r) → any (with_length u k) (beliefs_on t r n) ≡ (eqb t u && ltb k n)
  unfolding beliefs_on belief_on
  on_lengths t zero h = sym (ap (λ (x : Bool). eqb t u && x) (le-ltb k 0 (omega arith)) ∙ and-false (eqb t u))
  on_lengths t (suc n) h =
      ap₂ (λ (x y : Bool). (eqb t u && x) || y) (ap (λ (m : ℕ). eqb m k) (chain_length t n r (omega arith))) (on_lengths t n (omega arith))
      ∙ sym (and-or_distrib_left (eqb t u) (eqb n k) (ltb k n)) ∙ ap (λ (x : Bool). eqb t u && x) (ltb_step k n)

  every_lengths : (n : ℕ) → any (with_length u k) (every_belief r n) ≡ (ltb u n && ltb k (suc (length r)))
  unfolding every_belief
  every_lengths zero = ap (λ (x : Bool). x && ltb k (suc (length r))) (sym (le-ltb u 0 (omega arith)))
  every_lengths (suc t) =
      any_append (with_length u k) (beliefs_on t r (suc (length r))) (every_belief r t)
      ∙ ap₂ (λ (x y : Bool). x || y) (on_lengths t (suc (length r)) (omega arith)) (every_lengths t)
      ∙ sym (and-or_distrib_right (eqb t u) (ltb u t) (ltb k (suc (length r)))) ∙ ap (λ (x : Bool). x && ltb k (suc (length r))) (ltb_step u t)

-- from the words to a stack: the frame above r that they say
stood : Policy → List ℕ → Stack → Frame
stood p s r = record {
  principal = record { place = suc (length r); signer = signer_at s (length r) };
  beliefs = keep (λ b. bit (held_at s (length r) b.target) (length b.chain)) (every_belief r (words p));
  enabled = 0;
  disabled = 0;
}

-- no word that fits holds a length for which there are too few frames, or is for a target at N or above
held_low : (p : Policy) (s : List ℕ) (j : ℕ) → frame_fits p s j ≡ true → (t k : ℕ) → (ltb t (words p) && ltb k (suc j)) ≡ false → bit (held_at s j t) k ≡ false
unfolding held_at frame_fits
held_low p s j good t k out = go (ltb t 64) refl (dec_lt t (words p))
  where
    words_fit : (words_below s (words_from j) (words_from j + words p) (j + 1) ≡ true) × (words_below s (words_from j + words p) (words_from j + 64) 0 ≡ true)
    words_fit = both (words_below s (words_from j) (words_from j + words p) (j + 1)) (both (ltb (signer_at s j) (signers p)) good).1

    far : t < words p → suc j ≤ k
    far h = ltb-false k (suc j) (ap (λ (x : Bool). x && ltb k (suc j)) (sym (lt-ltb t (words p) h)) ∙ out)

    go : (e : Bool) → ltb t 64 ≡ e → Dec (t < words p) → bit (cond e (get_or s (words_from j + t) 0) 0) k ≡ false
    go false q d = bit_none k
    go true q (yes h) = bit_high (j + 1) _ k (words_at s _ _ (j + 1) words_fit.0 (words_from j + t) (omega arith) (omega arith)) (omega (arith, far h))
    go true q (no h) = bit_high 0 _ k (words_at s _ _ 0 words_fit.1 (words_from j + t) (omega arith) (omega (arith, ltb-true t 64 q))) (omega arith)

absorbed : (x y : Bool) → (y ≡ false → x ≡ false) → (x && y) ≡ x
absorbed x true h = and-true x
absorbed x false h = rw (h refl)

stood_pictured : (p : Policy) (s : List ℕ) (r : Stack) → frame_fits p s (length r) ≡ true → FramePictured p s (stood p s r) r
unfolding stood frame_fits
stood_pictured p s r good =
    let w : Target → ℕ → Bool = λ u n. bit (held_at s (length r) u) n in
    let says : Belief → Bool = λ b. w b.target (length b.chain) in
    let bs : List Belief = every_belief r (words p) in
    record {
      known = ltb-true (signer_at s (length r)) (signers p) (both (ltb (signer_at s (length r)) (signers p)) good).0;
      signer = refl;
      founded = founded_keep p r says bs (founded_every p r (words p) (omega arith));
      lengths = λ t k.
          sym (any_keep (with_length t k) says bs ∙ any_ext (λ b. says b && with_length t k b) (λ b. w t k && with_length t k b) (at_length w t k) bs
          ∙ any_and (w t k) (with_length t k) bs ∙ ap (λ (x : Bool). w t k && x) (every_lengths t k r (words p))
          ∙ absorbed (w t k) (ltb t (words p) && ltb k (suc (length r))) (held_low p s (length r) good t k));
    }

-- and the stack of so many frames, where every frame fits
stack_of : (p : Policy) (s : List ℕ) → each (frame_fits p s) (depth s) ≡ true → (n : ℕ) → n ≤ depth s → (st : Stack) × ((length st ≡ n) × FramesPictured p s st)
stack_of p s good zero h = ([], (refl, tt))
stack_of p s good (suc n) h =
    let below = stack_of p s good n (omega arith) in
    let fit : frame_fits p s (length below.0) ≡ true = rw below.1.0 (each_at (frame_fits p s) (depth s) good n h) in
    (stood p s below.0 ∷ below.0, (ap suc below.1.0, (stood_pictured p s below.0 fit, below.1.1)))

pub pictured : (p : Policy) (s : List ℕ) → length s ≡ 4096 → fits p s ≡ true → (st : Stack) × Pictures p s st
unfolding fits
pictured p s whole h =
    let shallow : get_or s 0 0 ≤ 63 = leb-true _ _ (both (leb (get_or s 0 0) 63) h).0 in
    let rest = both (each (frame_fits p s) (depth s)) (both (leb (get_or s 0 0) 63) h).1 in
    let found = stack_of p s rest.0 (depth s) (omega arith) in
    let high : length found.0 ≡ depth s = found.1.0 in
    (found.0, record { room = omega arith; deep = omega arith; frames = found.1.1; above = λ i l. zero_above rest.1 i (omega arith) (dec_lt i 4096) })
  where
    zero_above : words_below s (frame_from (depth s)) 4096 0 ≡ true → (i : ℕ) → frame_from (depth s) ≤ i → Dec (i < 4096) → get_or s i 0 ≡ 0
    zero_above z i l (yes m) = let low : get_or s i 0 < 2 ^ 0 = words_at s (frame_from (depth s)) 4096 0 z i l m in omega arith
    zero_above z i l (no m) = get_or-eq_default s 0 (omega arith)

-- what a caller of `operate` may count on
pub operate_stays : (p : Policy) (s : List ℕ) (w lent n byte : ℕ) (left : List ℕ) → length s ≡ 4096 → Operate by_record p s w lent n byte left
    → fits p s ≡ true → fits p left ≡ true
operate_stays p s w lent n byte left whole h f =
    engine.operate_stays by_record p (pictured_fits p) s (λ _. pictured p s whole f) w lent n byte left h f
