-- Each operation keeps the picture: the newest frame's words say the lengths of its chains, and the words of the frames below stay. So what the code
-- gives serves the belief sets. Assumes nothing.
use mathlib.Core.Path.{◌≡◌, refl, sym, ap, ap₂, ◌∙◌}
use mathlib.Core.Bool.{Bool, true, false, cond, not, ◌&&◌, ◌||◌, and-false, or-false, and-or_distrib_right}
use mathlib.Core.List.{List, [], ◌∷◌, map}
use mathlib.Core.Logic.{◌≢◌}
use Prim.Native.Nat.{ℕ, zero, suc, ◌+◌, ◌-◌, ◌*◌, ◌^◌, ◌≤◌, ◌<◌}
use native.Mathlib.Nat.{mod-eq_of_lt, div-one, mul-mod_left}
use native.Mathlib.Omega.{arith}
use lib.Dec.{eqb, ltb, eqb-suc-zero, eqb-suc-suc, eqb-zero-suc}
use lib.Pow.{shl-shr, shr-shr}
use lib.ListN.{length, get_or, set, replicate}
use lib.Seq.{get_or-set_other}
use borrow.Author.Tests.{lt-ltb, le-ltb, ltb-false, eq-eqb, ne_eqb, eqb-true}
use Rattle.bits.specs.Bit.{bit, with_bit, without_bit}
use Rattle.bits.proofs.Laws.{bit_with, bit_without, bit_none, high_bits}
use Rattle.answers.specs.Answer.{Answer, Gives}
use Rattle.words.specs.declared.Operation.{Operation}
use Rattle.words.specs.declared.Operation.TheVariants.{Call, Return, Enable, Disable, Revert, Check}
use Rattle.words.specs.Words.{outside, barred}
use Rattle.words.proofs.Words.{signer_below, room_above, target_below}
use Rattle.beliefs.specs.Lists.{any, keep, empty}
use Rattle.beliefs.specs.Policy.{Policy, Target, signers, targets, valid, outside_of}
use Rattle.beliefs.specs.Stack.{Principal, Belief, Frame, Stack, on, own, said, oks, full, called, enable, disable, revert}
use Rattle.beliefs.specs.Trace as trace
use Rattle.beliefs.specs.Engine.{acts, Serve}
use Rattle.beliefs.proofs.Lists.{any_map, any_ext, any_and, any_never, any_keep, zeros}
use Rattle.beliefs.proofs.Policy.{ranges}
use Rattle.beliefs.proofs.Granted.{any_off, eqb_comm, ltb_step}
use Rattle.beliefs.proofs.Engine.{newest, Mirrors, done_mirrors, acts_mirror, served_by}
use Rattle.record.specs.Layout.{frame_from, words_from, depth, held_at, held}
use Rattle.record.specs.Does.{start_targets, start_word, longer, handed, called_in, left_in, held_in, does}
use Rattle.record.specs.Pictures.{AllFounded, with_length, FramesPictured, Pictures, by_record}
use Rattle.record.proofs.Frames.{held_same, held_set, lowered_depth, lowered_below, lowered_above, raised_depth, raised_signer, raised_other, raised_held}
use Rattle.record.proofs.Chains.{none_longer, none_outside, at_length, granted_in_lem}

-- words that stay picture the frames that they pictured
frames_same : (p : Policy) (s s' : List ℕ) (st : Stack) → ((i : ℕ) → 0 < i → i < frame_from (length st) → get_or s' i 0 ≡ get_or s i 0)
    → FramesPictured p s st → FramesPictured p s' st
frames_same p s s' [] h k = tt
frames_same p s s' (f ∷ r) h k = (
  record {
    known = k.0.known;
    signer = h (frame_from (length r)) (omega arith) (omega arith) ∙ k.0.signer;
    founded = k.0.founded;
    lengths = λ t n. ap (λ (w : ℕ). bit w n) (held_same s s' (length r) (λ i a b. h i (omega arith) b) t) ∙ k.0.lengths t n;
  },
  frames_same p s s' r (λ i a b. h i a (omega arith)) k.1,
)

module _ (p : Policy) where
  pub founded_keep : (r : Stack) (f : Belief → Bool) (bs : List Belief) → AllFounded p r bs → AllFounded p r (keep f bs)
  founded_keep r f [] h = tt
  founded_keep r f (b ∷ bs) h = go (f b) (founded_keep r f bs h.1)
    where
      go : (e : Bool) → AllFounded p r (keep f bs) → AllFounded p r (cond e (b ∷ keep f bs) (keep f bs))
      go true k = (h.0, k)
      go false k = k

  founded_said : (f : Frame) (r : Stack) (bs : List Belief) → AllFounded p r bs → AllFounded p (f ∷ r) (map (said f.principal) bs)
  founded_said f r [] h = tt
  founded_said f r (b ∷ bs) h =
      (record { target = h.0.target; chain = ap (λ (c : List Principal). f.principal ∷ c) h.0.chain }, founded_said f r bs h.1)

  founded_oks : (n : ℕ) → n ≤ targets p → AllFounded p [] (oks n)
  founded_oks zero l = tt
  founded_oks (suc n) l = (record { target = l; chain = refl }, founded_oks n (omega arith))

-- Ok(T) itself is what is held with length 0
empty_length : {A : Type 0} (l : List A) → empty l ≡ eqb 0 (length l)
empty_length [] = refl
empty_length (a ∷ l) = sym (eqb-zero-suc (length l))

own_length : (t u : Target) (k : ℕ) (b : Belief) → (not (own t b) && with_length u k b) ≡ (not (eqb t u && eqb 0 k) && with_length u k b)
own_length t u k b =
    ap₂ (λ (x y : Bool). not (x && y) && with_length u k b) (eqb_comm b.target t) (empty_length b.chain)
    ∙ at_length (λ v n. not (eqb t v && eqb 0 n)) u k b

-- Ok(T) for each target below n
one_bit : (e : Bool) (k : ℕ) → bit (cond e 1 0) k ≡ (e && eqb 0 k)
unfolding with_bit
one_bit true k = bit_with 0 0 k (omega arith) ∙ ap (λ (x : Bool). eqb 0 k || x) (bit_none k) ∙ or-false (eqb 0 k)
one_bit false k = bit_none k

oks_lengths : (t : Target) (k n : ℕ) → any (with_length t k) (oks n) ≡ (ltb t n && eqb 0 k)
oks_lengths t k zero = rw (le-ltb t 0 (omega arith))
oks_lengths t k (suc n) =
    ap (λ (x : Bool). (eqb n t && eqb 0 k) || x) (oks_lengths t k n) ∙ sym (and-or_distrib_right (eqb n t) (ltb t n) (eqb 0 k))
    ∙ ap (λ (x : Bool). x && eqb 0 k) (ltb_step t n)

-- a chain that is one longer
longer_is : (w : ℕ) → w < 2 ^ 63 → longer w ≡ w * 2
longer_is w h = mod-eq_of_lt (omega arith)

longer_none : (w : ℕ) → w < 2 ^ 63 → bit (longer w) 0 ≡ false
unfolding bit
longer_none w h = rw (longer_is w h, div-one (w * 2), mul-mod_left w 2)

longer_more : (w k : ℕ) → w < 2 ^ 63 → bit (longer w) (suc k) ≡ bit w k
unfolding bit
longer_more w k h =
    let e : suc k ≡ 1 + k = omega arith in
    rw (longer_is w h, e, ← shr-shr (w * 2) 1 k, shl-shr w 1)

-- the depth of a state that pictures a stack
pub high : (p : Policy) (s : List ℕ) (st : Stack) → Pictures p s st → depth s ≡ length st
high p s st h = omega arith

module _ (p : Policy) (s : List ℕ) (whole : length s ≡ 4096) (few : targets p ≤ 64) where
  module _ (f : Frame) (r : Stack) (h : Pictures p s (f ∷ r)) where
    top : depth s - 1 ≡ length r
    top = omega arith

    pub return_kept : Pictures p (left_in s) r
    return_kept =
        rw top
        (record {
          room = omega arith;
          deep = lowered_depth (length r) s whole (omega arith);
          frames = frames_same p s _ r (lowered_below (length r) s whole (omega arith)) h.frames.1;
          above = lowered_above (length r) s whole (omega arith) h.above;
        })

    -- enable, disable and revert: what the target's word becomes, bit by bit, and what becomes of the beliefs on any target
    module _ (t : Target) (inside : t < targets p) where
      kept : (w : ℕ) (g : Frame) (F : ℕ → Bool → Bool → Bool) → g.principal ≡ f.principal → AllFounded p r g.beliefs
          → ((k : ℕ) (x : Bool) → F k false x ≡ x) → ((k : ℕ) → bit w k ≡ F k true (bit (held_at s (length r) t) k))
          → ((u : Target) (k : ℕ) → any (with_length u k) g.beliefs ≡ F k (eqb t u) (any (with_length u k) f.beliefs)) → Pictures p (held_in t w s) (g ∷ r)
      kept w g F same founded off on lengths =
          let at : ℕ = words_from (length r) + t in
          let other : (i : ℕ) → i ≢ at → get_or (set s at w) i 0 ≡ get_or s i 0 = λ i n. get_or-set_other s at i w 0 n in
          let signer : g.principal.signer ≡ f.principal.signer = ap (λ (x : Principal). x.signer) same in
          rw (lt-ltb t 64 (omega arith), top)
          (record {
            room = h.room;
            deep = other 0 (omega arith) ∙ h.deep;
            frames = (
              record {
                known = rw signer h.frames.0.known;
                signer = other (frame_from (length r)) (omega arith) ∙ h.frames.0.signer ∙ sym signer;
                founded = founded;
                lengths = λ u k.
                    ap (λ (v : ℕ). bit v k) (held_set s (length r) t w whole (omega arith) (omega arith) u) ∙ go u k (eqb t u) refl ∙ sym (lengths u k);
              },
              frames_same p s (set s at w) r (λ i a b. other i (omega arith)) h.frames.1,
            );
            above = λ i l. other i (omega arith) ∙ h.above i l;
          })
        where
          go : (u : Target) (k : ℕ) (e : Bool) → eqb t u ≡ e → bit (cond e w (held_at s (length r) u)) k ≡ F k e (any (with_length u k) f.beliefs)
          go u k true q = on k ∙ ap (F k true) (rw (eqb-true t u q) (h.frames.0.lengths u k))
          go u k false q = h.frames.0.lengths u k ∙ sym (off k _)

      pub enable_kept : Pictures p (held_in t (with_bit (held s t) 0) s) (enable t f ∷ r)
      unfolding enable
      enable_kept =
          kept (with_bit (held s t) 0) (enable t f) (λ k e x. (e && eqb 0 k) || x) refl (record { target = inside; chain = refl }, h.frames.0.founded)
          (λ k x. refl) (λ k. rw top (bit_with (held_at s (length r) t) 0 k (omega arith))) (λ u k. refl)

      pub disable_kept : Pictures p (held_in t 0 s) (disable t f ∷ r)
      unfolding disable
      disable_kept =
          kept 0 (disable t f) (λ k e x. not e && x) refl (founded_keep p r (λ b. not (on t b)) f.beliefs h.frames.0.founded)
          (λ k x. refl) bit_none (λ u k. any_off t u (λ b. eqb (length b.chain) k) f.beliefs)

      pub revert_kept : Pictures p (held_in t (without_bit (held s t) 0) s) (revert t f ∷ r)
      unfolding revert
      revert_kept =
          kept (without_bit (held s t) 0) (revert t f) (λ k e x. not (e && eqb 0 k) && x) refl
          (founded_keep p r (λ b. not (own t b)) f.beliefs h.frames.0.founded)
          (λ k x. refl) (λ k. rw top (bit_without (held_at s (length r) t) 0 k))
          (λ u k. any_keep (with_length u k) (λ b. not (own t b)) f.beliefs
          ∙ any_ext (λ b. not (own t b) && with_length u k b) (λ b. not (eqb t u && eqb 0 k) && with_length u k b) (own_length t u k) f.beliefs
          ∙ any_and (not (eqb t u && eqb 0 k)) (with_length u k) f.beliefs)

  -- call
  module _ (g : ℕ) where
    handed_founded : (st : Stack) → Pictures p s st → AllFounded p st (called p g st).beliefs
    unfolding called
    handed_founded [] h = go (full p)
      where
        go : (e : Bool) → AllFounded p [] (cond e (oks (targets p)) [])
        go true = founded_oks p (targets p) (omega arith)
        go false = tt
    handed_founded (f ∷ r) h = founded_said p f r f.beliefs h.frames.0.founded

    first_lengths : (t : Target) (k : ℕ) → bit (start_word p t) k ≡ any (with_length t k) (called p g []).beliefs
    unfolding start_word called
    first_lengths t k = one_bit (ltb t (start_targets p)) k ∙ go (full p)
      where
        go : (e : Bool) → (ltb t (cond e (targets p) 0) && eqb 0 k) ≡ any (with_length t k) (cond e (oks (targets p)) [])
        go true = sym (oks_lengths t k (targets p))
        go false = rw (le-ltb t 0 (omega arith))

    deeper_lengths : (f : Frame) (r : Stack) → Pictures p s (f ∷ r) → (t : Target) (k : ℕ)
        → bit (longer (held_at s (length r) t)) k ≡ any (with_length t k) (called p g (f ∷ r)).beliefs
    unfolding called
    deeper_lengths f r h t = go
      where
        w : ℕ
        w = held_at s (length r) t

        short : w < 2 ^ 63
        short = high_bits 63 w (λ u l. h.frames.0.lengths t u ∙ none_longer p r t u (omega (arith, h.room)) f.beliefs h.frames.0.founded)

        go : (k : ℕ) → bit (longer w) k ≡ any (with_length t k) (map (said f.principal) f.beliefs)
        go zero =
            longer_none w short
            ∙ sym (any_map (with_length t 0) (said f.principal) f.beliefs
            ∙ any_never (λ b. on t b && eqb (suc (length b.chain)) 0) (λ b. rw (eqb-suc-zero (length b.chain)) (and-false (on t b))) f.beliefs)
        go (suc k) =
            longer_more w k short ∙ h.frames.0.lengths t k
            ∙ sym (any_map (with_length t (suc k)) (said f.principal) f.beliefs
            ∙ any_ext (λ b. on t b && eqb (suc (length b.chain)) (suc k)) (with_length t k) (λ b. rw (eqb-suc-suc (length b.chain) k)) f.beliefs)

    low_lengths : (st : Stack) → Pictures p s st → (t : Target) (k : ℕ) → bit (handed p s t) k ≡ any (with_length t k) (called p g st).beliefs
    unfolding handed
    low_lengths [] h t k = rw (eq-eqb (depth s) 0 (omega arith)) (first_lengths t k)
    low_lengths (f ∷ r) h t k = rw (ne_eqb (depth s) 0 (omega arith), top f r h) (deeper_lengths f r h t k)

    -- a target over 63 has no word, and no belief is on it
    handed_lengths : (st : Stack) → Pictures p s st → (t : Target) (k : ℕ)
        → bit (cond (ltb t 64) (handed p s t) 0) k ≡ any (with_length t k) (called p g st).beliefs
    handed_lengths st h t k = go (ltb t 64) refl
      where
        go : (e : Bool) → ltb t 64 ≡ e → bit (cond e (handed p s t) 0) k ≡ any (with_length t k) (called p g st).beliefs
        go true q = low_lengths st h t k
        go false q = bit_none k ∙ sym (none_outside p st t k (omega (arith, ltb-false t 64 q)) (called p g st).beliefs (handed_founded st h))

    called_signer : (st : Stack) → (called p g st).principal.signer ≡ g
    unfolding called
    called_signer [] = refl
    called_signer (f ∷ r) = refl

    pub call_kept : g < signers p → (st : Stack) → length st < 63 → Pictures p s st → Pictures p (called_in p g s) (called p g st ∷ st)
    call_kept inside st room h =
        let up : length st + 1 ≡ suc (length st) = omega arith in
        let other = raised_other (length st) (handed p s) g s whole room in
        rw (high p s st h)
        (record {
          room = room;
          deep = raised_depth (length st) (handed p s) g s whole room ∙ up;
          frames = (
            record {
              known = rw (called_signer st) inside;
              signer = raised_signer (length st) (handed p s) g s whole room ∙ sym (called_signer st);
              founded = handed_founded st h;
              lengths = λ t k. ap (λ (w : ℕ). bit w k) (raised_held (length st) (handed p s) g s whole room t) ∙ handed_lengths st h t k;
            },
            frames_same p s _ st (λ i a b. other i a (omega arith)) h.frames,
          );
          above = λ i l. other i (omega arith) (omega arith) ∙ h.above i (omega arith);
        })

-- a fresh state, all zeros, pictures the stack with no frame
pub fresh : (p : Policy) → Pictures p (replicate 4096 0) []
fresh p = record { room = omega arith; deep = refl; frames = tt; above = λ i l. zeros 4096 i }

-- one operation on the words gives the number, the answer and the picture of the same operation on the belief sets
module _ (p : Policy) (s : List ℕ) (whole : length s ≡ 4096) where
  module _ (ok : valid p ≡ true) where
    abbrev Same : Operation → Stack → Type 0
    Same op st = Pictures p s st → Mirrors by_record p (does p op s) (trace.does false p op st)

    few : targets p ≤ 64
    few = (ranges p ok).targets_most

    does_mirrors : (op : Operation) → outside_of p op ≡ 0 → (st : Stack) → barred (length st) op ≡ 0 → Same op st
    unfolding outside barred trace.does
    does_mirrors (Call g) i st z = λ h. done_mirrors by_record p (call_kept p s whole few g (signer_below _ (targets p) g i) st (room_above _ g z) h)
    does_mirrors Return i st z = newest (Same Return) st z (λ f r h. done_mirrors by_record p (return_kept p s whole few f r h))
    does_mirrors (Enable t) i st z =
        newest (Same (Enable t)) st z (λ f r h. done_mirrors by_record p (enable_kept p s whole few f r h t (target_below _ t i)))
    does_mirrors (Disable t) i st z =
        newest (Same (Disable t)) st z (λ f r h. done_mirrors by_record p (disable_kept p s whole few f r h t (target_below _ t i)))
    does_mirrors (Revert t) i st z =
        newest (Same (Revert t)) st z (λ f r h. done_mirrors by_record p (revert_kept p s whole few f r h t (target_below _ t i)))
    does_mirrors (Check t) i st z =
        newest (Same (Check t)) st z (λ f r h. rw (granted_in_lem p s t f r h) (record { number = refl; byte = refl; states = h }))

    pub simulate : (op : Operation) → outside_of p op ≡ 0 → (st : Stack) → Pictures p s st
        → Mirrors by_record p (acts by_record p op s) (trace.step false p op st)
    simulate op i st h = acts_mirror by_record p op s st h (high p s st h) (λ z. does_mirrors op i st z h)

  -- what the code gives serves the belief sets
  pub served : (op : Operation) (r : Answer) (left : List ℕ) → Gives r left (acts by_record p op s) → Serve by_record p s op r left
  served op r left g = served_by by_record p s op r left g (fresh p) (λ ok i st h. simulate ok op i st h)
