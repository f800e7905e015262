-- The state stays the picture of the stack that the definitions give. Assumes nothing.
use mathlib.Core.Path.{◌≡◌, refl, sym, ap, ap₂, ◌∙◌}
use mathlib.Core.Bool.{true}
use mathlib.Core.List.{List, [], ◌∷◌, map}
use mathlib.Core.Logic.{◌≢◌}
use Prim.Native.Nat.{ℕ, suc, ◌+◌, ◌-◌, ◌*◌, ◌≤◌, ◌<◌}
use native.Mathlib.Omega.{arith}
use lib.ListN.{get_or, set, length, replicate}
use lib.Pow.{pow_pos}
use lib.Seq.{get_or-set_same}
use borrow.Author.Tests.{ne_eqb}
use Rattle.bits.proofs.Laws.{with_lt, without_lt}
use Rattle.answers.specs.Answer.{Answer, verdict_byte, done, Gives}
use Rattle.words.specs.declared.Operation.{Operation}
use Rattle.words.specs.declared.Operation.TheVariants.{Call, Return, Enable, Disable, Revert, Check}
use Rattle.words.specs.Words.{outside, framed, barred}
use Rattle.words.proofs.Words.{signer_below, target_below, room_above}
use Rattle.beliefs.specs.declared.Marked.{Marked}
use Rattle.beliefs.specs.declared.Seen.{Seen}
use Rattle.beliefs.specs.Policy.{Policy, signers, targets, outside_of}
use Rattle.beliefs.specs.Stack.{Frame, Stack, nobody, marked, granted, walk, called, enable, disable, revert}
use Rattle.beliefs.specs.Trace as trace
use Rattle.beliefs.specs.Trace.{by_newest, below}
use Rattle.beliefs.specs.Engine.{acts, Serve}
use Rattle.beliefs.proofs.Engine.{newest, Mirrors, done_mirrors, acts_mirror, served_by}
use Rattle.beliefs.proofs.Granted.{start_lt}
use Rattle.beliefs.proofs.Lists.{zeros}
use Rattle.beliefs.proofs.Policy.{Ranges, ranges, in_word}
use Rattle.walk.specs.Layout.{depth, frame_at, frames_at, frames, put}
use Rattle.walk.specs.Does.{remarked, marked_in, new_frame, returned_in, does}
use Rattle.walk.specs.Pictures.{Sound, Used, Pictures, by_walk}
use Rattle.walk.proofs.Frames.{length_put, put_frame, put_others, put_depth, set_depth, frames_at_same}
use Rattle.walk.proofs.Fits.{Besides, used_after, free_after}
use Rattle.walk.proofs.Agree.{agree, enable_sound, disable_sound, revert_sound, call_sound}

-- a fresh state, all zeros, pictures the stack with no frame
pub fresh : (p : Policy) → Pictures p (replicate 190 0) []
unfolding frame_at
fresh p = record {
  room = omega arith;
  deep = refl;
  same = refl;
  coherent = tt;
  used = λ j l. absurd (omega arith);
  above = λ j l m i. record { signer = zeros 190 (3 * j + 1) i; enabled = zeros 190 (3 * j + 2) i; disabled = zeros 190 (3 * j + 3) i };
}

-- the depth of a state that pictures a stack
pub high : (p : Policy) (s : List ℕ) (st : Stack) → Pictures p s st → depth s ≡ length st
high p s st h = let a : length st ≤ 63 = h.room in let b : get_or s 0 0 ≡ length st = h.deep in omega arith

-- the newest frame of a state that pictures a stack, and the frames below it
pub record Newest (s : List ℕ) (f : Frame) (r : Stack) : Type 0 where
  pub top : frame_at s (length r) ≡ marked f
  pub rest : frames_at s (length r) ≡ map marked r

on_top : (p : Policy) (s : List ℕ) (f : Frame) (r : Stack) → Pictures p s (f ∷ r) → Newest s f r
on_top p s f r h =
    let e : (frame_at s (length r) ∷ frames_at s (length r)) ≡ (marked f ∷ map marked r) = ap (λ (n : ℕ). frames_at s n) (sym (high p s (f ∷ r) h)) ∙ h.same in
    record { top = cc; rest = cc }

-- a frame stored above k others, which stay, and the depth said anew
module _ (s : List ℕ) (long : length s ≡ 190) (k : ℕ) (m : Marked) (n : ℕ) where
  said_depth : get_or (set (put s k m) 0 n) 0 0 ≡ n
  said_depth = get_or-set_same (put s k m) 0 n 0 (omega (arith, length_put s k m))

  said_others : (j : ℕ) → j ≢ k → frame_at (set (put s k m) 0 n) j ≡ frame_at s j
  said_others j o = set_depth (put s k m) n j ∙ put_others s k m j o

  said_frame : k < 63 → frame_at (set (put s k m) 0 n) k ≡ m
  said_frame l = set_depth (put s k m) n k ∙ put_frame s k m long l

  said_below : frames_at (set (put s k m) 0 n) k ≡ frames_at s k
  said_below = frames_at_same s (set (put s k m) 0 n) k (λ j l. said_others j (omega arith))

module _ (p : Policy) (s : List ℕ) (long : length s ≡ 190) (ok : Ranges p) where
  -- call: a new frame above the others
  new_frame_lem : (g : ℕ) (st : Stack) → new_frame p g (length st) ≡ marked (called p g st)
  unfolding called
  new_frame_lem g [] = refl
  new_frame_lem g (f ∷ r) = rw (ne_eqb (length (f ∷ r)) 0 (omega arith))

  new_used : (g : ℕ) → g < signers p → (st : Stack) → Used p (marked (called p g st))
  unfolding called
  new_used g l [] = record { signer = l; enabled = start_lt p ok.targets_most; disabled = pow_pos (targets p) }
  new_used g l (f ∷ r) = record { signer = l; enabled = pow_pos (targets p); disabled = pow_pos (targets p) }

  -- the new frame m stands above k others, and the depth is n
  call_kept : (g k n : ℕ) (m : Marked) → g < signers p → (st : Stack) → k ≡ length st → n ≡ suc (length st) → m ≡ marked (called p g st) → Pictures p s st
      → length st < 63
      → Pictures p (set (put s k m) 0 n) (called p g st ∷ st)
  call_kept g k n m known st e e' is h l =
      let s' : List ℕ = set (put s k m) 0 n in
      let d : depth s ≡ length st = high p s st h in
      let deep' : get_or s' 0 0 ≡ suc (length st) = said_depth s long k m n ∙ e' in
      let d' : depth s' ≡ suc k = omega arith in
      let top' : frame_at s' k ≡ marked (called p g st) = said_frame s long k m n (omega arith) ∙ is in
      let others : Besides s s' k (length st) (suc (length st)) = record {
        same = said_others s long k m n;
        low = λ j o l. omega arith;
        high = λ j o l. omega arith;
      } in
      let below' : frames_at s' k ≡ map marked st = said_below s long k m n ∙ ap (λ (n : ℕ). frames_at s n) (e ∙ sym d) ∙ h.same in
      record {
        room = l;
        deep = deep';
        same = ap (λ (n : ℕ). frames_at s' n) d' ∙ ap₂ (λ (x : Marked) (xs : List Marked). x ∷ xs) top' below';
        coherent = (call_sound p g st ok.targets_most, h.coherent);
        used = used_after p others h.used (λ _. rw top' (new_used g known st));
        above = free_after p others h.above (λ past. absurd (omega arith));
      }

  -- return: zeros in the newest frame's place, above k others, and the depth n
  return_kept : (k n : ℕ) (f : Frame) (r : Stack) → k ≡ length r → n ≡ length r → Pictures p s (f ∷ r) → Pictures p (set (put s k nobody) 0 n) r
  return_kept k n f r e e' h =
      let s' : List ℕ = set (put s k nobody) 0 n in
      let room : suc (length r) ≤ 63 = h.room in
      let d : depth s ≡ suc (length r) = high p s (f ∷ r) h in
      let deep' : get_or s' 0 0 ≡ n = said_depth s long k nobody n in
      let d' : depth s' ≡ k = omega arith in
      let others : Besides s s' k (suc (length r)) (length r) = record {
        same = said_others s long k nobody n;
        low = λ j o l. omega arith;
        high = λ j o l. omega arith;
      } in
      record {
        room = omega arith;
        deep = deep' ∙ e';
        same = ap (λ (j : ℕ). frames_at s' j) d' ∙ said_below s long k nobody n ∙ ap (λ (j : ℕ). frames_at s j) e ∙ (on_top p s f r h).rest;
        coherent = h.coherent.1;
        used = used_after p others h.used (λ below. absurd (omega arith));
        above = free_after p others h.above (λ _. said_frame s long k nobody n (omega arith));
      }

  -- enable, disable, revert: the newest frame with other marks
  mark_kept : (op : Operation) (f g : Frame) (r : Stack) → remarked op (marked f) ≡ marked g → (Used p (marked f) → Used p (marked g)) → Sound p g r
      → Pictures p s (f ∷ r)
      → Pictures p (put s (depth s - 1) (remarked op (frame_at s (depth s - 1)))) (g ∷ r)
  mark_kept op f g r e used sound h =
      let k : ℕ = length r in
      let m : Marked = marked g in
      let room : suc k ≤ 63 = h.room in
      let high' : depth s ≡ suc k = high p s (f ∷ r) h in
      let d : depth s - 1 ≡ k = omega arith in
      let top : frame_at s k ≡ marked f = (on_top p s f r h).top in
      let m' : remarked op (frame_at s k) ≡ m = ap (remarked op) top ∙ e in
      let s' : List ℕ = put s k m in
      let deep' : get_or s' 0 0 ≡ suc k = put_depth s k m ∙ h.deep in
      let d' : depth s' ≡ suc k = omega arith in
      let top' : frame_at s' k ≡ m = put_frame s k m long (omega arith) in
      let others : Besides s s' k (suc k) (suc k) = record { same = put_others s k m; low = λ j o l. l; high = λ j o l. l } in
      rw (d, m') (record {
        room = room;
        deep = deep';
        same = ap (λ (n : ℕ). frames_at s' n) d'
            ∙ ap₂ (λ (x : Marked) (xs : List Marked). x ∷ xs) top' (frames_at_same s s' k (λ j l. put_others s k m j (omega arith)) ∙ (on_top p s f r h).rest);
        coherent = (sound, h.coherent.1);
        used = used_after p others h.used (λ _. rw top' (used (rw top at (h.used k (omega arith)))));
        above = free_after p others h.above (λ past. absurd (omega arith));
      })

  -- marks for a target of the policy
  enable_used : (t : ℕ) → t < targets p → (f : Frame) → Used p (marked f) → Used p (marked (enable t f))
  unfolding enable
  enable_used t l f u = record { signer = u.signer; enabled = with_lt (targets p) f.enabled t u.enabled l; disabled = u.disabled }

  disable_used : (t : ℕ) → t < targets p → (f : Frame) → Used p (marked f) → Used p (marked (disable t f))
  unfolding disable
  disable_used t l f u = record {
    signer = u.signer;
    enabled = without_lt (targets p) f.enabled t u.enabled;
    disabled = with_lt (targets p) f.disabled t u.disabled l;
  }

  revert_used : (t : ℕ) (f : Frame) → Used p (marked f) → Used p (marked (revert t f))
  unfolding revert
  revert_used t f u = record { signer = u.signer; enabled = without_lt (targets p) f.enabled t u.enabled; disabled = u.disabled }

  -- the walk's verdict and count
  seen : (t : ℕ) (st : Stack) → Pictures p s st → walk p t (frames s) ≡ record { granted = granted p t st; looked = (walk p t (map marked st)).looked }
  seen t st h = ap (walk p t) h.same ∙ λ i. record { granted = sym (agree p t st h.coherent) i; looked = (walk p t (map marked st)).looked }

  -- enable, disable and revert by the newest frame of a stack that has one
  by_newest_lem : (op : Operation) (g : Frame → Frame) → ((f : Frame) (r : Stack) → Pictures p s (f ∷ r) → Pictures p (marked_in op s) (g f ∷ r))
      → (st : Stack) → framed (length st) ≡ 0 → Pictures p s st → Mirrors by_walk p (done (marked_in op s)) (done (by_newest g st))
  by_newest_lem op g kept st z h =
      newest (λ st. Pictures p s st → Mirrors by_walk p (done (marked_in op s)) (done (by_newest g st))) st z (λ f r k. done_mirrors by_walk p (kept f r k)) h

  does_mirrors : (op : Operation) → outside_of p op ≡ 0 → (st : Stack) → Pictures p s st → barred (length st) op ≡ 0
      → Mirrors by_walk p (does p op s) (trace.does true p op st)
  unfolding trace.does outside barred enable disable revert
  does_mirrors (Call g) i st h z =
      let d : depth s ≡ length st = high p s st h in
      done_mirrors by_walk p (call_kept g _ _ _ (signer_below (signers p) (targets p) g i) st d (omega arith) (ap (new_frame p g) d ∙ new_frame_lem g st) h
      (room_above (length st) g z))
  does_mirrors Return i st h z =
      newest (λ st. Pictures p s st → Mirrors by_walk p (done (returned_in s)) (done (below st))) st z
      (λ f r k. let d : depth s ≡ suc (length r) = high p s (f ∷ r) k in done_mirrors by_walk p (return_kept _ _ f r (omega arith) (omega arith) k)) h
  does_mirrors (Enable t) i st h z =
      let l : t < targets p = target_below (targets p) t i in
      by_newest_lem (Enable t) (enable t)
      (λ f r k. mark_kept (Enable t) f (enable t f) r refl (enable_used t l f) (enable_sound p t f r k.coherent.0 (in_word p ok t l)) k) st z h
  does_mirrors (Disable t) i st h z =
      let l : t < targets p = target_below (targets p) t i in
      by_newest_lem (Disable t) (disable t)
      (λ f r k. mark_kept (Disable t) f (disable t f) r refl (disable_used t l f) (disable_sound p t f r k.coherent.0 (in_word p ok t l)) k) st z h
  does_mirrors (Revert t) i st h z =
      by_newest_lem (Revert t) (revert t) (λ f r k. mark_kept (Revert t) f (revert t f) r refl (revert_used t f) (revert_sound p t f r k.coherent.0) k) st z h
  does_mirrors (Check t) i st h z = record { number = refl; byte = ap (λ (v : Seen). verdict_byte v.granted v.looked) (seen t st h); states = h }

  pub simulate : (op : Operation) → outside_of p op ≡ 0 → (st : Stack) → Pictures p s st → Mirrors by_walk p (acts by_walk p op s) (trace.step true p op st)
  simulate op i st h = acts_mirror by_walk p op s st h (high p s st h) (does_mirrors op i st h)

-- what is exactly given serves the belief sets
pub served : (p : Policy) (s : List ℕ) → length s ≡ 190 → (op : Operation) (r : Answer) (left : List ℕ) → Gives r left (acts by_walk p op s)
    → Serve by_walk p s op r left
served p s long op r left g = served_by by_walk p s op r left g (fresh p) (λ v i st h. simulate p s long (ranges p v) op i st h)
