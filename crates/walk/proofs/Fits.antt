-- Number 14's tests of a walk state: marks together, and the room above the depth as one run of words; and what keeps it from refusing. Assumes nothing.
use mathlib.Core.Path.{◌≡◌, refl, sym, ap, ap₂, ◌∙◌}
use mathlib.Core.Bool.{Bool, true, false, ◌&&◌, and_assoc}
use mathlib.Core.Logic.{◌≢◌}
use mathlib.Core.List.{List}
use Prim.Native.Nat.{ℕ, zero, suc, ◌+◌, ◌-◌, ◌*◌, ◌^◌, ◌≤◌, ◌<◌}
use native.Mathlib.Numerals.{add-one}
use native.Mathlib.Omega.{arith}
use lib.Bits.{bit_or}
use lib.Dec.{eqb, ltb, leb}
use lib.ListN.{length, get_or, take, drop}
use borrow.Author.Tests.{lt-ltb, le-ltb, le-leb, ltb-true, leb-true, eqb-true, eqb-false}
use Rattle.bits.specs.Bit.{below, all_below}
use Rattle.bits.proofs.Laws.{below_none, below_nothing, below_or}
use Rattle.beliefs.specs.Lists.{each}
use Rattle.beliefs.specs.Policy.{signers, targets}
use Rattle.beliefs.specs.Stack.{Frame, nobody}
use Rattle.beliefs.proofs.Lists.{each_ext, each_false, each_at, each_of, part_below}
use Rattle.beliefs.proofs.Policy.{both}
use Rattle.walk.specs.Layout.{depth, frame_at}
use Rattle.walk.specs.Fits.{in_use, unused, fits}
use Rattle.walk.specs.Pictures.{Used, Pictures}

-- frames in use, one more at each turn, with the marks of those before it together
module _ (p s : List ℕ) where
  pub none_in_use : each (in_use p s) 0 ≡ below 0 (targets p)
  unfolding each
  none_in_use = sym (below_nothing (targets p))

  pub one_in_use : (k marks : ℕ) → each (in_use p s) k ≡ below marks (targets p) → (frame_at s k).signer < signers p
      → each (in_use p s) (k + 1) ≡ below (bit_or marks (bit_or (frame_at s k).enabled (frame_at s k).disabled)) (targets p)
  unfolding each in_use
  one_in_use k marks h l =
      rw (
        add-one,
        h,
        lt-ltb _ _ l,
        below_or marks (bit_or (frame_at s k).enabled (frame_at s k).disabled) (targets p),
        below_or (frame_at s k).enabled (frame_at s k).disabled (targets p),
      )

  pub not_in_use : (k : ℕ) → signers p ≤ (frame_at s k).signer → in_use p s k ≡ false
  unfolding in_use
  not_in_use k l = rw (le-ltb _ _ l)

  pub one_not_in_use : (k d : ℕ) → k < d → signers p ≤ (frame_at s k).signer → false ≡ each (in_use p s) d
  one_not_in_use k d l bad = sym (each_false (in_use p s) d k l (not_in_use k bad))

-- three words to a frame
each_three : (f : ℕ → Bool) (n : ℕ) → each f (3 * n) ≡ each (λ k. f (3 * k) && (f (3 * k + 1) && f (3 * k + 2))) n
unfolding each
each_three f zero = refl
each_three f (suc n) =
    let m : ℕ = 3 * n in
    let up : 3 * suc n ≡ suc (suc (suc m)) = omega arith in
    let one : m + 1 ≡ suc m = omega arith in
    let two : m + 2 ≡ suc (suc m) = omega arith in
    ap (each f) up
    ∙ ap (λ (x : Bool). ((x && f m) && f (suc m)) && f (suc (suc m))) (each_three f n)
    ∙ rw (one, two) (and_assoc (each _ n && f m) (f (suc m)) (f (suc (suc m))) ∙ and_assoc (each _ n) (f m) (f (suc m) && f (suc (suc m))))

-- the frames from d on are the words from 3 d + 1 on
pub room_above : (s : List ℕ) (d : ℕ) → length s ≡ 190 → d ≤ 63
    → all_below (take (190 - (3 * d + 1)) (drop (3 * d + 1) s)) 0 ≡ each (λ k. unused s (d + k)) (63 - d)
unfolding unused frame_at
room_above s d long few =
    let at : ℕ = 3 * d + 1 in
    let words : 190 - at ≡ 3 * (63 - d) = omega arith in
    part_below s at (190 - at) 0 (omega arith)
    ∙ ap (each (λ i. below (get_or s (at + i) 0) 0)) words
    ∙ each_three (λ i. below (get_or s (at + i) 0) 0) (63 - d)
    ∙ each_ext _ (λ k. unused s (d + k)) (63 - d) (λ k l. three k)
  where
    word : (i j : ℕ) → i ≡ j → below (get_or s i 0) 0 ≡ eqb (get_or s j 0) 0
    word i j e = ap (λ (k : ℕ). below (get_or s k 0) 0) e ∙ below_none (get_or s j 0)

    three : (k : ℕ) → (below (get_or s (3 * d + 1 + 3 * k) 0) 0 &&
        (below (get_or s (3 * d + 1 + (3 * k + 1)) 0) 0 && below (get_or s (3 * d + 1 + (3 * k + 2)) 0) 0)) ≡ unused s (d + k)
    three k =
        ap₂ (λ (x y : Bool). x && y) (word _ (3 * (d + k) + 1) (omega arith))
        (ap₂ (λ (x y : Bool). x && y) (word _ (3 * (d + k) + 2) (omega arith)) (word _ (3 * (d + k) + 3) (omega arith)))

-- what number 14 lets through, frame by frame
pub record Fitting (p s : List ℕ) : Type 0 where
  pub few : get_or s 0 0 ≤ 63
  pub used : (j : ℕ) → j < depth s → Used p (frame_at s j)
  pub free : (j : ℕ) → depth s ≤ j → j < 63 → frame_at s j ≡ nobody

module _ (p s : List ℕ) where
  use_of : (j : ℕ) → in_use p s j ≡ true → Used p (frame_at s j)
  unfolding in_use below
  use_of j h =
      let a = both (ltb (frame_at s j).signer (signers p)) h in
      let b = both (ltb (frame_at s j).enabled (2 ^ targets p)) a.1 in
      record { signer = ltb-true _ _ a.0; enabled = ltb-true _ _ b.0; disabled = ltb-true _ _ b.1 }

  in_use_lem : (j : ℕ) → Used p (frame_at s j) → in_use p s j ≡ true
  unfolding in_use below
  in_use_lem j u = rw (lt-ltb _ _ u.signer, lt-ltb _ _ u.enabled, lt-ltb _ _ u.disabled)

  free_of : (j : ℕ) → unused s j ≡ true → frame_at s j ≡ nobody
  unfolding unused
  free_of j h =
      let a = both (eqb (frame_at s j).signer 0) h in
      let b = both (eqb (frame_at s j).enabled 0) a.1 in
      let no_signer : (frame_at s j).signer ≡ 0 = eqb-true _ 0 a.0 in
      let none_enabled : (frame_at s j).enabled ≡ 0 = eqb-true _ 0 b.0 in
      let none_disabled : (frame_at s j).disabled ≡ 0 = eqb-true _ 0 b.1 in
      λ i. record { signer = no_signer i; enabled = none_enabled i; disabled = none_disabled i }

  is_free : (j : ℕ) → frame_at s j ≡ nobody → unused s j ≡ true
  unfolding unused
  is_free j e = rw e

  pub fitting : fits p s ≡ true → Fitting p s
  unfolding fits
  fitting h =
      let a = both (leb (get_or s 0 0) 63) h in
      let b = both (each (in_use p s) (depth s)) a.1 in
      record {
        few = leb-true _ _ a.0;
        used = λ j l. use_of j (each_at (in_use p s) (depth s) b.0 j l);
        free = λ j l m.
            let e : depth s + (j - depth s) ≡ j = omega arith in
            free_of j (rw e at (each_at (λ k. unused s (depth s + k)) (63 - depth s) b.1 (j - depth s) (omega arith)));
      }

  pub fitted : Fitting p s → fits p s ≡ true
  unfolding fits
  fitted h = rw (
    le-leb (get_or s 0 0) 63 h.few,
    each_of (in_use p s) (depth s) (λ j l. in_use_lem j (h.used j l)),
    each_of (λ k. unused s (depth s + k)) (63 - depth s) (λ k l. is_free (depth s + k) (h.free (depth s + k) (omega arith) (omega arith))),
  )

-- so a state that pictures a stack is let through
pub pictured_fits : (p s : List ℕ) (st : List Frame) → Pictures p s st → fits p s ≡ true
pictured_fits p s st h =
    let deep : depth s ≡ length st = omega (arith, h.room, h.deep) in
    fitted p s (record { few = omega (arith, h.room, h.deep); used = λ j l. h.used j (omega arith); free = λ j l m. h.above j (omega arith) m })

-- another frame above k others, and another depth, n for d: but for that frame all stay, in use or free
pub record Besides (s s' : List ℕ) (k d n : ℕ) : Type 0 where
  pub same : (j : ℕ) → j ≢ k → frame_at s' j ≡ frame_at s j
  pub low : (j : ℕ) → j ≢ k → j < n → j < d
  pub high : (j : ℕ) → j ≢ k → n ≤ j → d ≤ j

module _ (p : List ℕ) {s s' : List ℕ} {k d n : ℕ} (others : Besides s s' k d n) where
  pub used_after : ((j : ℕ) → j < d → Used p (frame_at s j)) → (k < n → Used p (frame_at s' k)) → (j : ℕ) → j < n → Used p (frame_at s' j)
  used_after was here j l = go (eqb j k) refl
    where
      go : (e : Bool) → eqb j k ≡ e → Used p (frame_at s' j)
      go true q = let same : j ≡ k = eqb-true j k q in rw same (here (omega arith))
      go false q = let o : j ≢ k = eqb-false j k q in rw (others.same j o) (was j (others.low j o l))

  pub free_after : ((j : ℕ) → d ≤ j → j < 63 → frame_at s j ≡ nobody) → (n ≤ k → frame_at s' k ≡ nobody) → (j : ℕ) → n ≤ j → j < 63 → frame_at s' j ≡ nobody
  free_after was here j l m = go (eqb j k) refl
    where
      go : (e : Bool) → eqb j k ≡ e → frame_at s' j ≡ nobody
      go true q = let same : j ≡ k = eqb-true j k q in rw same (here (omega arith))
      go false q = let o : j ≢ k = eqb-false j k q in others.same j o ∙ was j (others.high j o l) m
