-- Where the walk grants, its deciding frame is one that a chain may end at, and the first such; where a chain may end at a frame with every frame of it
-- permitted, the walk grants there or before. Assumes nothing.
use mathlib.Core.Path.{◌≡◌, refl, sym}
use mathlib.Core.Bool.{Bool, true, false, cond, not, ◌&&◌}
use mathlib.Core.List.{List, [], ◌∷◌}
use Prim.Native.Nat.{ℕ, zero, suc, ◌-◌, ◌≤◌, ◌<◌}
use native.Mathlib.Omega.{arith}
use lib.Dec.{leb}
use lib.ListN.{length, get_or, take}
use borrow.Author.Tests.{leb-true, le-leb}
use Rattle.bits.specs.Bit.{bit}
use Rattle.bits.proofs.Laws.{never}
use Rattle.beliefs.specs.declared.Marked.{Marked}
use Rattle.beliefs.specs.declared.Seen.{Seen}
use Rattle.beliefs.specs.Lists.{all}
use Rattle.beliefs.specs.Policy.{permits}
use Rattle.beliefs.specs.Stack.{nobody, walk, decides, goes_on}
use Rattle.beliefs.specs.Derivation.{may_take}
use Rattle.beliefs.proofs.Policy.{both}

-- every one of these frames has a signer permitted T
abbrev pub speak : List ℕ → ℕ → List Marked → Bool
speak p t ms = all (λ (m : Marked). permits p m.signer t) ms

-- a take of n may be made, and every frame of it is permitted
pub record Stands (p : List ℕ) (t : ℕ) (ms : List Marked) (n : ℕ) : Type 0 where
  pub may : may_take t n ms ≡ true
  pub permitted : speak p t (take n ms) ≡ true

-- the same in parts, with k frames before the enabled one
record At (p : List ℕ) (t : ℕ) (ms : List Marked) (k : ℕ) : Type 0 where
  within : k < length ms
  enabled : bit (get_or ms k nobody).enabled t ≡ true
  clear : all (λ (m : Marked). not (bit m.disabled t)) (take k ms) ≡ true
  permitted : speak p t (take (suc k) ms) ≡ true

one_less : (k : ℕ) → suc k - 1 ≡ k
one_less k = omega arith

pub may_within : (t : ℕ) (ms : List Marked) (n : ℕ) → may_take t n ms ≡ true → (1 ≤ n) × (n ≤ length ms)
unfolding may_take
may_within t ms n h =
    let a = both (leb 1 n) (both (leb 1 n && leb n (length ms)) h).0 in
    (leb-true _ _ a.0, leb-true _ _ a.1)

-- the walk grants, with at most n frames looked at
pub record Granted (v : Seen) (n : ℕ) : Type 0 where
  pub granted : v.granted ≡ true
  pub looked : v.looked ≤ n

not-false : (d : Bool) → not d ≡ true → d ≡ false
not-false true h = never (sym h)
not-false false h = refl

module _ (p : List ℕ) (t : ℕ) where
  parts : (ms : List Marked) (k : ℕ) → Stands p t ms (suc k) → At p t ms k
  unfolding may_take
  parts ms k h =
      let a = both (leb 1 (suc k) && leb (suc k) (length ms)) h.may in
      let b = both (bit (get_or ms (suc k - 1) nobody).enabled t) a.1 in
      record {
        within = (may_within t ms (suc k) h.may).1;
        enabled = rw (one_less k) at b.0;
        clear = rw (one_less k) at b.1;
        permitted = h.permitted;
      }

  whole : (ms : List Marked) (k : ℕ) → At p t ms k → Stands p t ms (suc k)
  unfolding may_take
  whole ms k h = record {
    may = rw (le-leb 1 (suc k) (omega arith), le-leb (suc k) (length ms) h.within, one_less k, h.enabled, h.clear);
    permitted = h.permitted;
  }

  -- one frame more, newer than those of a take; and one less
  more : (m : Marked) (ms : List Marked) (n : ℕ) → permits p m.signer t ≡ true → bit m.disabled t ≡ false → Stands p t ms n → Stands p t (m ∷ ms) (suc n)
  more m ms zero q d h = let a = may_within t ms 0 h.may in absurd (omega arith)
  more m ms (suc k) q d h =
      let a = parts ms k h in
      whole (m ∷ ms) (suc k) (record { within = omega arith; enabled = a.enabled; clear = rw (d, a.clear); permitted = rw (q, a.permitted) })

  less : (m : Marked) (ms : List Marked) (k : ℕ) → Stands p t (m ∷ ms) (suc (suc k)) → (bit m.disabled t ≡ false) × Stands p t ms (suc k)
  less m ms k h =
      let a = parts (m ∷ ms) (suc k) h in
      let c = both (not (bit m.disabled t)) a.clear in (
        not-false _ c.0,
        whole ms k (record {
          within = omega arith;
          enabled = a.enabled;
          clear = c.1;
          permitted = (both (permits p m.signer t) a.permitted).1;
        }),
      )

  -- where the walk grants, a take of the frames looked at may be made, and every frame of it is permitted
  pub granted_stands : (ms : List Marked) → (walk p t ms).granted ≡ true → Stands p t ms (walk p t ms).looked
  unfolding walk
  granted_stands [] h = never (sym h)
  granted_stands (m ∷ ms) h = go (permits p m.signer t) refl (bit m.enabled t) refl (bit m.disabled t) refl (granted_stands ms) h
    where
      go : (q : Bool) → permits p m.signer t ≡ q → (e : Bool) → bit m.enabled t ≡ e → (d : Bool) → bit m.disabled t ≡ d
          → ((walk p t ms).granted ≡ true → Stands p t ms (walk p t ms).looked)
          → (cond q (cond e (decides true) (cond d (decides false) (goes_on (walk p t ms)))) (decides false)).granted ≡ true
          → Stands p t (m ∷ ms) (cond q (cond e (decides true) (cond d (decides false) (goes_on (walk p t ms)))) (decides false)).looked
      go false q e qe d qd below g = never (sym g)
      go true q true qe d qd below g = whole (m ∷ ms) 0 (record { within = omega arith; enabled = qe; clear = refl; permitted = rw q })
      go true q false qe true qd below g = never (sym g)
      go true q false qe false qd below g = more m ms (walk p t ms).looked q qd (below g)

  -- where such a take may be made, the walk grants, and looks at no more frames
  pub stands_granted : (ms : List Marked) (n : ℕ) → Stands p t ms n → Granted (walk p t ms) n
  unfolding walk
  stands_granted [] n h = let a = may_within t [] n h.may in absurd (omega arith)
  stands_granted (m ∷ ms) zero h = let a = may_within t (m ∷ ms) 0 h.may in absurd (omega arith)
  stands_granted (m ∷ ms) (suc zero) h =
      let a = parts (m ∷ ms) 0 h in
      rw ((both (permits p m.signer t) h.permitted).0, a.enabled) (record { granted = refl; looked = omega arith })
  stands_granted (m ∷ ms) (suc (suc k)) h =
      rw ((both (permits p m.signer t) h.permitted).0, (less m ms k h).0)
      (go (bit m.enabled t) (walk p t ms) (stands_granted ms (suc k) (less m ms k h).1))
    where
      go : (e : Bool) (v : Seen) → Granted v (suc k) → Granted (cond e (decides true) (goes_on v)) (suc (suc k))
      go true v b = record { granted = refl; looked = omega arith }
      go false v b = record { granted = b.granted; looked = omega arith }
