-- What number 13 leaves: a valid policy's ranges and rows, and back. Assumes nothing.
use mathlib.Core.Path.{◌≡◌, refl, sym, ◌∙◌}
use mathlib.Core.Bool.{Bool, true, false, ◌&&◌}
use mathlib.Core.Logic.{◌≢◌}
use Prim.Native.Nat.{ℕ, ◌≤◌, ◌<◌}
use native.Mathlib.Decide.{dec_lt}
use native.Mathlib.Omega.{arith}
use lib.Dec.{leb}
use lib.ListN.{length, get_or-eq_default}
use borrow.Author.Tests.{leb-true, le-leb, lt-ltb, le-ltb, eqb-true, eq-eqb}
use Rattle.bits.specs.Bit.{below}
use Rattle.answers.specs.Numbers.{bad_policy, bad_state, unless, first}
use Rattle.answers.proofs.Numbers.{held, neither, stopped}
use Rattle.beliefs.specs.Lists.{each}
use Rattle.beliefs.specs.Policy.{Policy, Target, start, signers, targets, row, within, row_fits, valid, refusal, refusal_in}
use Rattle.beliefs.proofs.Lists.{each_at}

pub record Ranges (p : Policy) : Type 0 where
  pub start_most : start p ≤ 1
  pub signers_least : 1 ≤ signers p
  pub signers_most : signers p ≤ 32
  pub targets_least : 1 ≤ targets p
  pub targets_most : targets p ≤ 64
  pub rows_fit : each (row_fits p) 32 ≡ true

pub both : (a : Bool) {b : Bool} → (a && b) ≡ true → (a ≡ true) × (b ≡ true)
both true h = (refl, h)
both false h = (h, cc)

pub in_within : (n most : ℕ) → within n most ≡ true → (1 ≤ n) × (n ≤ most)
in_within n most h = let w = both (leb 1 n) h in (leb-true 1 n w.0, leb-true n most w.1)

pub ranges : (p : Policy) → valid p ≡ true → Ranges p
unfolding valid
ranges p h =
    let a = both (leb (start p) 1) h in
    let b = both (within (signers p) 32) a.1 in
    let c = both (within (targets p) 64) b.1 in
    let s = in_within (signers p) 32 b.0 in
    let t = in_within (targets p) 64 c.0 in
    record {
      start_most = leb-true (start p) 1 a.0;
      signers_least = s.0;
      signers_most = s.1;
      targets_least = t.0;
      targets_most = t.1;
      rows_fit = c.1;
    }

-- a target of the policy has a bit in a word
pub in_word : (p : Policy) → Ranges p → (t : Target) → t < targets p → t < 64
in_word p r t h = omega (arith, r.targets_most)

pub ranges_valid : (p : Policy) → Ranges p → valid p ≡ true
unfolding valid
ranges_valid p r =
    rw (
      le-leb _ _ r.start_most,
      le-leb _ _ r.signers_least,
      le-leb _ _ r.signers_most,
      le-leb _ _ r.targets_least,
      le-leb _ _ r.targets_most,
    ) r.rows_fit

-- below S a row has no bit at N or above, and from S on it has none
module _ (p : Policy) (r : Ranges p) (s : ℕ) where
  fits_here : s < 32 → row_fits p s ≡ true
  fits_here l = each_at (row_fits p) 32 r.rows_fit s l

  pub row_below : s < signers p → below (row p s) (targets p) ≡ true
  unfolding row_fits
  row_below l = rw (lt-ltb s (signers p) l) at (fits_here (omega arith))

  pub row_none : length p ≡ 35 → signers p ≤ s → row p s ≡ 0
  unfolding row_fits
  row_none e l = go (dec_lt s 32)
    where
      go : Dec (s < 32) → row p s ≡ 0
      go (yes h) = eqb-true _ _ (rw (le-ltb s (signers p) l) at (fits_here h))
      go (no h) = get_or-eq_default p 0 (omega arith)

-- what the front door lets through
pub let_in : (p : Policy) → refusal p ≡ 0 → valid p ≡ true
unfolding refusal
let_in p h = held (valid p) 12 h

pub let_in_with : (p : Policy) (fits : Bool) → refusal_in p fits ≡ 0 → (valid p ≡ true) × (fits ≡ true)
let_in_with p fits h = let both = neither (refusal p) _ h in (let_in p both.0, held fits 13 both.1)

-- 13 comes first, then 14
pub refused_first : (p : Policy) (fits : Bool) (n : ℕ) → n ≡ refusal p → n ≢ 0 → n ≡ refusal_in p fits
refused_first p fits n e nz = e ∙ sym (stopped (refusal p) _ (λ z. nz (e ∙ z)))

pub refused_then : (p : Policy) (fits : Bool) → refusal p ≡ 0 → fits ≡ false → bad_state ≡ refusal_in p fits
refused_then p fits z f = rw (eq-eqb _ 0 z, f)

-- what it refuses it refuses by 13 or 14
pub refused_by_lem : (p : Policy) (fits : Bool) (n : ℕ) → n ≡ refusal_in p fits → n ≢ bad_policy → n ≢ bad_state → (valid p ≡ true) × (fits ≡ true)
unfolding refusal
refused_by_lem p fits n = go (valid p) fits
  where
    go : (v f : Bool) → n ≡ first (unless v bad_policy) (unless f bad_state) → n ≢ bad_policy → n ≢ bad_state → (v ≡ true) × (f ≡ true)
    go true true e no_13 no_14 = (refl, refl)
    go true false e no_13 no_14 = absurd (no_14 e)
    go false f e no_13 no_14 = absurd (no_13 e)

-- and what it does not refuse
pub not_refused : (p : Policy) → valid p ≡ true → refusal p ≡ 0
unfolding refusal
not_refused p v = rw v

pub not_refused_with : (p : Policy) (fits : Bool) → valid p ≡ true → fits ≡ true → refusal_in p fits ≡ 0
not_refused_with p fits v f = rw (eq-eqb _ _ (not_refused p v), f)
