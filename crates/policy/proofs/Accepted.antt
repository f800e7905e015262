-- What the numbers 1, 2 and 3 leave: the bytes that reading accepts, and back. Assumes nothing.
use mathlib.Core.Path.{◌≡◌}
use mathlib.Core.Bool.{true}
use mathlib.Core.List.{List}
use Prim.Native.Nat.{ℕ, ◌≤◌}
use native.Mathlib.Omega.{arith}
use lib.Dec.{eqb, ltb}
use lib.ListN.{length}
use borrow.Author.Tests.{le-ltb, ltb-false, eq-eqb, eqb-true}
use Rattle.bits.specs.Bit.{below}
use Rattle.beliefs.specs.Lists.{all}
use Rattle.beliefs.specs.Policy.{header, head_signers, head_targets, head_spare, size, rows_read, read_number}
use Rattle.answers.proofs.Numbers.{spared, met}

pub record Accepted (bs : List ℕ) : Type 0 where
  pub headed : 2 ≤ length bs
  pub spare : head_spare (header bs) ≡ 0
  pub whole : length bs ≡ size (head_signers (header bs)) (head_targets (header bs))
  pub clear : all (λ w. below w (head_targets (header bs))) (rows_read bs) ≡ true

pub accepted : (bs : List ℕ) → read_number bs ≡ 0 → Accepted bs
unfolding read_number
accepted bs h =
    let wanted = size (head_signers (header bs)) (head_targets (header bs)) in
    let a = spared (ltb (length bs) 2) 0 _ h in
    let b = met (eqb (head_spare (header bs)) 0) 2 _ a.1 in
    let c = spared (ltb (length bs) wanted) 0 _ b.1 in
    let d = spared (ltb wanted (length bs)) 1 _ c.1 in
    let e = met (all (λ w. below w (head_targets (header bs))) (rows_read bs)) 2 0 d.1 in
    record {
      headed = ltb-false _ _ a.0;
      spare = eqb-true _ _ b.0;
      whole = omega (arith, ltb-false (length bs) wanted c.0, ltb-false wanted (length bs) d.0);
      clear = e.0;
    }

pub accepted_number : (bs : List ℕ) → Accepted bs → read_number bs ≡ 0
unfolding read_number
accepted_number bs h =
    let wanted = size (head_signers (header bs)) (head_targets (header bs)) in
    rw (
      le-ltb _ _ h.headed,
      eq-eqb _ _ h.spare,
      le-ltb (length bs) wanted (omega arith),
      le-ltb wanted (length bs) (omega arith),
      h.clear,
    )
