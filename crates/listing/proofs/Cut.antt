-- The policy's bytes are bytes of the input. Assumes nothing.
use mathlib.Core.Path.{◌≡◌, refl}
use mathlib.Core.Bool.{Bool, true, false, cond}
use mathlib.Core.List.{List}
use Prim.Native.Nat.{ℕ, ◌≤◌}
use native.Mathlib.Omega.{arith}
use lib.Dec.{ltb}
use lib.ListN.{length}
use borrow.Author.Tests.{ltb-true}
use Rattle.beliefs.specs.Policy.{header, head_signers, head_targets, size}
use Rattle.policy.specs.Read.{least, cut_at}

least_right : (a b : ℕ) → least a b ≤ b
least_right a b = go (ltb a b) refl
  where
    go : (e : Bool) → ltb a b ≡ e → cond e a b ≤ b
    go true q = omega (arith, ltb-true a b q)
    go false q = omega arith

pub cut_most : (bs : List ℕ) → cut_at bs ≤ length bs
unfolding cut_at
cut_most bs = go (ltb (length bs) 2) (least_right (size (head_signers (header bs)) (head_targets (header bs))) (length bs))
  where
    go : (e : Bool) {m : ℕ} → m ≤ length bs → cond e (length bs) m ≤ length bs
    go true h = omega arith
    go false h = h
