-- What a check has found where it ends: a frame that is not permitted, a length that is held, or the bottom. Assumes nothing.
use mathlib.Core.Path.{◌≡◌}
use mathlib.Core.Bool.{Bool, true, false, ◌&&◌, and-false}
use mathlib.Core.List.{List}
use Prim.Native.Nat.{ℕ, suc, ◌-◌, ◌<◌}
use native.Mathlib.Numerals.{add-one}
use native.Mathlib.Decide.{dec_lt}
use native.Mathlib.Omega.{arith}
use Rattle.bits.specs.Bit.{bit}
use Rattle.beliefs.specs.Policy.{Policy, Target, permits}
use Rattle.beliefs.proofs.Lists.{each_more, each_false}
use Rattle.record.specs.Layout.{depth, signer_at, held}
use Rattle.record.specs.Does.{newest_permitted, granted_in}
use Rattle.record.proofs.Below.{some_false, some_true}

-- the lengths below k were tried, none is held, and the k newest frames are permitted
module _ (p : Policy) (t : Target) (s : List ℕ) (k : ℕ) where
  abbrev permitted : Bool
  permitted = permits p (signer_at s (depth s - 1 - k)) t

  pub tried_barred : ((i : ℕ) → i < k → bit (held s t) i ≡ false) → permitted ≡ false → granted_in p t s ≡ false
  unfolding granted_in
  tried_barred none h = some_false (λ i. bit (held s t) i && newest_permitted p t s (suc i)) (depth s) (λ i l. go i (dec_lt i k))
    where
      go : (i : ℕ) → Dec (i < k) → (bit (held s t) i && newest_permitted p t s (suc i)) ≡ false
      go i (yes m) = rw (none i m)
      go i (no m) = rw (each_false (λ j. permits p (signer_at s (depth s - 1 - j)) t) (suc i) k (omega arith) h) (and-false (bit (held s t) i))

  pub tried_found : k < depth s → newest_permitted p t s k ≡ true → permitted ≡ true → bit (held s t) k ≡ true → granted_in p t s ≡ true
  unfolding granted_in
  tried_found l h e b =
      some_true (λ i. bit (held s t) i && newest_permitted p t s (suc i)) (depth s) k l
      (rw (b, ← add-one k) (each_more (λ j. permits p (signer_at s (depth s - 1 - j)) t) k h e))

pub tried_none : (p : Policy) (t : Target) (s : List ℕ) → ((i : ℕ) → i < depth s → bit (held s t) i ≡ false) → granted_in p t s ≡ false
unfolding granted_in
tried_none p t s none = some_false (λ i. bit (held s t) i && newest_permitted p t s (suc i)) (depth s) (λ i l. rw (none i l))
