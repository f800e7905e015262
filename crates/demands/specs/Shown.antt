-- Demand 3 of a walk state and a target: what the checker of the C boundary accepts and what its writer writes, for a verdict and a number of frames looked at.
use Rattle.std.specs.Prelude.{◌≡◌, ◌↔◌, Bool, true, List, ℕ, ◌+◌, ◌*◌, ◌≤◌, length, take}
use Rattle.beliefs.specs.Policy.{Policy, Target}
use Rattle.beliefs.specs.Derivation.{ours}
use Rattle.policy.specs.Read.{Bytes}
use Rattle.demands.specs.Exported.{DerivationWrote, DerivationChecked}

pub record Settled (p : Policy) (s : List ℕ) (t : Target) (n : ℕ) (verdict : Bool) : Type 0 where
  -- some bytes are accepted exactly when the check is granted, whoever wrote them
  pub exactly : ((steps : List ℕ) × Bytes steps × ((figure : ℕ) × DerivationChecked p s t steps 0 figure)) ↔ (verdict ≡ true)
  -- where it is, ours are, whatever the checker returns of them: 3n + 1 bytes
  pub ours_accepted : verdict ≡ true → (number figure : ℕ) → DerivationChecked p s t (ours n) number figure → (number ≡ 0) × (figure ≡ 3 * n + 1)
  pub ours_count : length (ours n) ≡ 3 * n + 1
  pub ours_bytes : Bytes (ours n)
  -- and our writer, given room, writes them
  pub ours_written : verdict ≡ true → (lent : List ℕ) → 3 * n + 1 ≤ length lent → (number figure : ℕ) (left : List ℕ)
      → DerivationWrote p s t lent number figure left
      → (number ≡ 0) × (figure ≡ 3 * n + 1) × (take figure left ≡ ours n)
  -- none that are accepted are fewer
  pub none_shorter : (steps : List ℕ) (figure : ℕ) → DerivationChecked p s t steps 0 figure → 3 * n + 1 ≤ length steps
  -- the figure of accepted steps is their number
  pub figure : (steps : List ℕ) (figure : ℕ) → DerivationChecked p s t steps 0 figure → figure ≡ length steps
