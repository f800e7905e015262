-- Number 14 for a passed state: which four words a policy lets through.
use Rattle.std.specs.Prelude.{Bool, cond, ◌&&◌, ℕ, eqb, ltb, leb}
use Rattle.bits.specs.Bit.{below}
use Rattle.beliefs.specs.Policy.{Policy, signers, targets}
use Rattle.passed.specs.declared.Passed.{Passed}

-- nothing but zero beside the depth
abbrev pub nothing_in : Passed → Bool
nothing_in s = eqb s.signer 0 && (eqb s.own 0 && eqb s.callers 0)

-- no bit for a target at N or above; at depth 1, where a belief has the empty chain only, none of the callers
abbrev pub bits_fit : Passed → ℕ → Bool
bits_fit s n = below s.own n && cond (eqb s.depth 1) (eqb s.callers 0) (below s.callers n)

-- at depth 0 nothing but zero; else depth 63 at most, a signer below S, and bits that fit
unfoldable pub fits : Policy → Passed → Bool
fits p s = cond (eqb s.depth 0) (nothing_in s) (leb s.depth 63 && (ltb s.signer (signers p) && bits_fit s (targets p)))
