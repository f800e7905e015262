-- The checker's chain: which entries of the definition's chain its two words stand for, over the frames newest first.
use Rattle.std.specs.Prelude.{◌≡◌, cond, List, [], ◌∷◌, ℕ, zero, suc, get_or, Some, None}
use Rattle.std.specs.Prelude as rattle
use Rattle.std.proofs.Math.Option.{Option, some, none}
use Rattle.bits.specs.Bit.{bit}
use Rattle.beliefs.specs.declared.Marked.{Marked}
use Rattle.beliefs.specs.Stack.{nobody}
use Rattle.beliefs.specs.Derivation.{Entry, frame, signer, target}
use Rattle.derivation.specs.declared.Chain.{Chain}

-- what the frame at place k has become, with the places that have spoken and those that are T
abbrev pub entry_at : List Marked → ℕ → ℕ → ℕ → Entry
entry_at ms spoken done k =
    cond (bit done k) target (cond (bit spoken k) (signer (get_or ms k nobody).signer) (frame (get_or ms k nobody).signer))

-- the first n of these
abbrev pub firsts : (ℕ → Entry) → ℕ → List Entry
firsts e zero = []
firsts e (suc n) = e 0 ∷ firsts (λ (k : ℕ). e (suc k)) n

abbrev pub entries : List Marked → Chain → List Entry
entries ms c = firsts (entry_at ms c.spoken c.done) c.len

-- what a step's answer says: the chain after it, or none where it is not allowed
abbrev pub outcome : List Marked → rattle.Option Chain → Option (List Entry)
outcome ms None = none
outcome ms (Some c) = some (entries ms c)

-- the same whatever frames the chain is of
pub record Leaves (r : rattle.Option Chain) (next : List Marked → Option (List Entry)) : Type 0 where
  pub over : (ms : List Marked) → outcome ms r ≡ next ms
