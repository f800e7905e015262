-- Number 14 of a walk state.
use Rattle.std.specs.Prelude.{Bool, ◌&&◌, List, ℕ, ◌+◌, ◌-◌, eqb, ltb, leb, get_or}
use Rattle.bits.specs.Bit.{below}
use Rattle.beliefs.specs.Lists.{each}
use Rattle.beliefs.specs.Policy.{Policy, signers, targets}
use Rattle.walk.specs.Layout.{depth, frame_at}

-- depth over 63, a frame's signer at S or above, a mark for a target at N or above, anything but zero above the depth
unfoldable pub in_use : Policy → List ℕ → ℕ → Bool
in_use p s k =
    ltb (frame_at s k).signer (signers p)
    && (below (frame_at s k).enabled (targets p) && below (frame_at s k).disabled (targets p))

unfoldable pub unused : List ℕ → ℕ → Bool
unused s k = eqb (frame_at s k).signer 0 && (eqb (frame_at s k).enabled 0 && eqb (frame_at s k).disabled 0)

unfoldable pub fits : Policy → List ℕ → Bool
fits p s = leb (get_or s 0 0) 63 && (each (in_use p s) (depth s) && each (λ k. unused s (depth s + k)) (63 - depth s))
