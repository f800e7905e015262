-- Number 14: which states a policy allows.
use Rattle.std.specs.Prelude.{Bool, ◌&&◌, List, ℕ, ◌+◌, ◌-◌, min, ltb, leb, get_or}
use Rattle.bits.specs.Bit.{below}
use Rattle.beliefs.specs.Lists.{each}
use Rattle.beliefs.specs.Policy.{Policy, signers, targets}
use Rattle.record.specs.Layout.{frame_from, words_from, depth, signer_at}

-- the words from one index up to another hold no length of n or above; where n is 0, they are zero
unfoldable pub words_below : List ℕ → ℕ → ℕ → ℕ → Bool
words_below s from to n = each (λ i. below (get_or s (from + i) 0) n) (to - from)

-- how many of a frame's 64 words are for a target below N
abbrev pub words : Policy → ℕ
words p = min (targets p) 64

-- a frame at depth j + 1 has a signer below S, holds chains of length 0 to j, and nothing for a target at N or above
unfoldable pub frame_fits : Policy → List ℕ → ℕ → Bool
frame_fits p s j =
    ltb (signer_at s j) (signers p)
    && (words_below s (words_from j) (words_from j + words p) (j + 1) && words_below s (words_from j + words p) (words_from j + 64) 0)

-- depth not over 63, every frame as it should be, nothing but zero in room above the depth
unfoldable pub fits : Policy → List ℕ → Bool
fits p s = leb (get_or s 0 0) 63 && (each (frame_fits p s) (depth s) && words_below s (frame_from (depth s)) 4096 0)
