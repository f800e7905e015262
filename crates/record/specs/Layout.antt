-- "Belief record": for each frame and target, which chain lengths are held. A state is 4096 words: the depth, then 63 frames,
-- bottom first, of 65 words: the signer, then a word for each target, one bit of it for each length.
use Rattle.std.specs.Prelude.{cond, List, ℕ, zero, suc, ◌+◌, ◌-◌, ◌*◌, min, ltb, get_or, set}
use Rattle.beliefs.specs.Policy.{Target}

-- where the frame above j others begins, with its signer, and where its words for the targets do
abbrev pub frame_from : ℕ → ℕ
frame_from j = 65 * j + 1

abbrev pub words_from : ℕ → ℕ
words_from j = 65 * j + 2

-- the depth; one over 63, which number 14 refuses, counts as 63
abbrev pub depth : List ℕ → ℕ
depth s = min (get_or s 0 0) 63

-- the signer of the frame above j others
abbrev pub signer_at : List ℕ → ℕ → ℕ
signer_at s j = get_or s (frame_from j) 0

-- the chain lengths that it holds on target t, a bit for each; there is no word for a target over 63
unfoldable pub held_at : List ℕ → ℕ → Target → ℕ
held_at s j t = cond (ltb t 64) (get_or s (words_from j + t) 0) 0

-- those of the newest frame
abbrev pub held : List ℕ → Target → ℕ
held s t = held_at s (depth s - 1) t

-- the n words from `at` on become those that w gives
unfoldable pub filled : ℕ → (ℕ → ℕ) → ℕ → List ℕ → List ℕ
filled at w zero s = s
filled at w (suc n) s = set (filled at w n s) (at + n) (w n)
