-- The walk state: 190 words, the depth and then 63 frames, bottom first, of 3 words.
use Rattle.std.specs.Prelude.{List, [], ◌∷◌, ℕ, zero, suc, ◌+◌, ◌*◌, min, get_or, set}
use Rattle.beliefs.specs.declared.Marked.{Marked}

-- the depth; a state that says more than 63 is taken to be full
abbrev pub depth : List ℕ → ℕ
depth s = min (get_or s 0 0) 63

-- the frame above k others
unfoldable pub frame_at : List ℕ → ℕ → Marked
frame_at s k = record { signer = get_or s (3 * k + 1) 0; enabled = get_or s (3 * k + 2) 0; disabled = get_or s (3 * k + 3) 0 }

-- the k lowest frames, newest first; all of them
abbrev pub frames_at : List ℕ → ℕ → List Marked
frames_at s zero = []
frames_at s (suc k) = frame_at s k ∷ frames_at s k

abbrev pub frames : List ℕ → List Marked
frames s = frames_at s (depth s)

-- a frame stored above k others
abbrev pub put : List ℕ → ℕ → Marked → List ℕ
put s k m = set (set (set s (3 * k + 1) m.signer) (3 * k + 2) m.enabled) (3 * k + 3) m.disabled
