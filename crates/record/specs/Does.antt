-- What each operation that nothing refuses does to the words.
use Rattle.std.specs.Prelude.{Bool, false, cond, ◌&&◌, ◌||◌, List, ℕ, zero, suc, ◌+◌, ◌-◌, ◌*◌, ◌%◌, ◌^◌, eqb, ltb, set}
use Rattle.bits.specs.Bit.{bit, with_bit, without_bit}
use Rattle.answers.specs.Answer.{Moved, done, verdict}
use Rattle.words.specs.declared.Operation.{Operation}
use Rattle.words.specs.declared.Operation.TheVariants.{Call, Return, Enable, Disable, Revert, Check}
use Rattle.beliefs.specs.Lists.{each}
use Rattle.beliefs.specs.Policy.{Policy, Target, targets, permits}
use Rattle.beliefs.specs.Stack.{full}
use Rattle.record.specs.Layout.{frame_from, words_from, depth, signer_at, held, filled}

-- call at depth 0: length 0, which is Ok(T) itself, on each of the N targets under a full start, on none under an empty one
abbrev pub start_targets : Policy → ℕ
start_targets p = cond (full p) (targets p) 0

unfoldable pub start_word : Policy → Target → ℕ
start_word p t = cond (ltb t (start_targets p)) 1 0

-- deeper: with the caller's name put in front, every chain of the caller is one longer
abbrev pub longer : ℕ → ℕ
longer w = w * 2 % 2 ^ 64

unfoldable pub handed : Policy → List ℕ → Target → ℕ
handed p s t = cond (eqb (depth s) 0) (start_word p t) (longer (held s t))

abbrev pub begun_in : Policy → List ℕ → List ℕ
begun_in p s = filled (words_from (depth s)) (handed p s) 64 s

abbrev pub called_in : Policy → ℕ → List ℕ → List ℕ
called_in p g s = set (set (begun_in p s) (frame_from (depth s)) g) 0 (depth s + 1)

-- return: the newest frame's words become zero
abbrev pub cleared_in : List ℕ → List ℕ
cleared_in s = filled (frame_from (depth s - 1)) (λ i. 0) 65 s

abbrev pub left_in : List ℕ → List ℕ
left_in s = set (cleared_in s) 0 (depth s - 1)

-- enable, disable and revert: the newest frame's word for a target becomes another
abbrev pub held_in : Target → ℕ → List ℕ → List ℕ
held_in t w s = cond (ltb t 64) (set s (words_from (depth s - 1) + t) w) s

-- check: each chain length held is tried; the frame followed by a chain of length k is the newest k + 1 frames
unfoldable pub some : (ℕ → Bool) → ℕ → Bool
some f zero = false
some f (suc n) = some f n || f n

abbrev pub newest_permitted : Policy → Target → List ℕ → ℕ → Bool
newest_permitted p t s n = each (λ i. permits p (signer_at s (depth s - 1 - i)) t) n

unfoldable pub granted_in : Policy → Target → List ℕ → Bool
granted_in p t s = some (λ k. bit (held s t) k && newest_permitted p t s (suc k)) (depth s)

-- enable adds length 0, disable removes every length, revert removes length 0; for a check no frame is counted
abbrev pub does : Policy → Operation → List ℕ → Moved (List ℕ)
does p (Call g) s = done (called_in p g s)
does p Return s = done (left_in s)
does p (Enable t) s = done (held_in t (with_bit (held s t) 0) s)
does p (Disable t) s = done (held_in t 0 s)
does p (Revert t) s = done (held_in t (without_bit (held s t) 0) s)
does p (Check t) s = verdict (granted_in p t s) 0 s
