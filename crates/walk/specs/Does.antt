-- What each operation does to a walk state, where nothing refuses it.
use Rattle.std.specs.Prelude.{Bool, true, false, cond, Option, Some, None, List, ℕ, ◌+◌, ◌-◌, eqb, set}
use Rattle.bits.specs.Bit.{bit, with_bit, without_bit}
use Rattle.answers.specs.Answer.{Moved, done, verdict}
use Rattle.words.specs.declared.Operation.{Operation}
use Rattle.words.specs.declared.Operation.TheVariants.{Call, Return, Enable, Disable, Revert, Check}
use Rattle.beliefs.specs.declared.Marked.{Marked}
use Rattle.beliefs.specs.Policy.{Policy, permits}
use Rattle.beliefs.specs.Stack.{nobody, start_marks, walk}
use Rattle.walk.specs.Layout.{depth, frame_at, frames, put}

-- what a frame decides of a check, or nothing where the walk goes on below it
abbrev pub decided : Policy → ℕ → Marked → Option Bool
decided p t m = cond (permits p m.signer t) (cond (bit m.enabled t) (Some true) (cond (bit m.disabled t) (Some false) None)) (Some false)

-- a new frame above k others: a bottom frame has the marks of its start
abbrev pub new_frame : Policy → ℕ → ℕ → Marked
new_frame p g k = record { signer = g; enabled = cond (eqb k 0) (start_marks p) 0; disabled = 0 }

abbrev pub called_in : Policy → ℕ → List ℕ → List ℕ
called_in p g s = set (put s (depth s) (new_frame p g (depth s))) 0 (depth s + 1)

-- a returned frame leaves zeros
abbrev pub returned_in : List ℕ → List ℕ
returned_in s = set (put s (depth s - 1) nobody) 0 (depth s - 1)

-- the marks after an operation of the frame itself: revert leaves the disabled mark
abbrev pub remarked : Operation → Marked → Marked
remarked (Call g) m = m
remarked Return m = m
remarked (Enable t) m = record { signer = m.signer; enabled = with_bit m.enabled t; disabled = m.disabled }
remarked (Disable t) m = record { signer = m.signer; enabled = without_bit m.enabled t; disabled = with_bit m.disabled t }
remarked (Revert t) m = record { signer = m.signer; enabled = without_bit m.enabled t; disabled = m.disabled }
remarked (Check t) m = m

-- the newest frame is above depth - 1 others
abbrev pub marked_in : Operation → List ℕ → List ℕ
marked_in op s = put s (depth s - 1) (remarked op (frame_at s (depth s - 1)))

-- a check answers with the walk's verdict and count
abbrev pub does : Policy → Operation → List ℕ → Moved (List ℕ)
does p (Call g) s = done (called_in p g s)
does p Return s = done (returned_in s)
does p (Enable t) s = done (marked_in (Enable t) s)
does p (Disable t) s = done (marked_in (Disable t) s)
does p (Revert t) s = done (marked_in (Revert t) s)
does p (Check t) s = verdict (walk p t (frames s)).granted (walk p t (frames s)).looked s
