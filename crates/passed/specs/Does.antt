-- "Passed state": what a frame needs to know of its callers is one bit per target.
use Rattle.std.specs.Prelude.{Bool, cond, ◌&&◌, ◌||◌, List, [], ◌∷◌, ℕ, ◌+◌, eqb, ltb, get_or, Result, Ok, Err}
use Rattle.std.specs.Int.Bits.{bit_and, bit_or}
use Rattle.bits.specs.Bit.{bit, with_bit, without_bit}
use Rattle.answers.specs.declared.Refusal.{Refusal}
use Rattle.answers.specs.Numbers.{number}
use Rattle.answers.specs.Answer.{verdict_byte}
use Rattle.words.specs.declared.Operation.{Operation}
use Rattle.words.specs.declared.Operation.TheVariants.{Call, Return, Enable, Disable, Revert, Check}
use Rattle.words.specs.Words.{barred}
use Rattle.beliefs.specs.Policy.{Policy, Target, row, permits, refusal_of}
use Rattle.beliefs.specs.Stack.{start_marks}
use Rattle.passed.specs.declared.Passed.{Passed}
use Rattle.passed.specs.declared.Next.{Next}
use Rattle.passed.specs.declared.Next.TheVariants as nexts
use Rattle.passed.specs.Fits.{fits}

-- a passed state as its four words
abbrev pub passed_in : List ℕ → Passed
passed_in s = record { depth = get_or s 0 0; signer = get_or s 1 0; own = get_or s 2 0; callers = get_or s 3 0 }

abbrev pub words_of : Passed → List ℕ
words_of s = s.depth ∷ s.signer ∷ s.own ∷ s.callers ∷ []

-- no frame
abbrev pub fresh : Passed
fresh = record { depth = 0; signer = 0; own = 0; callers = 0 }

-- the targets that a check would be granted: those of the frame's own and its callers' that its signer is permitted
abbrev pub granted_of : Policy → Passed → ℕ
granted_of p s = bit_and (row p s.signer) (bit_or s.own s.callers)

-- call: at depth 0 a bottom frame, with what the start hands it as its own; deeper, what the caller would be granted goes
-- down, and nothing is the callee's own. At depth 63 there is no call
abbrev pub bottom_of : Policy → ℕ → Passed
bottom_of p g = record { depth = 1; signer = g; own = start_marks p; callers = 0 }

abbrev pub callee_of : Policy → Passed → ℕ → Passed
callee_of p s g = record { depth = s.depth + 1; signer = g; own = 0; callers = granted_of p s }

unfoldable pub call_of : Policy → Passed → ℕ → Passed
call_of p s g = cond (ltb s.depth 63) (cond (eqb s.depth 0) (bottom_of p g) (callee_of p s g)) s

-- enable adds the target, whether or not the policy permits the signer
abbrev pub enable_of : Passed → Target → Passed
enable_of s t = record { depth = s.depth; signer = s.signer; own = with_bit s.own t; callers = s.callers }

-- disable removes the target, of the frame's own and of its callers'
abbrev pub disable_of : Passed → Target → Passed
disable_of s t = record { depth = s.depth; signer = s.signer; own = without_bit s.own t; callers = without_bit s.callers t }

-- revert removes it of the frame's own only
abbrev pub revert_of : Passed → Target → Passed
revert_of s t = record { depth = s.depth; signer = s.signer; own = without_bit s.own t; callers = s.callers }

-- check: the signer is permitted the target, and the frame has it as its own or from its callers
unfoldable pub check_of : Policy → Passed → Target → Bool
check_of p s t = permits p s.signer t && (bit s.own t || bit s.callers t)

-- what an operation leads to: the same frame with an answer byte, the callee, the caller, or the number for no
pub data Led : Type 0 where
  Stay : (s : Passed) (b : ℕ) → Led
  Down : (s : Passed) → Led
  Up : Led
  Refused : (n : ℕ) → Led

abbrev pub next_in : Next → Led
next_in (nexts.Stay s b) = Stay s b
next_in (nexts.Down s) = Down s
next_in nexts.Up = Up

abbrev pub leading : Result Next Refusal → Led
leading (Ok x) = next_in x
leading (Err r) = Refused (number r)

-- one that nothing refuses
unfoldable pub led_to : Policy → Passed → Operation → Led
led_to p s (Call g) = Down (call_of p s g)
led_to p s Return = Up
led_to p s (Enable t) = Stay (enable_of s t) 0
led_to p s (Disable t) = Stay (disable_of s t) 0
led_to p s (Revert t) = Stay (revert_of s t) 0
led_to p s (Check t) = Stay s (verdict_byte (check_of p s t) 0)

-- and behind the number of its tests: refused by it where it is not 0
abbrev pub guarding : ℕ → Led → Led
guarding n x = cond (eqb n 0) x (Refused n)

-- an operation of the policy's signers and targets: 7, 8
unfoldable pub next_of : Policy → Passed → Operation → Led
next_of p s op = guarding (barred s.depth op) (led_to p s op)

-- what refuses an operation on any policy and state: 13, 14, 5 or 6, 7, 8; 0 for nothing
unfoldable pub refused_by : Policy → Passed → Operation → ℕ
refused_by p s op = refusal_of p (fits p s) s.depth op

unfoldable pub operate_of : Policy → Passed → Operation → Led
operate_of p s op = guarding (refused_by p s op) (led_to p s op)
