-- What the C functions promise where the crates below say it in other terms: a report comes in two places, a passed state is four words.
use Rattle.std.specs.Prelude.{◌≡◌, Bool, true, false, cond, List, ℕ, eqb}
use Rattle.answers.specs.Account.{Report}
use Rattle.answers.specs.Answer.{Moved, verdict_byte}
use Rattle.words.specs.declared.Operation.{Operation}
use Rattle.words.specs.declared.Operation.TheVariants.{Call, Return, Enable, Disable, Revert, Check}
use Rattle.beliefs.specs.Policy.{Policy, Target, valid, outside_of}
use Rattle.beliefs.specs.Stack.{Stack}
use Rattle.beliefs.specs.Trace.{step}
use Rattle.passed.specs.declared.Passed.{Passed}
use Rattle.passed.specs.Does.{passed_in, words_of, call_of, enable_of, disable_of, revert_of, check_of, refused_by}
use Rattle.passed.specs.Pictures.{Pictures}

-- the number is returned, the figure goes through a pointer
abbrev pub report : ℕ → ℕ → Report
report number figure = record { number = number; figure = figure }

-- the state after an operation that nothing refuses; a check leaves it as it is, and a return has no form here
abbrev pub after : Policy → Passed → Operation → Passed
after p s (Call g) = call_of p s g
after p s Return = s
after p s (Enable t) = enable_of s t
after p s (Disable t) = disable_of s t
after p s (Revert t) = revert_of s t
after p s (Check t) = s

-- the operation that has no form here
abbrev pub returns : Operation → Bool
returns (Call g) = false
returns Return = true
returns (Enable t) = false
returns (Disable t) = false
returns (Revert t) = false
returns (Check t) = false

-- call, enable, disable and revert: exactly, on the four words; and against the belief sets, on each stack that they picture
pub record Follows (p : Policy) (n : ℕ) (left : List ℕ) (m : Moved Stack) : Type 0 where
  pub number : n ≡ m.number
  pub pictures : Pictures p (passed_in left) m.state

pub record Moves (p : Policy) (s : List ℕ) (op : Operation) (n : ℕ) (left : List ℕ) : Type 0 where
  pub number : n ≡ refused_by p (passed_in s) op
  pub state : left ≡ cond (eqb (refused_by p (passed_in s) op) 0) (words_of (after p (passed_in s) op)) s
  pub serves : valid p ≡ true → outside_of p op ≡ 0 → (st : Stack) → Pictures p (passed_in s) st → Follows p n left (step false p op st)

-- check: the answer byte is written where it is accepted, and left alone otherwise
pub record Says (n lent byte : ℕ) (m : Moved Stack) : Type 0 where
  pub number : n ≡ m.number
  pub answer : byte ≡ cond (eqb m.number 0) m.byte lent

pub record Asks (p : Policy) (s : List ℕ) (t : Target) (n lent byte : ℕ) : Type 0 where
  pub number : n ≡ refused_by p (passed_in s) (Check t)
  pub answer : byte ≡ cond (eqb (refused_by p (passed_in s) (Check t)) 0) (verdict_byte (check_of p (passed_in s) t) 0) lent
  pub serves : valid p ≡ true → outside_of p (Check t) ≡ 0 → (st : Stack) → Pictures p (passed_in s) st → Says n lent byte (step false p (Check t) st)
