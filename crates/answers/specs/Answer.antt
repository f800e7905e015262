-- "Answer byte", and what one operation comes to, on whatever state.
use Rattle.std.specs.Prelude.{◌≡◌, Bool, cond, List, ℕ, ◌+◌, ◌*◌, ◌/◌, eqb, Result, Ok, Err}
use Rattle.answers.specs.declared.Refusal.{Refusal}
use Rattle.answers.specs.Numbers.{number}

-- kind (2 bits: 0 done, 1 granted, 2 forbidden), frames looked at (6 bits)
abbrev pub kind_of : Bool → ℕ
kind_of v = cond v 1 2

abbrev pub verdict_byte : Bool → ℕ → ℕ
verdict_byte v looked = kind_of v * 64 + looked

-- an answer byte's kind alone
abbrev pub kind_only : ℕ → ℕ
kind_only b = b / 64 * 64

-- what an engine answers: the number for no (0: accepted), and the answer byte, 0 where it refuses
pub record Answer : Type 0 where
  pub number : ℕ
  pub byte : ℕ

abbrev pub answer_of : Result ℕ Refusal → Answer
answer_of (Ok b) = record { number = 0; byte = b }
answer_of (Err r) = record { number = number r; byte = 0 }

-- what an operation comes to: the number for no (0: accepted), the answer byte, and the state after it
pub record Moved (S : Type 0) : Type 0 where
  pub number : ℕ
  pub byte : ℕ
  pub state : S

-- a refused operation changes no state
abbrev pub refused : {S : Type 0} → ℕ → S → Moved S
refused n s = record { number = n; byte = 0; state = s }

abbrev pub done : {S : Type 0} → S → Moved S
done s = record { number = 0; byte = 0; state = s }

-- nor does a check
abbrev pub verdict : {S : Type 0} → Bool → ℕ → S → Moved S
verdict v looked s = record { number = 0; byte = verdict_byte v looked; state = s }

-- what it does where the number of its tests is 0
abbrev pub guarded : {S : Type 0} → ℕ → Moved S → S → Moved S
guarded n m s = cond (eqb n 0) m (refused n s)

-- the promise of one operation on lent words
pub record Gives (r : Answer) (left : List ℕ) (m : Moved (List ℕ)) : Type 0 where
  pub number : r.number ≡ m.number
  pub byte : r.byte ≡ m.byte
  pub state : left ≡ m.state

-- and where the number is returned: the answer byte is written where the operation is accepted, and left alone otherwise
pub record Operated (lent n byte : ℕ) (left : List ℕ) (m : Moved (List ℕ)) : Type 0 where
  pub number : n ≡ m.number
  pub answer : byte ≡ cond (eqb m.number 0) m.byte lent
  pub state : left ≡ m.state
