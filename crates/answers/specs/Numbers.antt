-- "Numbers for no": each by its name, and their order. 0 is accepted.
use Rattle.std.specs.Prelude.{Bool, cond, ℕ, eqb, Result, Ok, Err}
use Rattle.answers.specs.declared.Refusal.{Refusal}
use Rattle.answers.specs.declared.Refusal.TheVariants as refusals

-- bytes too few: a policy short of its header or rows, or a trace of odd length
abbrev pub too_few : ℕ
too_few = 1

-- policy bytes left over; program input over 65,536
abbrev pub left_over : ℕ
left_over = 2

-- a spare, padding or unused bit set
abbrev pub bit_set : ℕ
bit_set = 3

-- operation 6 or 7
abbrev pub unknown : ℕ
unknown = 4

-- signer S or above
abbrev pub no_signer : ℕ
no_signer = 5

-- target N or above
abbrev pub no_target : ℕ
no_target = 6

-- no frame, and the operation is not call
abbrev pub no_frame : ℕ
no_frame = 7

-- call at depth 63
abbrev pub too_deep : ℕ
too_deep = 8

-- lent buffer too short for what would be written
abbrev pub no_room : ℕ
no_room = 9

-- derivation step not allowed
abbrev pub not_allowed : ℕ
not_allowed = 10

-- steps all allowed, but no chain taken or chain not empty
abbrev pub not_empty : ℕ
not_empty = 11

-- derivation wanted for a forbidden check
abbrev pub forbidden : ℕ
forbidden = 12

-- policy value outside its ranges
abbrev pub bad_policy : ℕ
bad_policy = 13

-- state value that the policy does not allow
abbrev pub bad_state : ℕ
bad_state = 14

-- the number of a refusal
abbrev pub number : Refusal → ℕ
number refusals.TooFew = too_few
number refusals.LeftOver = left_over
number refusals.BitSet = bit_set
number refusals.Unknown = unknown
number refusals.NoSigner = no_signer
number refusals.NoTarget = no_target
number refusals.NoFrame = no_frame
number refusals.TooDeep = too_deep
number refusals.NoRoom = no_room
number refusals.NotAllowed = not_allowed
number refusals.NotEmpty = not_empty
number refusals.Forbidden = forbidden
number refusals.BadPolicy = bad_policy
number refusals.BadState = bad_state

-- and of whatever may be refused: 0 where it is not
abbrev pub number_of : {A : Type 0} → Result A Refusal → ℕ
number_of (Ok x) = 0
number_of (Err r) = number r

-- the number of a test that should hold: 0 where it does
abbrev pub unless : Bool → ℕ → ℕ
unless holds n = cond holds 0 n

-- and what is given by it, for whatever reason
abbrev pub given_unless : {E : Type 0} → Bool → E → Result Unit E
given_unless holds why = cond holds (Ok tt) (Err why)

-- one test after the other: the first number that refuses, 0 where none does
abbrev pub first : ℕ → ℕ → ℕ
first n more = cond (eqb n 0) more n
