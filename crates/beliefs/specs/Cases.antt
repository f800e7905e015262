-- "Cases on both sides": P1 to P10, from bytes, proved together by computing the definitions; and the orders of refusal.
use Rattle.std.specs.Prelude.{◌≡◌, refl, true, cond, List, [], ◌∷◌, map, ℕ, eqb, replicate}
use Rattle.std.proofs.Math.Option.{Option-elim}
use Rattle.bits.specs.Bit.{bit, with_bit, without_bit, below, lowest}
use Rattle.answers.specs.Answer.{verdict_byte}
use Rattle.answers.specs.Account.{Account, told}
use Rattle.words.specs.declared.Operation.{Operation}
use Rattle.words.specs.declared.Operation.TheVariants.{Call, Return, Enable, Disable, Revert, Check}
use Rattle.words.specs.Words.{operation_of, stray_in, outside, barred, decoded, word_of}
use Rattle.beliefs.specs.declared.Marked.{Marked}
use Rattle.beliefs.specs.declared.Seen.{Seen}
use Rattle.beliefs.specs.Lists.{each}
use Rattle.beliefs.specs.Policy.{permits, row_fits, valid, refusal, mirrored, row_of, rows_of, read_number, value_read, writing}
use Rattle.beliefs.specs.Stack.{marked, called, enable, disable, revert, granted, walk}
use Rattle.beliefs.specs.Trace.{does, step, run_from, state_after, run_refusal, run}
use Rattle.beliefs.specs.Derivation.{may_take, follow, judge, judged, ours, derived}

-- the bytes of a policy, those of a trace, and what is asked: the trace's answers, the walk's own answer byte for a target where the
-- trace ends, the derivation for it, or whether a derivation is accepted there
pub data Asked : Type 0 where
  answers : Asked
  walked : ℕ → Asked
  derivation : ℕ → Asked
  acceptance : ℕ → List ℕ → Asked

pub record Case : Type 0 where
  pub policy : List ℕ
  pub trace : List ℕ
  pub asked : Asked
  pub expected : Account

abbrev given : List ℕ → ℕ → Account
given bytes n = record { number = 0; figure = n; written = bytes }

-- what the definitions give under a policy, with room for 256 bytes
abbrev under : List ℕ → List ℕ → Asked → Account
under p trace answers = run true p trace 256
under p trace (walked t) =
    let seen : Seen = walk p t (map marked (state_after (step true) p trace [])) in given (verdict_byte seen.granted seen.looked ∷ []) 1
under p trace (derivation t) = derived p (map marked (state_after (step true) p trace [])) t 256
under p trace (acceptance t steps) = judged p (map marked (state_after (step true) p trace [])) t steps

-- from the policy's bytes, which are read or refused
abbrev found : List ℕ → List ℕ → Asked → Account
found bytes trace asked = cond (eqb (read_number bytes) 0) (under (value_read bytes) trace asked) (told (read_number bytes) 0)

abbrev policy : ℕ → List ℕ
policy first = first ∷ 0x10 ∷ 0xC0 ∷ 0x80 ∷ 0x00 ∷ []

abbrev A : List ℕ
A = 0x00 ∷ 0x00 ∷ 0x40 ∷ 0x00 ∷ 0x01 ∷ 0x00 ∷ 0xA0 ∷ 0x00 ∷ 0xA0 ∷ 0x04 ∷ 0x60 ∷ 0x00 ∷ 0xA0 ∷ 0x00 ∷ 0x80 ∷ 0x00 ∷ 0xA0 ∷ 0x00 ∷ 0x20 ∷ 0x00 ∷ 0xA0 ∷ 0x00 ∷ []

-- "empty start, S = 3, N = 2; signer 0 permitted both targets, signer 1 target 0, signer 2 none"
pub policy_says : value_read (policy 0x08) ≡ (0 ∷ 3 ∷ 2 ∷ 0b11 ∷ 0b01 ∷ 0b00 ∷ replicate 29 0)
unfolding value_read rows_of row_of mirrored
policy_says = refl

-- "that is call 0, enable 0, call 1, check 0, check 1, disable 0, check 0, revert 0, check 0, return, check 0"
abbrev operations : List ℕ → List Operation
operations [] = []
operations (a ∷ []) = []
operations (a ∷ b ∷ rest) = operation_of (word_of a b) ∷ operations rest

pub A_says : operations A ≡ (Call 0 ∷ Enable 0 ∷ Call 1 ∷ Check 0 ∷ Check 1 ∷ Disable 0 ∷ Check 0 ∷ Revert 0 ∷ Check 0 ∷ Return ∷ Check 0 ∷ [])
unfolding operation_of
A_says = refl

-- trace A up to its first check
abbrev A3 : List ℕ
A3 = 0x00 ∷ 0x00 ∷ 0x40 ∷ 0x00 ∷ 0x01 ∷ 0x00 ∷ []

-- P1 to P10; after P5 a drop where T is not the last entry; and after P7 the checks of P6 and P7 by the walk alone, since an answer byte has its verdict
-- from the belief sets, and only its count from the walk.
abbrev pub cases : List Case
cases =
    record {
      policy = policy 0x08;
      trace = A;
      asked = answers;
      expected = given (0x00 ∷ 0x00 ∷ 0x00 ∷ 0x42 ∷ 0x81 ∷ 0x00 ∷ 0x81 ∷ 0x00 ∷ 0x81 ∷ 0x00 ∷ 0x41 ∷ []) 11;
    }
    ∷ record { policy = policy 0x08; trace = A3; asked = derivation 0; expected = given (0x02 ∷ 0x40 ∷ 0x41 ∷ 0x80 ∷ 0x81 ∷ 0xC0 ∷ 0xC0 ∷ []) 7 }
    ∷ record { policy = policy 0x08; trace = A3; asked = acceptance 0 (0x02 ∷ 0x40 ∷ 0x41 ∷ 0x80 ∷ 0x81 ∷ 0xC0 ∷ 0xC0 ∷ []); expected = told 0 7 }
    ∷ record { policy = policy 0x08; trace = A3; asked = acceptance 0 (0x02 ∷ 0x40 ∷ 0x41 ∷ 0x80 ∷ 0x81 ∷ 0xC0 ∷ []); expected = told 11 0 }
    ∷ record { policy = policy 0x08; trace = A3; asked = acceptance 0 []; expected = told 11 0 }
    ∷ record { policy = policy 0x08; trace = A3; asked = acceptance 0 (0x03 ∷ []); expected = told 10 0 }
    ∷ record { policy = policy 0x08; trace = A3; asked = acceptance 0 (0x02 ∷ 0x40 ∷ 0x80 ∷ 0xC0 ∷ []); expected = told 10 3 }
    ∷ record { policy = policy 0x08; trace = 0x02 ∷ 0x00 ∷ 0x40 ∷ 0x00 ∷ 0xA0 ∷ 0x00 ∷ []; asked = answers; expected = given (0x00 ∷ 0x00 ∷ 0x81 ∷ []) 3 }
    ∷ record {
      policy = policy 0x08;
      trace = 0x00 ∷ 0x00 ∷ 0x60 ∷ 0x00 ∷ 0x40 ∷ 0x00 ∷ 0xA0 ∷ 0x00 ∷ 0x80 ∷ 0x00 ∷ 0xA0 ∷ 0x00 ∷ [];
      asked = answers;
      expected = given (0x00 ∷ 0x00 ∷ 0x00 ∷ 0x41 ∷ 0x00 ∷ 0x81 ∷ []) 6;
    }
    ∷ record { policy = policy 0x08; trace = 0x02 ∷ 0x00 ∷ 0x40 ∷ 0x00 ∷ []; asked = walked 0; expected = given (0x81 ∷ []) 1 }
    ∷ record { policy = policy 0x08; trace = 0x00 ∷ 0x00 ∷ 0x60 ∷ 0x00 ∷ 0x40 ∷ 0x00 ∷ []; asked = walked 0; expected = given (0x41 ∷ []) 1 }
    ∷ record { policy = policy 0x08; trace = 0x00 ∷ 0x00 ∷ 0x60 ∷ 0x00 ∷ 0x40 ∷ 0x00 ∷ 0x80 ∷ 0x00 ∷ []; asked = walked 0; expected = given (0x81 ∷ []) 1 }
    ∷ record {
      policy = policy 0x88;
      trace = 0x00 ∷ 0x00 ∷ 0xA0 ∷ 0x04 ∷ 0x80 ∷ 0x04 ∷ 0xA0 ∷ 0x04 ∷ [];
      asked = answers;
      expected = given (0x00 ∷ 0x41 ∷ 0x00 ∷ 0x81 ∷ []) 4;
    }
    ∷ record { policy = policy 0x08; trace = 0x00 ∷ 0x00 ∷ 0xA0 ∷ 0x00 ∷ []; asked = answers; expected = given (0x00 ∷ 0x81 ∷ []) 2 }
    ∷ record { policy = policy 0x08; trace = 0x20 ∷ 0x00 ∷ []; asked = answers; expected = told 7 0 }
    ∷ []

pub proved : map (λ (c : Case). found c.policy c.trace c.asked) cases ≡ map (λ (c : Case). c.expected) cases
unfolding run run_refusal run_from state_after does called enable disable revert granted walk decoded operation_of stray_in outside barred permits refusal valid
    row_fits each mirrored row_of rows_of read_number value_read bit with_bit without_bit below lowest derived ours judged judge follow may_take Option-elim
proved = refl

-- the orders of refusal. Reading a policy: a header spare bit before too few and before left over, too few and left over before padding; then padding
-- alone, and none
pub read_in_order : map read_number (
    (0x08 ∷ []) ∷ (0x08 ∷ 0x11 ∷ []) ∷ (0x08 ∷ 0x11 ∷ 0xC0 ∷ 0x80 ∷ 0x00 ∷ 0x00 ∷ [])
    ∷ (0x08 ∷ 0x10 ∷ 0xA0 ∷ 0x80 ∷ []) ∷ (0x08 ∷ 0x10 ∷ 0xA0 ∷ 0x80 ∷ 0x00 ∷ 0x00 ∷ []) ∷ (0x08 ∷ 0x10 ∷ 0xA0 ∷ 0x80 ∷ 0x00 ∷ []) ∷ policy 0x08 ∷ []
    )
    ≡ (1 ∷ 3 ∷ 3 ∷ 1 ∷ 2 ∷ 3 ∷ 0 ∷ [])
unfolding read_number rows_of row_of mirrored below
read_in_order = refl

-- writing a policy, 13 before 9; a run, 13 before 1 before 9; writing a derivation, 6 before 7 before 12 before 9; checking one, 6 before 7 before 10 before 11
abbrev unfit : List ℕ
unfit = 0 ∷ 0 ∷ 2 ∷ []

abbrev value : List ℕ
value = value_read (policy 0x08)

abbrev frames : List ℕ → List Marked
frames trace = map marked (state_after (step true) value trace [])

pub refused_in_order : map (λ (a : Account). a.number) (
    writing unfit 0 ∷ writing value 4
    ∷ run true unfit (0x00 ∷ []) 0 ∷ run true value (0x00 ∷ 0x00 ∷ 0x00 ∷ []) 0 ∷ run true value (0xC0 ∷ 0x00 ∷ []) 0
    ∷ derived value [] 2 0 ∷ derived value [] 1 0 ∷ derived value (frames (0x00 ∷ 0x00 ∷ [])) 0 0 ∷ derived value (frames A3) 0 6
    ∷ judged value [] 2 (0x00 ∷ []) ∷ judged value [] 1 (0x00 ∷ []) ∷ judged value (frames A3) 0 (0x02 ∷ 0x40 ∷ 0x40 ∷ []) ∷ judged value (frames A3) 0
    (0x02 ∷ 0x40 ∷ [])
    ∷ []
    )
    ≡ (13 ∷ 9 ∷ 13 ∷ 1 ∷ 9 ∷ 6 ∷ 7 ∷ 12 ∷ 9 ∷ 6 ∷ 7 ∷ 10 ∷ 11 ∷ [])
unfolding run run_refusal run_from state_after does called enable disable revert granted walk decoded operation_of stray_in outside barred permits refusal valid
    row_fits each mirrored row_of rows_of value_read writing bit with_bit without_bit below lowest derived ours judged judge follow may_take Option-elim
refused_in_order = refl
