-- "Byte forms", the operation word: operation (3 bits), signer (5), target (6), spare (2); and what refuses an operation.
use Rattle.std.specs.Prelude.{Bool, cond, not, ◌&&◌, ◌||◌, List, ℕ, ◌+◌, ◌*◌, ◌/◌, ◌%◌, ◌^◌, eqb, ltb, length, get_or, Result, Ok, Err}
use Rattle.answers.specs.declared.Refusal.{Refusal}
use Rattle.answers.specs.Numbers.{bit_set, unknown, no_signer, no_target, no_frame, too_deep, number, unless}
use Rattle.words.specs.declared.Operation.{Operation}
use Rattle.words.specs.declared.Operation.TheVariants.{Call, Return, Enable, Disable, Revert, Check}
use Rattle.words.specs.declared.Word.{Word as Held}

abbrev pub word_operation : ℕ → ℕ
word_operation w = w / 2 ^ 13

abbrev pub word_signer : ℕ → ℕ
word_signer w = w / 2 ^ 8 % 2 ^ 5

abbrev pub word_target : ℕ → ℕ
word_target w = w / 2 ^ 2 % 2 ^ 6

abbrev pub word_spare : ℕ → ℕ
word_spare w = w % 2 ^ 2

-- 0 call (uses signer), 1 return, 2 enable, 3 disable, 4 revert, 5 check (the last four use target)
unfoldable pub operation_of : ℕ → Operation
operation_of w =
    cond (eqb (word_operation w) 0) (Call (word_signer w))
    (cond (eqb (word_operation w) 1) Return
    (cond (eqb (word_operation w) 2) (Enable (word_target w))
    (cond (eqb (word_operation w) 3) (Disable (word_target w))
    (cond (eqb (word_operation w) 4) (Revert (word_target w)) (Check (word_target w))))))

-- a spare bit set, or a bit of a field that the operation does not use
unfoldable pub stray_in : ℕ → Bool
stray_in w =
    not (eqb (word_spare w) 0)
    || ((not (eqb (word_operation w) 0) && not (eqb (word_signer w) 0)) || (ltb (word_operation w) 2 && not (eqb (word_target w) 0)))

-- an operation under S and N. 5: a signer S or above; 6: a target N or above; 0 for neither
unfoldable pub outside : ℕ → ℕ → Operation → ℕ
outside s n (Call g) = unless (ltb g s) no_signer
outside s n Return = 0
outside s n (Enable t) = unless (ltb t n) no_target
outside s n (Disable t) = unless (ltb t n) no_target
outside s n (Revert t) = unless (ltb t n) no_target
outside s n (Check t) = unless (ltb t n) no_target

-- and on a stack of so many frames. 7: no frame, and the operation is not call; 8: call at depth 63; 0 for neither
abbrev pub framed : ℕ → ℕ
framed depth = unless (not (eqb depth 0)) no_frame

abbrev pub deeper : ℕ → ℕ
deeper depth = unless (ltb depth 63) too_deep

unfoldable pub barred : ℕ → Operation → ℕ
barred depth (Call g) = deeper depth
barred depth Return = framed depth
barred depth (Enable t) = framed depth
barred depth (Disable t) = framed depth
barred depth (Revert t) = framed depth
barred depth (Check t) = framed depth

-- what a word says: an operation with its index, or the number that refuses it
pub data Decoded : Type 0 where
  Word : (x : Held) → Decoded
  Refused : (n : ℕ) → Decoded

abbrev pub decoding : Result Held Refusal → Decoded
decoding (Ok x) = Word x
decoding (Err r) = Refused (number r)

-- a word, under S and N, with its index: 4, 3, 5 or 6, else the operation
unfoldable pub decoded : ℕ → ℕ → ℕ → ℕ → Decoded
decoded s n w i =
    cond (ltb 5 (word_operation w)) (Refused unknown)
    (cond (stray_in w) (Refused bit_set)
    (cond (eqb (outside s n (operation_of w)) 0) (Word (record { op = operation_of w; index = i })) (Refused (outside s n (operation_of w)))))

-- document 01's number for each answer of the decoder
abbrev pub number_of : Decoded → ℕ
number_of (Word x) = 0
number_of (Refused n) = n

-- a word of two bytes, the first one high; the word at an index of a trace, 0 past the last whole one
abbrev pub word_of : ℕ → ℕ → ℕ
word_of a b = 256 * a + b

abbrev pub word_at : List ℕ → ℕ → ℕ
word_at trace i = cond (ltb i (length trace / 2)) (word_of (get_or trace (2 * i) 0) (get_or trace (2 * i + 1) 0)) 0
