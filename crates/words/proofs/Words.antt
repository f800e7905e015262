-- What a decoded word is: an operation of the policy's signers and targets, with its index, or a refusal by a number other than 0; and what an operation
-- that nothing refuses has. Assumes nothing.
use mathlib.Core.Path.{◌≡◌, refl, sym, ap, ◌∙◌}
use mathlib.Core.Logic.{◌≢◌}
use mathlib.Core.Bool.{Bool, true, false, cond, not}
use Prim.Native.Nat.{ℕ, ◌≤◌, ◌<◌}
use native.Mathlib.Omega.{arith}
use lib.Dec.{eqb, ltb}
use borrow.Author.Tests.{eqb-true, eqb-false, ltb-true, not-true}
use Rattle.answers.specs.Numbers.{unknown, bit_set, no_target, unless}
use Rattle.answers.proofs.Numbers.{held, at_most}
use Rattle.answers.proofs.Refusals.{said, said_number}
use Rattle.answers.specs.declared.Refusal.{Refusal}
use Rattle.std.specs.Prelude.{Result, Ok, Err}
use Rattle.words.specs.declared.Operation.{Operation}
use Rattle.words.specs.declared.Operation.TheVariants.{Call, Return, Enable, Disable, Revert, Check}
use Rattle.words.specs.declared.Word.{Word as Held}
use Rattle.words.specs.Words.{Decoded, Word, Refused, word_operation, operation_of, stray_in, outside, framed, deeper, barred, decoded, decoding, number_of}

-- what a word is decoded to, by its three tests
abbrev choice : ℕ → ℕ → ℕ → ℕ → Bool → Bool → Bool → Decoded
choice s n w i a b c =
    cond a (Refused unknown)
    (cond b (Refused bit_set) (cond c (Word (record { op = operation_of w; index = i })) (Refused (outside s n (operation_of w)))))

abbrev pub Fair : ℕ → ℕ → Decoded → Type 0
Fair s n (Word x) = outside s n x.op ≡ 0
Fair s n (Refused m) = m ≢ 0

pub decoded_fair : (s n w i : ℕ) → Fair s n (decoded s n w i)
unfolding decoded
decoded_fair s n w i = go (ltb 5 (word_operation w)) (stray_in w) (eqb (outside s n (operation_of w)) 0) refl
  where
    go : (a b c : Bool) → eqb (outside s n (operation_of w)) 0 ≡ c
        → Fair s n (choice s n w i a b c)
    go true b c q = omega arith
    go false true c q = omega arith
    go false false true q = eqb-true _ 0 q
    go false false false q = eqb-false _ 0 q

-- what the decoder answers is the one result that says what it is decoded to
module _ (other : Held) where
  abbrev undecoded : Decoded → Result Held Refusal
  undecoded (Word x) = Ok x
  undecoded (Refused n) = said n other

  undecoded_back : (r : Result Held Refusal) → undecoded (decoding r) ≡ r
  undecoded_back (Ok x) = refl
  undecoded_back (Err r) = said_number r other

pub one_decoded : {r q : Result Held Refusal} → decoding r ≡ decoding q → r ≡ q
one_decoded {r} {q} h =
    let other : Held = record { op = Return; index = 0 } in
    sym (undecoded_back other r) ∙ (ap (undecoded other) h ∙ undecoded_back other q)

-- a decoded word holds its index
pub decoded_index : (s n w i : ℕ) (x : Held) → Word x ≡ decoded s n w i → x.index ≡ i
unfolding decoded
decoded_index s n w i x = go (ltb 5 (word_operation w)) (stray_in w) (eqb (outside s n (operation_of w)) 0)
  where
    go : (a b c : Bool) → Word x ≡ choice s n w i a b c → x.index ≡ i
    go true b c e = cc
    go false true c e = cc
    go false false true e = let same : x ≡ record { op = operation_of w; index = i } = cc in ap (λ (y : Held). y.index) same
    go false false false e = cc

-- a call that is not refused has a signer below S, and room above the frames
pub signer_below : (s n g : ℕ) → outside s n (Call g) ≡ 0 → g < s
unfolding outside
signer_below s n g h = ltb-true g s (held (ltb g s) 4 h)

pub room_for : (depth : ℕ) → deeper depth ≡ 0 → depth < 63
room_for depth h = ltb-true depth 63 (held (ltb depth 63) 7 h)

pub room_above : (depth g : ℕ) → barred depth (Call g) ≡ 0 → depth < 63
unfolding barred
room_above depth g h = room_for depth h

-- a target that is not refused is below N, and there is a frame
pub target_below : (n t : ℕ) → unless (ltb t n) no_target ≡ 0 → t < n
target_below n t h = ltb-true t n (held (ltb t n) 5 h)

pub some_frame : (depth : ℕ) → framed depth ≡ 0 → depth ≢ 0
some_frame depth h = eqb-false depth 0 (not-true _ (held (not (eqb depth 0)) 6 h))

-- no number of these is over 8
pub outside_most : (s n : ℕ) (op : Operation) → outside s n op ≤ 6
unfolding outside
outside_most s n (Call g) = at_most (ltb g s) (omega arith) (omega arith)
outside_most s n Return = omega arith
outside_most s n (Enable t) = at_most (ltb t n) (omega arith) (omega arith)
outside_most s n (Disable t) = at_most (ltb t n) (omega arith) (omega arith)
outside_most s n (Revert t) = at_most (ltb t n) (omega arith) (omega arith)
outside_most s n (Check t) = at_most (ltb t n) (omega arith) (omega arith)

framed_most : (depth : ℕ) → framed depth ≤ 8
framed_most depth = at_most (not (eqb depth 0)) (omega arith) (omega arith)

pub barred_most : (depth : ℕ) (op : Operation) → barred depth op ≤ 8
unfolding barred
barred_most depth (Call g) = at_most (ltb depth 63) (omega arith) (omega arith)
barred_most depth Return = framed_most depth
barred_most depth (Enable t) = framed_most depth
barred_most depth (Disable t) = framed_most depth
barred_most depth (Revert t) = framed_most depth
barred_most depth (Check t) = framed_most depth

pub decoded_most : (s n w i : ℕ) → number_of (decoded s n w i) ≤ 6
unfolding decoded
decoded_most s n w i = go (ltb 5 (word_operation w)) (stray_in w) (eqb (outside s n (operation_of w)) 0)
  where
    go : (a b c : Bool) → number_of (choice s n w i a b c) ≤ 6
    go true b c = omega arith
    go false true c = omega arith
    go false false true = omega arith
    go false false false = outside_most s n (operation_of w)
