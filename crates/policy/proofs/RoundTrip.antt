-- Reading and writing undo each other, so that a policy has one byte form. Assumes nothing.
use mathlib.Core.Path.{◌≡◌, sym, ap, ◌∙◌}
use mathlib.Core.Bool.{true}
use mathlib.Core.List.{List}
use Prim.Native.Nat.{ℕ, ◌≤◌}
use native.Mathlib.Omega.{arith}
use lib.ListN.{length, take}
use lib.Seq.{ext_get_or}
use borrow.Author.Tests.{le-ltb, eq-eqb}
use Rattle.answers.specs.Account.{Report, Reports}
use Rattle.beliefs.specs.Policy.{signers, targets, size, valid, read_number, value_read, bytes_written, writing}
use Rattle.policy.specs.Read.{PolicyRead, Bytes}
use Rattle.beliefs.proofs.Lists.{front}
use Rattle.beliefs.proofs.Policy.{ranges, ranges_valid, not_refused}
use Rattle.policy.proofs.Accepted.{accepted, accepted_number}
use Rattle.policy.proofs.Value.{value_signers, value_targets, length_value}
use Rattle.policy.proofs.Back.{word_read, written_length, accepted_back, value_ranges, written, wrote}

-- A valid value's bytes are accepted, and they are read as that value.
pub read_back : (p : List ℕ) → length p ≡ 35 → valid p ≡ true → (read_number (bytes_written p) ≡ 0) × (value_read (bytes_written p) ≡ p)
read_back p l v =
    let r = ranges p v in
    (accepted_number (bytes_written p) (accepted_back p l r), ext_get_or 0 _ _ (length_value (bytes_written p) ∙ sym l) (λ i h. word_read p l r i))

-- Accepted bytes are read as a valid value, and they are that value's bytes.
pub written_back : (bs : List ℕ) → Bytes bs → read_number bs ≡ 0
    → (valid (value_read bs) ≡ true) × ((length (value_read bs) ≡ 35) × (bytes_written (value_read bs) ≡ bs))
written_back bs b e =
    let a = accepted bs e in
    (ranges_valid (value_read bs) (value_ranges bs b a), (length_value bs, written bs b a))

-- Bytes that are accepted and read as the same value are the same bytes.
pub one_form : (a b : List ℕ) → Bytes a → Bytes b → read_number a ≡ 0 → read_number b ≡ 0 → value_read a ≡ value_read b → a ≡ b
one_form a b h k m n e = sym (written_back a h m).1.1 ∙ ap bytes_written e ∙ (written_back b k n).1.1

-- What is read, where nothing refuses it.
pub value_of : (bytes lent left : List ℕ) → PolicyRead bytes lent 0 left → left ≡ value_read bytes
value_of bytes lent left h = h.value ∙ rw (eq-eqb (read_number bytes) 0 (sym h.number))

-- Through the promises alone: what `write` leaves at the front of a buffer is accepted by `read`, and gives the value back.
pub read_after_write : (p lent left : List ℕ) (w : Report) → length p ≡ 35 → Reports w lent left (writing p (length lent)) → w.number ≡ 0
    → (kept value : List ℕ) (n : ℕ) → PolicyRead (take w.figure left) kept n value → (n ≡ 0) × (value ≡ p)
read_after_write p lent left w l r e kept value n q =
    let o = wrote p lent left w r e in
    let long : length (bytes_written p) ≡ size (signers p) (targets p) = written_length p l (ranges p o.fine) in
    let same : take w.figure left ≡ bytes_written p = rw (o.figure, o.buffer, ← long) (front lent (bytes_written p) (omega arith)) in
    let back = read_back p l o.fine in
    let number : read_number (take w.figure left) ≡ 0 = rw same back.0 in
    (q.number ∙ number, q.value ∙ rw (eq-eqb _ _ number, same) back.1)

-- And bytes that `read` accepts stand again at the front of the buffer that `write` leaves for their value.
pub write_after_read : (bs kept value : List ℕ) (n : ℕ) → Bytes bs → PolicyRead bs kept n value → n ≡ 0
    → (lent left : List ℕ) (w : Report) → length bs ≤ length lent → Reports w lent left (writing value (length lent))
    → (w.number ≡ 0) × (take w.figure left ≡ bs)
unfolding writing
write_after_read bs kept value n b q e lent left w h r =
    let number : read_number bs ≡ 0 = sym q.number ∙ e in
    let is : value ≡ value_read bs = value_of bs kept value (rw e at q) in
    let back = written_back bs b number in
    let wanted : size (signers (value_read bs)) (targets (value_read bs)) ≡ length bs =
    rw (value_signers bs, value_targets bs) (sym (accepted bs number).whole) in
    let account = rw (is, wanted, eq-eqb _ _ (not_refused _ back.0), le-ltb (length lent) (length bs) h, back.1.1) at r in
    (account.number, rw (account.figure, account.buffer) (front lent bs h))
