-- What reading a policy promises, and what its argument is.
use Rattle.std.specs.Prelude.{◌≡◌, cond, List, ℕ, ◌<◌, eqb, ltb, length, get_or}
use Rattle.beliefs.specs.Policy.{header, head_signers, head_targets, size, read_number, value_read}

-- document 01's number for these bytes; the value is what they say where that is 0, and as it was lent where they are refused
pub record PolicyRead (bytes lent : List ℕ) (r : ℕ) (left : List ℕ) : Type 0 where
  pub number : r ≡ read_number bytes
  pub value : left ≡ cond (eqb (read_number bytes) 0) (value_read bytes) lent

-- every element is a byte
abbrev pub Bytes : List ℕ → Type 0
Bytes bs = (i : ℕ) → get_or bs i 0 < 256

-- "cutting by the header": how many bytes at the front of a recording are its policy's; all of them where the header or the rows fall short
abbrev pub least : ℕ → ℕ → ℕ
least a b = cond (ltb a b) a b

unfoldable pub cut_at : List ℕ → ℕ
cut_at bs = cond (ltb (length bs) 2) (length bs) (least (size (head_signers (header bs)) (head_targets (header bs))) (length bs))
