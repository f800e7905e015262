-- What a function that reports answers, and what it leaves in the buffer lent to it.
use Rattle.std.specs.Prelude.{◌≡◌, cond, List, [], ◌++◌, ℕ, eqb, ltb, Result, Ok, Err}
use Rattle.std.proofs.lemmas.List.Edits.{sets}
use Rattle.answers.specs.declared.Refusal.{Refusal}
use Rattle.answers.specs.declared.Stop.{Stop}
use Rattle.answers.specs.Numbers.{number, no_room}

-- the number for no (0: accepted), the figure, and the bytes written at the front of the lent buffer
pub record Account : Type 0 where
  pub number : ℕ
  pub figure : ℕ
  pub written : List ℕ

abbrev pub told : ℕ → ℕ → Account
told n k = record { number = n; figure = k; written = [] }

abbrev pub before : List ℕ → Account → Account
before bs a = record { number = a.number; figure = a.figure; written = bs ++ a.written }

-- what is reported where the number of the tests before it is 0
abbrev pub barring : ℕ → Account → Account
barring n a = cond (eqb n 0) a (told n 0)

-- 9: room for so many bytes is less than would be written
abbrev pub short_of : ℕ → ℕ → ℕ
short_of wanted room = cond (ltb room wanted) no_room 0

-- what is reported: the number for no (0: accepted), and the figure, which of a stop is its index
pub record Report : Type 0 where
  pub number : ℕ
  pub figure : ℕ

abbrev pub report_of : Result ℕ Stop → Report
report_of (Ok k) = record { number = 0; figure = k }
report_of (Err s) = record { number = number s.why; figure = s.at }

-- what is refused at an index stops there
abbrev pub stopped_at : {A : Type 0} → ℕ → Result A Refusal → Result A Stop
stopped_at i (Ok x) = Ok x
stopped_at i (Err r) = Err (record { why = r; at = i })

-- the promise: the report is the account's, and every other byte of the buffer is as it was lent
pub record Reports (r : Report) (lent left : List ℕ) (a : Account) : Type 0 where
  pub number : r.number ≡ a.number
  pub figure : r.figure ≡ a.figure
  pub buffer : left ≡ sets lent 0 a.written

-- the promise of a report with no buffer behind it
pub record Tells (r : Report) (a : Account) : Type 0 where
  pub number : r.number ≡ a.number
  pub figure : r.figure ≡ a.figure
