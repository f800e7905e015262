-- One operation with its refusals, and the answers of a whole trace.
use Rattle.std.specs.Prelude.{Bool, cond, List, [], ◌∷◌, map, ℕ, suc, ◌/◌, ◌%◌, eqb, length}
use Rattle.answers.specs.Numbers.{too_few, unless, first}
use Rattle.answers.specs.Answer.{Moved, refused, done, verdict, guarded}
use Rattle.answers.specs.Account.{Account, told, before, short_of, barring}
use Rattle.words.specs.declared.Operation.{Operation}
use Rattle.words.specs.declared.Operation.TheVariants.{Call, Return, Enable, Disable, Revert, Check}
use Rattle.words.specs.Words.{Decoded, Word, Refused, barred, word_of}
use Rattle.beliefs.specs.Policy.{Policy, refusal, reading}
use Rattle.beliefs.specs.Stack.{Frame, Stack, called, enable, disable, revert, granted, marked, walk}

-- what the newest frame does to itself
abbrev pub by_newest : (Frame → Frame) → Stack → Stack
by_newest g [] = []
by_newest g (f ∷ r) = g f ∷ r

-- the frames below the newest
abbrev pub below : Stack → Stack
below [] = []
below (f ∷ r) = r

-- an operation that nothing refuses: return drops the frame; a check's verdict is the belief sets', its count the walk's, always 0 where
-- frames are not counted
unfoldable pub does : Bool → Policy → Operation → Stack → Moved Stack
does counts p (Call s) st = done (called p s st ∷ st)
does counts p Return st = done (below st)
does counts p (Enable t) st = done (by_newest (enable t) st)
does counts p (Disable t) st = done (by_newest (disable t) st)
does counts p (Revert t) st = done (by_newest (revert t) st)
does counts p (Check t) st = verdict (granted p t st) (cond counts (walk p t (map marked st)).looked 0) st

-- one of the policy's signers and targets: 7, 8
abbrev pub step : Bool → Policy → Operation → Stack → Moved Stack
step counts p op st = guarded (barred (length st) op) (does counts p op st) st

-- a decoded word, on any state, by what an operation comes to there
abbrev pub served : {S : Type 0} → (Operation → S → Moved S) → Decoded → S → Moved S
served act (Word x) s = act x.op s
served act (Refused n) s = refused n s

module _ {S : Type 0} (act : Policy → Operation → S → Moved S) (p : Policy) where
  -- the words of a trace from index i on: the first refused word stops it, with number and index
  unfoldable pub run_from : ℕ → List ℕ → S → Account
  run_from i [] s = told 0 i
  run_from i (a ∷ []) s = told 0 i
  run_from i (a ∷ b ∷ rest) s =
      let m : Moved S = served (act p) (reading p (word_of a b) i) s in
      cond (eqb m.number 0) (before (m.byte ∷ []) (run_from (suc i) rest m.state)) (told m.number i)

  -- the state after these words; a refused word leaves it as it was
  unfoldable pub state_after : List ℕ → S → S
  state_after [] s = s
  state_after (a ∷ []) s = s
  state_after (a ∷ b ∷ rest) s = state_after rest (served (act p) (reading p (word_of a b) 0) s).state

-- what refuses a run before its first word: 13, 1, 9
unfoldable pub run_refusal : Policy → ℕ → ℕ → ℕ
run_refusal p len room = first (refusal p) (first (unless (eqb (len % 2) 0) too_few) (short_of (len / 2) room))

-- a run from a fresh start, with room for so many answers: 13, 1, 9, then word by word
unfoldable pub run : Bool → Policy → List ℕ → ℕ → Account
run counts p trace room = barring (run_refusal p (length trace) room) (run_from (step counts) p 0 trace [])
