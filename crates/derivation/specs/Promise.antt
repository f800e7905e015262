-- What the checker and the writer report of a policy, a walk state and a target.
use Rattle.std.specs.Prelude.{List, ℕ}
use Rattle.answers.specs.Account.{Account, barring}
use Rattle.words.specs.declared.Operation.TheVariants.{Check}
use Rattle.beliefs.specs.Policy.{Policy, Target, refusal_in, refusal_of}
use Rattle.beliefs.specs.Derivation.{judged, derived}
use Rattle.walk.specs.Layout.{depth, frames}
use Rattle.walk.specs.Fits.{fits}

-- 13, 14, 6, 7: what refuses before any step is looked at or written; 0 for nothing
abbrev pub barred : Policy → List ℕ → Target → ℕ
barred p s t = refusal_of p (fits p s) (depth s) (Check t)

-- checking: 13, 14, 6, 7, 10, 11
unfoldable pub checking : Policy → List ℕ → Target → List ℕ → Account
checking p s t steps = barring (refusal_in p (fits p s)) (judged p (frames s) t steps)

-- writing: 13, 14, 6, 7, 12, 9
unfoldable pub writing : Policy → List ℕ → Target → ℕ → Account
writing p s t room = barring (refusal_in p (fits p s)) (derived p (frames s) t room)
