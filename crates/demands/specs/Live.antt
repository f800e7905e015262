-- Live use: what a host brings about under one policy, operation by operation, by the functions of the C boundary alone. One that is refused leaves
-- everything as it was, so accepted ones are all there is.
use Rattle.std.specs.Prelude.{◌≡◌, ◌≢◌, Bool, true, false, cond, List, [], ◌∷◌, ℕ, ◌+◌, ◌*◌, eqb, length, replicate}
use Rattle.answers.specs.Numbers.{bad_policy, bad_state}
use Rattle.answers.specs.Answer.{Moved, guarded}
use Rattle.words.specs.declared.Operation.{Operation}
use Rattle.words.specs.declared.Operation.TheVariants.{Call, Return, Enable, Disable, Revert}
use Rattle.words.specs.Words.{barred}
use Rattle.beliefs.specs.Policy.{Policy, Target, outside_of, reading}
use Rattle.beliefs.specs.Stack.{Stack}
use Rattle.beliefs.specs.Trace.{step, served}
use Rattle.beliefs.specs.Engine.{Engine, Operate}
use Rattle.galmuvesh.specs.Boundary.{Moves}

-- what the definition makes of a word on a stack, with or without the count of frames looked at
abbrev pub outcome : Bool → Policy → ℕ → Stack → Moved Stack
outcome counts p w st = served (step counts p) (reading p w 0) st

-- and of an operation of any signer or target, as the passed state's functions take it: 5 or 6 where it is none of the policy's
abbrev pub asked : Policy → Operation → Stack → Moved Stack
asked p op st = guarded (outside_of p op) (step false p op st) st

-- the stack after it, which does not depend on the count
abbrev pub after : Policy → Operation → Stack → Stack
after p op st = (step false p op st).state

abbrev pub next : Policy → ℕ → Stack → Stack
next p w st = (outcome false p w st).state

-- the definition's stacks that are reached: from no frame, by operations of the policy that are accepted
pub data Reached (p : Policy) : Stack → Type 0 where
  fresh : Reached p []
  moved : {st : Stack} (op : Operation) → Reached p st → outside_of p op ≡ 0 → barred (length st) op ≡ 0 → Reached p (after p op st)

-- a state that is lent to an engine: zeros, then one accepted word after the other; and the definition's stack beside it
pub data Lived (e : Engine) (p : Policy) : List ℕ → Stack → Type 0 where
  zeros : Lived e p (replicate e.size 0) []
  word : {s : List ℕ} {st : Stack} (w lent byte : ℕ) (left : List ℕ) → Lived e p s st → Operate e p s w lent 0 byte left → Lived e p left (next p w st)

-- what such a state is: number 14 lets it through, it pictures the stack, and the stack is reached
pub record Live (Pictures : List ℕ → Stack → Type 0) (fits : List ℕ → Bool) (p : Policy) (s : List ℕ) (st : Stack) : Type 0 where
  pub let_through : fits s ≡ true
  pub pictures : Pictures s st
  pub reached : Reached p st

-- passed states: the newest frame's four words, then those that the host keeps for the frames below it, down to the zeros that it began with
pub data PassedLived (p : Policy) : List (List ℕ) → Stack → Type 0 where
  zeros : PassedLived p (replicate 4 0 ∷ []) []
  -- the callee's words are made of the caller's, which are kept
  call : {s : List ℕ} {kept : List (List ℕ)} {st : Stack} (g : ℕ) (left : List ℕ) → PassedLived p (s ∷ kept) st → Moves p s (Call g) 0 left
      → PassedLived p (left ∷ s ∷ kept) (after p (Call g) st)
  enable : {s : List ℕ} {kept : List (List ℕ)} {st : Stack} (t : ℕ) (left : List ℕ) → PassedLived p (s ∷ kept) st → Moves p s (Enable t) 0 left
      → PassedLived p (left ∷ kept) (after p (Enable t) st)
  disable : {s : List ℕ} {kept : List (List ℕ)} {st : Stack} (t : ℕ) (left : List ℕ) → PassedLived p (s ∷ kept) st → Moves p s (Disable t) 0 left
      → PassedLived p (left ∷ kept) (after p (Disable t) st)
  revert : {s : List ℕ} {kept : List (List ℕ)} {st : Stack} (t : ℕ) (left : List ℕ) → PassedLived p (s ∷ kept) st → Moves p s (Revert t) 0 left
      → PassedLived p (left ∷ kept) (after p (Revert t) st)
  -- a return is the host's own: it goes on with the caller's words
  back : {s caller : List ℕ} {kept : List (List ℕ)} {st : Stack} → PassedLived p (s ∷ caller ∷ kept) st → PassedLived p (caller ∷ kept) (after p Return st)

-- the definition's number, which is neither 13 nor 14
pub record Numbered (m : Moved Stack) (n : ℕ) : Type 0 where
  pub number : n ≡ m.number
  pub never_13 : n ≢ bad_policy
  pub never_14 : n ≢ bad_state

-- and where that is 0 the definition's answer byte; otherwise the byte is as it was lent
pub record Answered (m : Moved Stack) (lent n byte : ℕ) : Type 0 where
  pub numbered : Numbered m n
  pub answer : byte ≡ cond (eqb n 0) m.byte lent

-- the word of a check: operation 5 (3 bits), no signer (5), target (6), no spare (2)
abbrev pub check_word : Target → ℕ
check_word t = 5 * 8192 + 4 * t
