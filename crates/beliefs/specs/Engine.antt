-- What an engine is, and what every engine promises of one operation: exactly, on its own state; and against the belief sets, over what its
-- state pictures.
use Rattle.std.specs.Prelude.{◌≡◌, Bool, true, cond, not, ◌&&◌, List, [], ℕ, eqb, replicate}
use Rattle.answers.specs.Answer.{Answer, Moved, guarded, Gives, Operated}
use Rattle.words.specs.declared.Operation.{Operation}
use Rattle.words.specs.Words.{framed, barred}
use Rattle.beliefs.specs.Lists.{all, empty}
use Rattle.beliefs.specs.Policy.{Policy, Target, valid, refusal_in, outside_of, reading}
use Rattle.beliefs.specs.Stack.{Belief, Stack, on, permitted}
use Rattle.beliefs.specs.Trace.{step, served}

-- a belief that came down with a call, and whose every frame has a signer permitted T
abbrev pub inherited : Policy → Target → Belief → Bool
inherited p t b = on t b && (not (empty b.chain) && all (permitted p t) b.chain)

-- an engine over lent words
pub record Engine : Type 1 where
  -- how many; a fresh state is all zeros
  pub size : ℕ
  -- whether it counts the frames looked at
  pub counts : Bool
  pub depth : List ℕ → ℕ
  -- number 14 lets the state through
  pub fits : Policy → List ℕ → Bool
  -- what an operation that nothing refuses does
  pub does : Policy → Operation → List ℕ → Moved (List ℕ)
  -- the stacks of the definition that a state stands for
  pub Pictures : Policy → List ℕ → Stack → Type 0

-- an operation of the policy's signers and targets: 7, 8
abbrev pub acts : Engine → Policy → Operation → List ℕ → Moved (List ℕ)
acts e p op s = guarded (barred (e.depth s) op) (e.does p op s) s

-- one that the newest frame does: 7
abbrev pub by_frame : Engine → Moved (List ℕ) → List ℕ → Moved (List ℕ)
by_frame e m s = guarded (framed (e.depth s)) m s

-- one that the caller has decoded: exactly, and against the belief sets of any stack that the state pictures
pub record Serves (e : Engine) (p : Policy) (r : Answer) (left : List ℕ) (m : Moved Stack) : Type 0 where
  pub number : r.number ≡ m.number
  pub byte : r.byte ≡ m.byte
  pub pictures : e.Pictures p left m.state

pub record Serve (e : Engine) (p : Policy) (s : List ℕ) (op : Operation) (r : Answer) (left : List ℕ) : Type 0 where
  pub gives : Gives r left (acts e p op s)
  -- a fresh state pictures the stack with no frame
  pub begins : e.Pictures p (replicate e.size 0) []
  pub serves : valid p ≡ true → outside_of p op ≡ 0 → (st : Stack) → e.Pictures p s st → Serves e p r left (step e.counts p op st)

-- a word, refused in the order 13, 14, 4, 3, 5 or 6, 7, 8
unfoldable pub worded : Engine → Policy → ℕ → List ℕ → Moved (List ℕ)
worded e p w s = guarded (refusal_in p (e.fits p s)) (served (acts e p) (reading p w 0) s) s

-- exactly, and against the belief sets
pub record Works (e : Engine) (p : Policy) (s : List ℕ) (w : ℕ) (r : Answer) (left : List ℕ) : Type 0 where
  pub exact : Gives r left (worded e p w s)
  pub answers : valid p ≡ true → e.fits p s ≡ true → (st : Stack) → e.Pictures p s st
      → Serves e p r left (served (step e.counts p) (reading p w 0) st)

-- and where the number is returned: the answer byte is written where the operation is accepted, and left alone otherwise
pub record Answers (e : Engine) (p : Policy) (lent n byte : ℕ) (left : List ℕ) (m : Moved Stack) : Type 0 where
  pub number : n ≡ m.number
  pub answer : byte ≡ cond (eqb m.number 0) m.byte lent
  pub pictures : e.Pictures p left m.state

pub record Operate (e : Engine) (p : Policy) (s : List ℕ) (w lent n byte : ℕ) (left : List ℕ) : Type 0 where
  pub exact : Operated lent n byte left (worded e p w s)
  pub answers : valid p ≡ true → e.fits p s ≡ true → (st : Stack) → e.Pictures p s st
      → Answers e p lent n byte left (served (step e.counts p) (reading p w 0) st)
