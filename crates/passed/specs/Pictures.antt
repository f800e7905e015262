-- What a passed state pictures of the belief sets, and what an operation on it promises against them.
use Rattle.std.specs.Prelude.{◌≡◌, ◌≢◌, true, false, [], ◌∷◌, ℕ, ◌^◌, ◌≤◌, ◌<◌, length}
use Rattle.bits.specs.Bit.{bit}
use Rattle.answers.specs.Answer.{Moved}
use Rattle.words.specs.declared.Operation.{Operation}
use Rattle.beliefs.specs.Lists.{any}
use Rattle.beliefs.specs.Policy.{Policy, Target, signers, targets, valid, outside_of}
use Rattle.beliefs.specs.Stack.{Frame, Stack, own}
use Rattle.beliefs.specs.Trace.{below, step}
use Rattle.beliefs.specs.Engine.{inherited}
use Rattle.passed.specs.declared.Passed.{Passed}
use Rattle.passed.specs.Does.{Led, Stay, Down, Up, Refused, fresh, next_of}

-- of the newest frame: its signer; each target whose Ok(T) itself it holds; each target on which it holds a belief that came
-- down with a call and whose every frame has a signer permitted it
pub record Knows (p : Policy) (s : Passed) (f : Frame) : Type 0 where
  pub signer : s.signer ≡ f.principal.signer
  pub owns : (t : Target) → bit s.own t ≡ any (own t) f.beliefs
  pub inherits : (t : Target) → bit s.callers t ≡ any (inherited p t) f.beliefs

-- without a frame all four words are zero
abbrev pub Says : Policy → Passed → Stack → Type 0
Says p s [] = s ≡ fresh
Says p s (f ∷ r) = Knows p s f

-- with a frame: depth not over 63, signer below S, no bit for a target at N or above; at depth 1, where a chain has length 0, none of the callers
pub record Framed (p : Policy) (s : Passed) : Type 0 where
  pub deep : s.depth ≤ 63
  pub signer : s.signer < signers p
  pub own : s.own < 2 ^ targets p
  pub callers : s.callers < 2 ^ targets p
  pub bottom : s.depth ≡ 1 → s.callers ≡ 0

-- the state of the newest frame of a stack
pub record Pictures (p : Policy) (s : Passed) (st : Stack) : Type 0 where
  pub deep : s.depth ≡ length st
  pub framed : s.depth ≢ 0 → Framed p s
  pub says : Says p s st

-- a fresh state: without a frame, under any policy
pub record Begins (s : Passed) : Type 0 where
  pub exact : s ≡ fresh
  pub pictures : (p : Policy) → Pictures p s []

-- the same frame goes on: accepted, with the answer byte
pub record Stays (p : Policy) (st : Stack) (m : Moved Stack) (s : Passed) (b : ℕ) : Type 0 where
  pub number : m.number ≡ 0
  pub byte : b ≡ m.byte
  pub pictures : Pictures p s m.state
  pub level : length m.state ≡ length st
  pub under : below m.state ≡ below st

-- a call: the callee goes on, over the stack that there was
pub record Descends (p : Policy) (st : Stack) (m : Moved Stack) (s : Passed) : Type 0 where
  pub number : m.number ≡ 0
  pub byte : m.byte ≡ 0
  pub pictures : Pictures p s m.state
  pub under : below m.state ≡ st

-- a return: the caller goes on, with the set it had at the call
pub record Ascends (st : Stack) (m : Moved Stack) : Type 0 where
  pub number : m.number ≡ 0
  pub byte : m.byte ≡ 0
  pub framed : length st ≢ 0
  pub stack : m.state ≡ below st

-- refused by the number
pub record Refuses (m : Moved Stack) (n : ℕ) : Type 0 where
  pub number : n ≡ m.number
  pub refused : n ≢ 0

-- document 01's number and values for each case of the answer, against what the definition's step gives on a stack
abbrev pub Goes : Policy → Stack → Moved Stack → Led → Type 0
Goes p st m (Stay s b) = Stays p st m s b
Goes p st m (Down s) = Descends p st m s
Goes p st m Up = Ascends st m
Goes p st m (Refused n) = Refuses m n

-- an operation that the caller has decoded: exactly, on the four words; and against the belief sets, on each stack that they picture
pub record Passes (p : Policy) (s : Passed) (op : Operation) (r : Led) : Type 0 where
  pub exact : r ≡ next_of p s op
  pub serves : valid p ≡ true → outside_of p op ≡ 0 → (st : Stack) → Pictures p s st → Goes p st (step false p op st) r
