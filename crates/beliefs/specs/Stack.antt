-- "Belief sets and what moves them", and the walk's count of "The three answers".
use Rattle.std.specs.Prelude.{Bool, true, false, cond, not, ◌&&◌, List, [], ◌∷◌, map, ℕ, zero, suc, eqb}
use Rattle.bits.specs.Bit.{bit, with_bit, without_bit, lowest}
use Rattle.beliefs.specs.declared.Marked.{Marked}
use Rattle.beliefs.specs.declared.Seen.{Seen}
use Rattle.beliefs.specs.Lists.{any, all, keep, empty}
use Rattle.beliefs.specs.Policy.{Policy, Target, start, targets, permits}

-- a frame is a principal: its place, 1 at the bottom, is its name, and it speaks for the signer of its code
pub record Principal : Type 0 where
  pub place : ℕ
  pub signer : ℕ

-- a belief: a chain of frames saying Ok(T), possibly an empty chain
pub record Belief : Type 0 where
  pub chain : List Principal
  pub target : Target

-- a frame with its belief set; its marks, a bit for each target, serve the count of frames looked at
pub record Frame : Type 0 where
  pub principal : Principal
  pub beliefs : List Belief
  pub enabled : ℕ
  pub disabled : ℕ

-- newest first
abbrev pub Stack : Type 0
Stack = List Frame

-- Ok(T) itself, with the empty chain
abbrev pub ok : Target → Belief
ok t = record { chain = []; target = t }

-- a belief that mentions Ok(T); Ok(T) itself
abbrev pub on : Target → Belief → Bool
on t b = eqb b.target t

abbrev pub own : Target → Belief → Bool
own t b = on t b && empty b.chain

-- with a frame's name put in front
abbrev pub said : Principal → Belief → Belief
said x b = record { chain = x ∷ b.chain; target = b.target }

-- Ok(T) for each target below n
abbrev pub oks : ℕ → List Belief
oks zero = []
oks (suc n) = ok n ∷ oks n

-- what a start hands a bottom frame: nothing under an empty start, Ok(T) for each of the N targets under a full one
abbrev pub full : Policy → Bool
full p = eqb (start p) 1

abbrev pub start_beliefs : Policy → List Belief
start_beliefs p = cond (full p) (oks (targets p)) []

abbrev pub start_marks : Policy → ℕ
start_marks p = cond (full p) (lowest (targets p)) 0

-- call: a bottom frame at depth 0; deeper, every belief of the caller with the caller's name put in front
unfoldable pub called : Policy → ℕ → Stack → Frame
called p s [] = record { principal = record { place = 1; signer = s }; beliefs = start_beliefs p; enabled = start_marks p; disabled = 0 }
called p s (f ∷ r) = record {
  principal = record { place = suc f.principal.place; signer = s };
  beliefs = map (said f.principal) f.beliefs;
  enabled = 0;
  disabled = 0;
}

-- enable adds Ok(T), whether or not the policy permits the signer
unfoldable pub enable : Target → Frame → Frame
enable t f = record { principal = f.principal; beliefs = ok t ∷ f.beliefs; enabled = with_bit f.enabled t; disabled = f.disabled }

-- disable removes every belief that mentions Ok(T)
unfoldable pub disable : Target → Frame → Frame
disable t f = record {
  principal = f.principal;
  beliefs = keep (λ b. not (on t b)) f.beliefs;
  enabled = without_bit f.enabled t;
  disabled = with_bit f.disabled t;
}

-- revert removes only Ok(T) itself, and leaves the disabled mark
unfoldable pub revert : Target → Frame → Frame
revert t f = record {
  principal = f.principal;
  beliefs = keep (λ b. not (own t b)) f.beliefs;
  enabled = without_bit f.enabled t;
  disabled = f.disabled;
}

-- a frame whose signer is permitted T
abbrev pub permitted : Policy → Target → Principal → Bool
permitted p t x = permits p x.signer t

-- check: some belief of the newest frame on T, where every frame of it followed by the chain has a signer permitted T
unfoldable pub granted : Policy → Target → Stack → Bool
granted p t [] = false
granted p t (f ∷ r) = any (λ b. on t b && all (permitted p t) (f.principal ∷ b.chain)) f.beliefs

-- what the walk reads of a frame
abbrev pub marked : Frame → Marked
marked f = record { signer = f.principal.signer; enabled = f.enabled; disabled = f.disabled }

abbrev pub nobody : Marked
nobody = record { signer = 0; enabled = 0; disabled = 0 }

abbrev pub decides : Bool → Seen
decides v = record { granted = v; looked = 1 }

abbrev pub goes_on : Seen → Seen
goes_on s = record { granted = s.granted; looked = suc s.looked }

-- newest to oldest: not permitted, forbidden; else enabled, granted; else disabled, forbidden; else on. Past the bottom, forbidden
unfoldable pub walk : Policy → Target → List Marked → Seen
walk p t [] = record { granted = false; looked = 0 }
walk p t (m ∷ ms) =
    cond (permits p m.signer t)
    (cond (bit m.enabled t) (decides true)
    (cond (bit m.disabled t) (decides false)
    (goes_on (walk p t ms))))
    (decides false)
