-- When a state pictures a stack of the definition; and the belief record as an engine.
use Rattle.std.specs.Prelude.{◌≡◌, Bool, false, ◌&&◌, List, [], ◌∷◌, map, ℕ, ◌≤◌, ◌<◌, eqb, length, get_or, take}
use Rattle.bits.specs.Bit.{bit}
use Rattle.beliefs.specs.Lists.{any}
use Rattle.beliefs.specs.Policy.{Policy, Target, signers, targets}
use Rattle.beliefs.specs.Stack.{Principal, Belief, Frame, Stack, on}
use Rattle.beliefs.specs.Engine.{Engine}
use Rattle.record.specs.Layout.{frame_from, depth, signer_at, held_at}
use Rattle.record.specs.Fits.{fits}
use Rattle.record.specs.Does.{does}

abbrev pub principals : Stack → List Principal
principals st = map (λ (f : Frame). f.principal) st

-- a belief of a frame above r: on a target below N, with a chain that is so many of the frames next below
pub record Founded (p : Policy) (r : Stack) (b : Belief) : Type 0 where
  pub target : b.target < targets p
  pub chain : b.chain ≡ take (length b.chain) (principals r)

abbrev pub AllFounded : Policy → Stack → List Belief → Type 0
AllFounded p r [] = Unit {0}
AllFounded p r (b ∷ bs) = Founded p r b × AllFounded p r bs

-- a belief on T with a chain of length k
abbrev pub with_length : Target → ℕ → Belief → Bool
with_length t k b = on t b && eqb (length b.chain) k

-- the words of a frame above r: its signer, and bit k of target t's word says that it holds a chain of length k on t
pub record FramePictured (p : Policy) (s : List ℕ) (f : Frame) (r : Stack) : Type 0 where
  pub known : f.principal.signer < signers p
  pub signer : signer_at s (length r) ≡ f.principal.signer
  pub founded : AllFounded p r f.beliefs
  pub lengths : (t : Target) (k : ℕ) → bit (held_at s (length r) t) k ≡ any (with_length t k) f.beliefs

abbrev pub FramesPictured : Policy → List ℕ → Stack → Type 0
FramesPictured p s [] = Unit {0}
FramesPictured p s (f ∷ r) = FramePictured p s f r × FramesPictured p s r

-- the depth, each frame, and nothing but zero in room above the depth
pub record Pictures (p : Policy) (s : List ℕ) (st : Stack) : Type 0 where
  pub room : length st ≤ 63
  pub deep : get_or s 0 0 ≡ length st
  pub frames : FramesPictured p s st
  pub above : (i : ℕ) → frame_from (length st) ≤ i → get_or s i 0 ≡ 0

abbrev pub by_record : Engine
by_record = record { size = 4096; counts = false; depth = depth; fits = fits; does = does; Pictures = Pictures }
