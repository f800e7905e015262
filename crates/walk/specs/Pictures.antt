-- The belief sets and the marks of a stack tell the same, under a policy; which stack a walk state pictures; and the walk as an engine.
use Rattle.std.specs.Prelude.{◌≡◌, true, not, ◌&&◌, List, [], ◌∷◌, map, ℕ, ◌^◌, ◌≤◌, ◌<◌, length, get_or}
use Rattle.bits.specs.Bit.{bit}
use Rattle.beliefs.specs.Lists.{any}
use Rattle.beliefs.specs.declared.Marked.{Marked}
use Rattle.beliefs.specs.Policy.{Policy, Target, signers, targets}
use Rattle.beliefs.specs.Stack.{Frame, Stack, own, granted, marked, nobody}
use Rattle.beliefs.specs.Engine.{inherited, Engine}
use Rattle.walk.specs.Layout.{depth, frame_at, frames}
use Rattle.walk.specs.Fits.{fits}
use Rattle.walk.specs.Does.{does}

-- a frame owns what it has enabled, and inherited what its callers are granted and it has not disabled
pub record Sound (p : Policy) (f : Frame) (r : Stack) : Type 0 where
  pub owns : (t : Target) → any (own t) f.beliefs ≡ bit f.enabled t
  pub inherits : (t : Target) → any (inherited p t) f.beliefs ≡ (not (bit f.disabled t) && granted p t r)

abbrev pub Coherent : Policy → Stack → Type 0
Coherent p [] = Unit {0}
Coherent p (f ∷ r) = Sound p f r × Coherent p r

-- a frame of a signer below S, with marks for targets below N only
pub record Used (p : Policy) (m : Marked) : Type 0 where
  pub signer : m.signer < signers p
  pub enabled : m.enabled < 2 ^ targets p
  pub disabled : m.disabled < 2 ^ targets p

-- the state's frames are the stack's, each one of the policy's, with nothing but zero above them
pub record Pictures (p : Policy) (s : List ℕ) (st : Stack) : Type 0 where
  pub room : length st ≤ 63
  pub deep : get_or s 0 0 ≡ length st
  pub same : frames s ≡ map marked st
  pub coherent : Coherent p st
  pub used : (j : ℕ) → j < length st → Used p (frame_at s j)
  pub above : (j : ℕ) → length st ≤ j → j < 63 → frame_at s j ≡ nobody

abbrev pub by_walk : Engine
by_walk = record { size = 190; counts = true; depth = depth; fits = fits; does = does; Pictures = Pictures }
