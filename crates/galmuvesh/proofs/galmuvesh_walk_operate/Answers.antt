-- The answer is the engine's, its byte written as `answered` says.
use Rattle.beliefs.proofs.Engine.{operated}
use Rattle.walk.specs.Pictures.{by_walk}
use Rattle.galmuvesh.proofs.galmuvesh_walk_operate.Goals as goal

pub returns : goal.returns
returns c = rw c.answered.ensures.number (operated by_walk _ _ _ _ _ _ c.operate.ensures _ c.answered.ensures.byte)
