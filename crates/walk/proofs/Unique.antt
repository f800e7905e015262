-- Each promise fixes its result and the words left: of two that both keep it, one is the other. Assumes nothing.
use Rattle.bits.proofs.Unique.{Fixes, alone}
use Rattle.answers.proofs.Unique.{gives_unique}
use Rattle.walk.specs.contracts as contracts
use Rattle.walk.proofs.depth as depth
use Rattle.walk.proofs.frame as frame
use Rattle.walk.proofs.check as check
use Rattle.walk.proofs.serve as serve
use Rattle.walk.proofs.valid as valid
use Rattle.walk.proofs.WalkEngine.fresh as engine_fresh
use Rattle.walk.proofs.WalkEngine.valid as engine_valid
use Rattle.walk.proofs.WalkEngine.serve as engine_serve

pub depth_unique : Fixes contracts.depth.ended depth.Reads.Post
depth_unique _ _ _ _ _ _ = alone

pub frame_unique : Fixes contracts.frame.ended frame.Reads.Post
frame_unique _ _ _ _ _ _ = alone

pub check_unique : Fixes contracts.check.ended check.Reads.Post
check_unique _ _ _ _ _ _ = alone

pub serve_unique : Fixes contracts.serve.ended serve.Reads.Post
serve_unique _ _ _ _ _ _ h k = gives_unique (λ w. (tt, (w, (tt, tt)))) h.gives k.gives

pub valid_unique : Fixes contracts.valid.ended valid.Reads.Post
valid_unique _ _ _ _ _ _ = alone

-- as an engine
pub engine_fresh_unique : Fixes contracts.WalkEngine.fresh.ended engine_fresh.Reads.Post
engine_fresh_unique _ _ _ _ _ _ = alone

pub engine_valid_unique : Fixes contracts.WalkEngine.valid.ended engine_valid.Reads.Post
engine_valid_unique _ _ _ _ _ _ = alone

pub engine_serve_unique : Fixes contracts.WalkEngine.serve.ended engine_serve.Reads.Post
engine_serve_unique _ _ _ _ _ _ h k = gives_unique (λ w. (tt, (w, (tt, tt)))) h.gives k.gives
