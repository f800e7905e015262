-- Each promise fixes its result and what is left in the lent words: of two that both keep it, one is the other. Assumes nothing.
use Rattle.bits.proofs.Unique.{Fixes, alone}
use Rattle.answers.proofs.Unique.{gives_unique}
use Rattle.record.specs.contracts as contracts
use Rattle.record.proofs.valid as valid
use Rattle.record.proofs.serve as serve
use Rattle.record.proofs.RecordEngine.fresh as engine_fresh
use Rattle.record.proofs.RecordEngine.valid as engine_valid
use Rattle.record.proofs.RecordEngine.serve as engine_serve

pub valid_unique : Fixes contracts.valid.ended valid.Reads.Post
valid_unique _ _ _ _ _ _ = alone

pub serve_unique : Fixes contracts.serve.ended serve.Reads.Post
serve_unique _ _ _ _ _ _ h k = gives_unique (λ w. (tt, (w, (tt, tt)))) h.gives k.gives

-- as an engine
pub engine_fresh_unique : Fixes contracts.RecordEngine.fresh.ended engine_fresh.Reads.Post
engine_fresh_unique _ _ _ _ _ _ = alone

pub engine_valid_unique : Fixes contracts.RecordEngine.valid.ended engine_valid.Reads.Post
engine_valid_unique _ _ _ _ _ _ = alone

pub engine_serve_unique : Fixes contracts.RecordEngine.serve.ended engine_serve.Reads.Post
engine_serve_unique _ _ _ _ _ _ h k = gives_unique (λ w. (tt, (w, (tt, tt)))) h.gives k.gives
