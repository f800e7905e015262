-- Each run's promise fixes its report and every byte of the lent buffer: of two that both keep it, one is the other. Assumes nothing.
use denote.RattleType.{RattleType}
use denote.Param.Laws.{Laws, IsCopy}
use mir.Syntax.{Dict}
use Rattle.std.specs.declared.clone.Clone as Clone
use Rattle.bits.proofs.Unique.{Fixes}
use Rattle.answers.proofs.Unique.{reported_unique}
use Rattle.runner.specs.contracts as contracts
use Rattle.engine.specs.declared.Engine as Engine
use Rattle.runner.proofs.run as run
use Rattle.runner.proofs.passed_run as passed_run

-- for every engine
pub run_unique : (E S : RattleType) (l : Laws E) (m : Laws S) (copied : IsCopy S)
    (e : Engine.Ghosts E.Denot S.Denot) (d : Dict) (c : Clone.Ghosts S.Denot) (k : Dict)
    → Fixes (contracts.run.ended E S e d c k) (run.Reads.Post E S l m copied e d c k)
run_unique _ _ _ _ _ _ _ _ _ _ _ _ _ _ _ = reported_unique (λ w. (tt, (tt, (w, tt))))

pub passed_run_unique : Fixes contracts.passed_run.ended passed_run.Reads.Post
passed_run_unique _ _ _ _ _ _ = reported_unique (λ w. (tt, (tt, (w, tt))))
