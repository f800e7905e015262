-- The promise fixes the answer, and what is left in the state that is lent: of two that both keep it, one is the other, for every engine. What
-- `engine.apart` says each engine proves where it is written.
use mathlib.Core.Path.{◌≡◌}
use denote.RattleType.{RattleType}
use denote.Param.Laws.{Laws, IsCopy}
use mir.Syntax.{Dict}
use seplogic.Ra.Ura.{Ura}
use types.Logic.{Logic}
use prog.Model.{Model}
use prog.Routine.{Env}
use contract.Running.{Running}
use Rattle.std.specs.declared.clone.Clone as Clone
use Rattle.bits.proofs.Unique.{Fixes}
use Rattle.answers.proofs.Unique.{gives_unique}
use Rattle.engine.specs.declared.Engine as Engine
use Rattle.engine.specs.contracts as contracts
use Rattle.engine.proofs.operate as operate

module _ {M : Type 1} {𝓤 : Ura M} {𝓛 : Logic 𝓤} {𝓜 : Model 𝓤 𝓛.H} {𝓡 : Running 𝓤 𝓛.H 𝓜} {env : Env} where
  pub operate_unique : (E S : RattleType) (l : Laws E) (m : Laws S) (copied : IsCopy S) (e : Engine.Ghosts E.Denot S.Denot) (c : Clone.Ghosts S.Denot)
      (d k : Dict) (engine : contracts.Engine.TheBound.Met 𝓛 𝓜 𝓡 env E S e d c k)
      → Fixes (contracts.operate.ended E S e d c k) (operate.Reads.Post E S l m copied e d c k)
  operate_unique _ _ _ _ _ _ _ _ _ engine _ _ _ _ _ _ h n =
      let g = gives_unique (λ w. w) h.exact n.exact in (g.0, λ i. (tt, (engine.apart _ _ g.1 i, (tt, tt))))
