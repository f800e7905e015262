-- What is left to judge, from the chain that the steps so far have made.
use borrow.Author.Tests.{eqb-true, eqb-false}
use native.Mathlib.Omega.{arith}
use mathlib.Core.Bool.{◌&&◌}
use mathlib.Core.Logic.{◌≢◌}
use mathlib.Core.Path.{◌≡◌, refl, sym, ◌∙◌}
use lib.Dec.{eqb}
use lib.ListN.{length}
use Rattle.std.proofs.lemmas.Result.{err_from_is_err_and}
use Rattle.std.specs.Prelude.{Ok, Err}
use Rattle.answers.proofs.Refusals.{some_number, unless_number}
use Rattle.walk.specs.Layout.{frames}
use Rattle.derivation.proofs.Judged.{went, went_on, ended}
use Rattle.derivation.proofs.judge.Goals as goal
use Rattle.derivation.proofs.judge.Goals.{After-unless}

-- the test after the loop is the definition's: there was a step, and nothing is left of the chain
tested : (c : After-unless) → c.if-not-is_empty.unless ≡ (went c.loop-i.i && eqb c.loop-i.chain.len 0)
tested c =
    let a = c.args in
    let e : c.loop-i.i ≡ length a.steps.now = omega arith in
    elim c.if-not-is_empty.branch [
      | goal.then-not-is_empty w ↦
          let some_step : length a.steps.now ≢ 0 = eqb-false _ 0 (sym c.is_empty.ensures ∙ w.if-not-is_empty.true) in
          w.unless-is ∙ rw (went_on c.loop-i.i (λ z. some_step (sym e ∙ z)))
      | goal.else-not-is_empty w ↦
          let none : c.loop-i.i ≡ 0 = e ∙ eqb-true _ 0 (sym c.is_empty.ensures ∙ w.if-not-is_empty.false) in
          rw (w.unless-is, w.if-not-is_empty.false, none)
    ]

pub returns-in_err-unless : goal.returns-in_err-unless
returns-in_err-unless c =
    let a = c.args in
    let p = err_from_is_err_and c.from_residual-in_err-unless.result c.from_residual-in_err-unless.ensures.1 in
    let end = ended a.policy.now (frames a.state.now) a.target a.steps.now c.loop-i.i c.loop-i.chain (omega arith) _
    (tested (goal.at.returns-in_err-unless c).After-unless) in
    let why = c.in_err-unless.field-0.0 in
    rw (p.1, p.2, c.loop-i.invariant.1 ∙ end, ← unless_number _ _ (Err why) c.in_err-unless.ensures, some_number why) (record { number = refl; figure = refl })

pub returns : goal.returns
returns c =
    let a = c.args in
    let end = ended a.policy.now (frames a.state.now) a.target a.steps.now c.loop-i.i c.loop-i.chain (omega arith) _
    (tested (goal.at.returns c).After-unless) in
    rw (c.loop-i.invariant.1 ∙ end, ← unless_number _ _ (Ok tt) c.in_ok-unless.ensures) (record { number = refl; figure = refl })
