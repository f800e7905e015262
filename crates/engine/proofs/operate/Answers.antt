-- Each way out is one of the ways out of any engine's operation word (beliefs, Engine).
use mathlib.Core.Path.{◌≡◌, sym}
use borrow.Author.Tests.{eqb-false}
use Rattle.std.specs.Prelude.{Ok, Err}
use Rattle.std.proofs.lemmas.Result.{err_from_is_err_and}
use Rattle.answers.proofs.Refusals.{first_refuses, first_passes, unless_number, some_number}
use Rattle.beliefs.specs.Policy.{refusal_in}
use Rattle.beliefs.proofs.Engine.{bad_state_lem, bad_word, done_word}
use Rattle.engine.proofs.operate.Given.{Over}
use Rattle.engine.proofs.operate.Goals as goal
use Rattle.engine.proofs.operate.Goals.{In_ok-unless}

-- past 13 and 14
passed : (g : Over) (c : In_ok-unless g) → refusal_in c.args.policy.now (g.E.Engine.by.fits c.args.policy.now (g.E.Engine.words c.args.state.now)) ≡ 0
passed g c = rw (← c.valid.ensures) (sym (first_passes _ _ _ c.in_ok-refusal.ensures (unless_number _ _ (Ok tt) c.in_ok-unless.ensures)))

pub returns-in_err-refusal : goal.returns-in_err-refusal
returns-in_err-refusal g c =
    let p = err_from_is_err_and c.from_residual.result c.from_residual.ensures.1 in
    rw (p.1, p.2)
    (bad_state_lem g.E.Engine.by _ _ _ _ (first_refuses _ _ _ c.in_err-refusal.ensures) (eqb-false _ 0 (some_number c.in_err-refusal.field-0.0)))

pub returns-in_err-unless : goal.returns-in_err-unless
returns-in_err-unless g c =
    let p = err_from_is_err_and c.from_residual-in_err-unless.result c.from_residual-in_err-unless.ensures.1 in
    let why = c.in_err-unless.field-0.0 in
    let said = first_passes _ _ _ c.in_ok-refusal.ensures (unless_number _ _ (Err why) c.in_err-unless.ensures) in
    rw (p.1, p.2) (bad_state_lem g.E.Engine.by _ _ _ _ (rw (← c.valid.ensures) said) (eqb-false _ 0 (some_number why)))

pub returns-in_err-word : goal.returns-in_err-word
returns-in_err-word g c =
    let p = err_from_is_err_and c.from_residual-in_err-word.result c.from_residual-in_err-word.ensures.1 in
    rw (p.1, p.2)
    (bad_word g.E.Engine.by _ _ _ (passed g (goal.at.returns-in_err-word g c).In_ok-unless) _ (sym c.in_err-word.ensures))

pub returns : goal.returns
returns g c =
    done_word g.E.Engine.by _ _ _ (passed g (goal.at.returns g c).In_ok-unless) _ (sym c.in_ok-word.ensures) _ _ c.serve.ensures
