-- The state pictures the stack that is reached, and the answers so far are the definition's (Going).
use mathlib.Core.Path.{◌≡◌, refl, sym}
use mathlib.Core.Bool.{true}
use Prim.Native.Nat.{◌+◌, ◌*◌, ◌/◌, ◌%◌, ◌≤◌, ◌<◌}
use native.Mathlib.Omega.{arith}
use lib.ListN.{length, length-set}
use borrow.Author.Tests.{eqb-false}
use Rattle.std.proofs.lemmas.Result.{err_from_is_err_and}
use Rattle.answers.proofs.Refusals.{some_number, stopped_ok, stopped_err}
use Rattle.beliefs.specs.Policy.{valid}
use Rattle.runner.proofs.Progress.{not_barred, at_once, in_the_end}
use Rattle.runner.proofs.Going.{Reads, its_index, start, over, bad_word, bad_op, onward}
use Rattle.runner.proofs.run.Given.{Over}
use Rattle.runner.proofs.run.Goals as goal
use Rattle.runner.proofs.run.Goals.{In_ok-refusal, In-Ok, After-decode_at-decoded}

pub returns-in_err-refusal : goal.returns-in_err-refusal
returns-in_err-refusal g c =
    let p = err_from_is_err_and c.from_residual.result c.from_residual.ensures.1 in
    rw (p.1, p.2) (at_once _ _ _ _ _ c.in_err-refusal.ensures (eqb-false _ 0 (some_number c.in_err-refusal.field-0.0)))

-- what the first tests left
ready : (g : Over) (c : goal.In_ok-refusal g) → (valid c.args.policy.now ≡ true) × (length c.args.trace.now % 2 ≡ 0) ×
    (length c.args.trace.now / 2 ≤ length c.args.answers.now)
ready g c = not_barred true c.args.policy.now c.args.trace.now c.args.answers.now (sym c.in_ok-refusal.ensures)

more : (g : Over) (c : goal.After-decode_at-decoded g) → 2 * c.loop-i.i + 1 < length c.args.trace.now
more g c = omega arith

word : (g : Over) (c : goal.In-Ok g) → Reads c.args.policy.now c.args.trace.now c.loop-i.i c.in-Ok.word
word g c =
    record {
      more = more g (goal.at.In-Ok g c).After-decode_at-decoded;
      word = c.in-Ok.ensures;
      policy = (ready g (goal.at.In-Ok g c).In_ok-refusal).0;
    }

pub loop-i-init : goal.loop-i-init
loop-i-init g c = (refl, rw c.fresh-state.ensures (start _ _ _ _))

pub returns-in_default : goal.returns-in_default
returns-in_default g c =
    rw c.at.ensures
    (in_the_end _ _ _ _ (sym c.in_ok-refusal.ensures) _ _ _ (bad_word _ _ _ _ _ _ _ c.loop-i.invariant.1
    (more g (goal.at.returns-in_default g c).After-decode_at-decoded) _ c.decode_at-decoded.ensures _ c.unwrap_err.ensures))

pub returns-in_err-answers : goal.returns-in_err-answers
returns-in_err-answers g c =
    let p = err_from_is_err_and c.from_residual-in_err-answers.result c.from_residual-in_err-answers.ensures.1 in
    let q = stopped_err _ _ _ (sym c.in_err-answers.ensures) in
    let w = word g (goal.at.returns-in_err-answers g c).In-Ok in
    rw (p.1, p.2, q.1, its_index w)
    (in_the_end _ _ _ _ (sym c.in_ok-refusal.ensures) _ _ _ (bad_op _ _ _ _ _ _ _ c.loop-i.invariant.1 _ w _ _ c.serve.ensures _ q.0))

pub bounds-answers-i : goal.bounds-answers-i
bounds-answers-i g c = omega (arith, ready g (goal.at.bounds-answers-i g c).In_ok-refusal, c.loop-i.invariant.0)

pub loop-i-preserved : goal.loop-i-preserved
loop-i-preserved g c =
    let served = stopped_ok _ _ _ (sym c.in_ok-answers.ensures) in (
      simp length-set c.loop-i.invariant.0,
      onward _ _ _ _ _ _ _ c.loop-i.invariant.1 _ (word g (goal.at.loop-i-preserved g c).In-Ok) _ _ c.serve.ensures _ served,
    )

pub returns : goal.returns
returns g c =
    let e : c.loop-i.i ≡ length c.args.trace.now / 2 = omega arith in
    let even = (ready g (goal.at.returns g c).In_ok-refusal).1 in
    rw (sym e)
    (in_the_end _ _ _ _ (sym c.in_ok-refusal.ensures) _ _ _ (over _ _ _ _ _ _ _ c.loop-i.invariant.1 (omega arith)))
