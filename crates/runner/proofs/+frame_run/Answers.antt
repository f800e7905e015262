-- A frame's run answers its own words and its callees', and every word takes one from the words left over. For every stack that the
-- frame's state pictures the answers are the definition's (Nested).
use mathlib.Core.Path.{◌≡◌, refl, sym, ap, ◌∙◌}
use mathlib.Core.Bool.{true, false}
use Prim.Native.Nat.{ℕ, ◌+◌, ◌*◌, ◌/◌, ◌%◌, ◌≤◌, ◌<◌}
use native.Mathlib.Omega.{arith}
use lib.ListN.{length, length-set}
use Rattle.std.proofs.lemmas.Result.{err_from_is_err_and}
use Rattle.std.specs.Prelude.{Ok}
use Rattle.answers.proofs.Refusals.{stopped_ok, stopped_err}
use Rattle.beliefs.specs.Policy.{valid}
use Rattle.passed.specs.declared.Next.{Next}
use Rattle.passed.specs.Does.{leading}
use Rattle.runner.proofs.Progress.{not_barred}
use Rattle.runner.proofs.Nested.{Onward, onward, leaves_over, leaves_bad_word, leaves_bad_op, leaves_up, onward_stay, leaves_down, onward_back}
use Rattle.runner.proofs.Going.{Reads, its_index}
use Rattle.runner.proofs.+frame_run.Goals as goal
use Rattle.runner.proofs.+frame_run.Goals.{Start, After-decode_at-decoded, In-Ok, In_ok-stop_at, In-Back}

-- what the first tests left
ready : (t : ℕ) (c : goal.Start t) → (valid c.args.policy.now ≡ true) × (length c.args.trace.now % 2 ≡ 0) ×
    (length c.args.trace.now / 2 ≤ length c.args.answers.now)
ready t c = not_barred true c.args.policy.now c.args.trace.now c.args.answers.now c.requires

more : (t : ℕ) (c : goal.After-decode_at-decoded t) → 2 * c.loop-i.i + 1 < length c.args.trace.now
more t c = omega arith

word : (t : ℕ) (c : goal.In-Ok t) → Reads c.args.policy.now c.args.trace.now c.loop-i.i c.in-Ok.word
word t c = record {
  more = more t (goal.at.In-Ok t c).After-decode_at-decoded;
  word = c.in-Ok.ensures;
  policy = (ready t (goal.at.In-Ok t c).Start).0;
}

-- where the word leads that nothing refuses
led : (t : ℕ) (c : goal.In_ok-stop_at t) (next : Next) → c.in_ok-stop_at.field-0 ≡ next → leading c.serve.result ≡ leading (Ok next)
led t c next e = ap leading (stopped_ok _ _ _ (sym c.in_ok-stop_at.ensures) ∙ ap Ok e)

pub loop-i-init : goal.loop-i-init
loop-i-init t c = (refl, onward _ _ _ _ _)

pub returns-in_default : goal.returns-in_default
returns-in_default t c =
    rw c.at.ensures
    (leaves_bad_word c.loop-i.invariant.1 (more t (goal.at.returns-in_default t c).After-decode_at-decoded) _
    (rw c.unwrap_err.ensures at c.decode_at-decoded.ensures))

pub returns-in_err-stop_at : goal.returns-in_err-stop_at
returns-in_err-stop_at t c =
    let p = err_from_is_err_and c.from_residual.result c.from_residual.ensures.1 in
    let q = stopped_err _ _ _ (sym c.in_err-stop_at.ensures) in
    let w = word t (goal.at.returns-in_err-stop_at t c).In-Ok in
    rw (p.1, p.2, q.1, its_index w) (leaves_bad_op c.loop-i.invariant.1 w c.serve.ensures _ (ap leading q.0))

pub bounds-answers-i : goal.bounds-answers-i
bounds-answers-i t c = omega (arith, ready t (goal.at.bounds-answers-i t c).Start, c.loop-i.invariant.0)

pub returns-in-Up : goal.returns-in-Up
returns-in-Up t c =
    leaves_up c.loop-i.invariant.1 (word t (goal.at.returns-in-Up t c).In-Ok) c.serve.ensures
    (led t (goal.at.returns-in-Up t c).In_ok-stop_at _ c.in-Up.is)

pub bounds-answers-i-in-Down : goal.bounds-answers-i-in-Down
bounds-answers-i-in-Down t c = omega (arith, ready t (goal.at.bounds-answers-i-in-Down t c).Start, c.loop-i.invariant.0)

pub frame_run-requires : goal.frame_run-requires
frame_run-requires t c = (omega arith, simp length-set (rw c.loop-i.invariant.0 c.requires))

pub returns-in_err-left-in-Down : goal.returns-in_err-left-in-Down
returns-in_err-left-in-Down t c =
    let p = err_from_is_err_and c.from_residual-in_err-left-in-Down.result c.from_residual-in_err-left-in-Down.ensures.1 in
    rw (p.1, p.2)
    (leaves_down c.loop-i.invariant.1 (word t (goal.at.returns-in_err-left-in-Down t c).In-Ok) c.serve.ensures _
    (led t (goal.at.returns-in_err-left-in-Down t c).In_ok-stop_at _ c.in-Down.is) _ _ _ false refl c.in_err-left-in-Down.ensures)

pub returns-in_default-left : goal.returns-in_default-left
returns-in_default-left t c =
    rw c.in_default-left.is
    (leaves_down c.loop-i.invariant.1 (word t (goal.at.returns-in_default-left t c).In-Ok) c.serve.ensures _
    (led t (goal.at.returns-in_default-left t c).In_ok-stop_at _ c.in-Down.is) _ _ _ false refl (rw c.in_default-left.is at c.in_ok-left-in-Down.ensures))

-- a callee that has come back
back : (t : ℕ) (c : In-Back t) → (c.loop-i.i < c.in-Back.at) ×
    Onward c.args.policy.now c.args.trace.now c.args.answers.now c.args.passed c.args.from c.in-Back.at c.loop-i.state c.frame_run.new.answers
back t c =
    onward_back c.loop-i.invariant.1 (word t (goal.at.In-Back t c).In-Ok) c.serve.ensures _
    (led t (goal.at.In-Back t c).In_ok-stop_at _ c.in-Down.is) _ _ _ true refl (rw c.in-Back.is at c.in_ok-left-in-Down.ensures)

pub loop-i-smaller-in-Down : goal.loop-i-smaller-in-Down
loop-i-smaller-in-Down t c = omega (arith, (back t (goal.at.loop-i-smaller-in-Down t c).In-Back).0)

pub loop-i-preserved-in-Down : goal.loop-i-preserved-in-Down
loop-i-preserved-in-Down t c = (c.frame_run.auto.answers ∙ simp length-set c.loop-i.invariant.0, (back t c).1)

pub bounds-answers-i-in-Stay : goal.bounds-answers-i-in-Stay
bounds-answers-i-in-Stay t c = omega (arith, ready t (goal.at.bounds-answers-i-in-Stay t c).Start, c.loop-i.invariant.0)

pub loop-i-preserved : goal.loop-i-preserved
loop-i-preserved t c = (
  simp length-set c.loop-i.invariant.0,
  onward_stay c.loop-i.invariant.1 (word t (goal.at.loop-i-preserved t c).In-Ok) c.serve.ensures _ _
      (led t (goal.at.loop-i-preserved t c).In_ok-stop_at _ c.in-Stay.is),
)

pub returns : goal.returns
returns t c = leaves_over c.loop-i.invariant.1 (omega (arith, ready t (goal.at.returns t c).Start))
