-- The state's number, then the operation's under the policy, then its own on so many frames.
use mathlib.Core.Path.{ap₂, ◌∙◌}
use Prim.Native.Nat.{ℕ}
use Rattle.std.proofs.lemmas.Result.{err_from_is_err_and}
use Rattle.answers.proofs.Refusals.{first_refuses, first_passes}
use Rattle.words.specs.Words.{outside}
use Rattle.policy.proofs.refusal_of.Goals as goal

pub returns-in_err-refusal_in : goal.returns-in_err-refusal_in
returns-in_err-refusal_in c =
    let p = err_from_is_err_and c.from_residual.result c.from_residual.ensures.1 in
    rw (p.1, p.2) (first_refuses _ _ _ c.in_err-refusal_in.ensures)

pub returns-in_err-outside : goal.returns-in_err-outside
returns-in_err-outside c =
    let p = err_from_is_err_and c.from_residual-in_err-outside.result c.from_residual-in_err-outside.ensures.1 in
    let out = c.in_err-outside.ensures ∙ ap₂ (λ (s n : ℕ). outside s n c.args.op) c.signers.ensures c.targets.ensures in
    rw (p.1, p.2) (first_passes _ _ _ c.in_ok-refusal_in.ensures (first_refuses _ _ _ out))

pub returns : goal.returns
returns c =
    let inside = c.in_ok-outside.ensures ∙ ap₂ (λ (s n : ℕ). outside s n c.args.op) c.signers.ensures c.targets.ensures in
    first_passes _ _ _ c.in_ok-refusal_in.ensures (first_passes _ _ _ inside c.barred.ensures)
