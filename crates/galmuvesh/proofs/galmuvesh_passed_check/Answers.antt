-- Let through, the answer is the byte of the method's verdict, else as it was lent; what is exactly given serves the belief sets (Passing).
use mathlib.Core.Path.{ap, ◌∙◌}
use mathlib.Core.Bool.{Bool}
use Rattle.answers.specs.Answer.{verdict_byte}
use Rattle.answers.proofs.Refusals.{some_number}
use Rattle.words.specs.declared.Operation.TheVariants.{Check}
use Rattle.passed.specs.declared.Passed.{Passed}
use Rattle.passed.specs.Does.{check_of, refused_by}
use Rattle.galmuvesh.proofs.Passing.{asks_by}
use Rattle.galmuvesh.proofs.galmuvesh_passed_check.Goals as goal

pub returns-in-Ok : goal.returns-in-Ok
returns-in-Ok c =
    let a = c.args in
    let given = c.check.ensures ∙ ap (λ (s : Passed). check_of a.policy.now s a.target) c.from-s.ensures in
    asks_by _ _ _ _ _ _ (c.in-Ok.ensures ∙ ap (λ (s : Passed). refused_by a.policy.now s (Check a.target)) c.from-s.ensures)
    (c.verdict_byte.ensures ∙ ap (λ (v : Bool). verdict_byte v 0) given)

pub returns-in-Err : goal.returns-in-Err
returns-in-Err c =
    let a = c.args in
    let named = c.number.ensures in
    asks_by _ _ _ _ _ _ (named ∙ (c.in-Err.ensures ∙ ap (λ (s : Passed). refused_by a.policy.now s (Check a.target)) c.from-s.ensures))
    (rw (named, some_number c.in-Err.why))
