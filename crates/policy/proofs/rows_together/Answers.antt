-- The rows by their numbers are a part of the policy's words.
use Rattle.std.proofs.Common.{rules, refl, ◌∙◌, ◌+◌, ◌-◌, ℕ, get_or, bit_or, arith}
use Rattle.std.proofs.lemmas.Iterator.{YieldsList-from_range}
use Rattle.std.proofs.lemmas.Iterator.Consumers.{fold_from_yields_List}
use borrow.Author.Tests.{tests}
use Rattle.policy.proofs.Fits.{rows_by_number}
use Rattle.policy.proofs.rows_together.Goals as goal

pub returns : goal.returns
returns c =
    let a = c.args in
    let n = a.to - a.from in
    let with_row = λ (w s : ℕ). bit_or w (get_or a.policy.now (3 + s) 0) in
    fold_from_yields_List _ with_row 0 c.fold.result c.fold.ensures.ran (YieldsList-from_range a.from a.to n refl refl) (λ w s b q k. search (rules, tests))
    ∙ rows_by_number a.policy.now 0 a.from n (omega arith)
