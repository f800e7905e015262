-- Every row is a row at a number below theirs.
use Rattle.std.proofs.Common.{rules, arith, refl, ◌∙◌, ℕ, get_or, drop}
use Rattle.std.proofs.lemmas.Iterator.{YieldsList-from_range}
use Rattle.std.proofs.lemmas.Iterator.Search.{all_from_yields_List}
use borrow.Author.Tests.{tests}
use Rattle.bits.specs.Bit.{below}
use Rattle.beliefs.specs.Policy.{rows_of}
use Rattle.policy.proofs.Rows.{rows_all}
use Rattle.policy.proofs.padding_clear.Goals as goal

pub returns : goal.returns
returns c =
    let a = c.args in
    let rest = drop 2 a.bytes.now in
    let clear = λ (s : ℕ). below (get_or (rows_of a.rows a.wide rest) s 0) a.n in
    all_from_yields_List clear _ _ c.all.result c.all.ensures.ran (YieldsList-from_range 0 a.rows a.rows refl (omega arith)) (λ x b q k. search (rules, tests))
    ∙ rows_all a.rows a.wide rest (λ w. below w a.n)
