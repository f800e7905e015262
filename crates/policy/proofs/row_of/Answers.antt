-- The bytes are read from the last to the first, each eight targets below those after it.
use Rattle.std.proofs.Common.{rules, ◌≡◌, ◌∙◌, fold}
use mathlib.Core.List.{reverse}
use Rattle.policy.proofs.Rows.{byte_on, row_read}
use Rattle.policy.proofs.row_of.Goals as goal

pub returns : goal.returns
returns c =
    let bs = c.args.bytes.now in
    let e : c.fold.result ≡ fold byte_on 0 (reverse bs) = search rules in
    e ∙ row_read bs c.requires
