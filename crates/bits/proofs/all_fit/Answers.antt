-- The bits of all the words together are below n where those of each are.
use Rattle.std.proofs.Common.{rules}
use Rattle.std.specs.Prelude.{fold, bit_or}
use mathlib.Core.Path.{◌≡◌, ap, ◌∙◌}
use Prim.Native.Nat.{ℕ}
use Rattle.bits.specs.Bit.{below}
use Rattle.bits.proofs.Laws.{below_together}
use Rattle.bits.proofs.all_fit.Goals as goal

pub returns : goal.returns
returns c =
    let a = c.args in
    let together : c.fold.result ≡ fold bit_or 0 a.words.now = search rules in
    c.fits.ensures ∙ (ap (λ (w : ℕ). below w a.n) together ∙ below_together a.words.now a.n)
