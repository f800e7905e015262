-- The rows below S and those from S on are each tested together.
use mathlib.Core.Path.{◌≡◌, ◌∙◌}
use mathlib.Core.Bool.{◌&&◌}
use Prim.Native.Nat.{◌+◌, ◌-◌}
use lib.Bits.{bit_or}
use lib.Dec.{eqb}
use lib.ListN.{take, drop}
use Rattle.std.specs.List.{fold}
use Rattle.beliefs.specs.Lists.{each}
use Rattle.beliefs.specs.Policy.{row_fits}
use Rattle.policy.proofs.Fits.{rows_tested}
use Rattle.policy.proofs.rows_fit.Goals as goal
use Rattle.policy.proofs.rows_fit.Goals.{After-fits}

-- what is left of the definition once the rows below S were tested
past : (c : goal.After-fits)
    → let p = c.args.policy.now in
    let s = c.signers-rows.result in
    each (row_fits p) 32 ≡ (c.fits.result && eqb (fold bit_or 0 (take (32 - s) (drop (3 + s) p))) 0)
past c =
    rows_tested c.args.policy.now c.told-policy c.requires
    ∙ rw (← c.signers-rows.ensures, ← c.targets.ensures, ← c.rows_together.ensures, ← c.fits.ensures)

pub returns-then-fits : goal.returns-then-fits
returns-then-fits c = rw (past (goal.at.returns-then-fits c).After-fits, c.if-fits.true, c.rows_together-then-fits.ensures)

pub returns-else-fits : goal.returns-else-fits
returns-else-fits c = rw (past (goal.at.returns-else-fits c).After-fits, c.if-fits.false)
