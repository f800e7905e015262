-- The verdict's kind in the two high bits, the count in the six low ones.
use Rattle.answers.proofs.verdict_byte.Goals as goal

pub returns-then-granted : goal.returns-then-granted
returns-then-granted c = rw c.if-granted.true

pub returns-else-granted : goal.returns-else-granted
returns-else-granted c = rw c.if-granted.false
