-- The digits that itoa writes are the number's, and the character follows them.
use mathlib.Core.List.{append_assoc}
use Rattle.lines.proofs.Digits.{printed}
use Rattle.lines.proofs.push_item.Goals as goal

pub returns-clause-text : goal.returns-clause-text
returns-clause-text c =
    rw (c.push.ensures.ascii c.requires.ascii, c.push_str.ensures.bytes, c.format.ensures.text, printed c.args.n c.ranges.n.fits, append_assoc)
