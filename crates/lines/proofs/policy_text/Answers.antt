-- The parts are put in the definition's order.
use Rattle.lines.specs.Text.{policy_line}
use Rattle.lines.proofs.policy_text.Goals as goal

pub returns : goal.returns
unfolding policy_line
returns c =
    rw (c.push_str-2.ensures.bytes, c.push_item-2.ensures.text, c.push_item.ensures.text, c.push_str.ensures.bytes, c.clear.ensures)
    (rw (c.start.ensures.text, c.is_full.ensures, c.targets.ensures, c.signers.ensures))
