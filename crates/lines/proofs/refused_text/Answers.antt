-- The parts are put in the definition's order.
use Rattle.lines.specs.Text.{refused_line}
use Rattle.lines.proofs.refused_text.Goals as goal

pub returns : goal.returns
unfolding refused_line
returns c = rw (c.push_item-2.ensures.text, c.push_item.ensures.text, c.push_str.ensures.bytes, c.clear.ensures)
