-- The parts are put in the definition's order.
use Rattle.lines.specs.Text.{end_line}
use Rattle.lines.proofs.end_text.Goals as goal

pub returns : goal.returns
unfolding end_line
returns c = rw (c.push_item.ensures.text, c.push_str.ensures.bytes, c.clear.ensures)
