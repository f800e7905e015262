-- The parts are put in the definition's order.
use Rattle.lines.specs.Text.{check_line}
use Rattle.lines.proofs.check_text.Goals as goal

pub returns : goal.returns
unfolding check_line
returns c =
    rw (c.push_item-3.ensures.text, c.push_str.ensures.bytes, c.push_item-2.ensures.text, c.push_item.ensures.text, c.clear.ensures)
    (rw c.verdict.ensures.text)
