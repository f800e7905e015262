-- The line's length decides, and its bytes take the place of as many at the front.
use native.Mathlib.Omega.{arith}
use Rattle.lines.proofs.After.{at_front}
use Rattle.lines.proofs.deliver.Goals as goal

pub returns : goal.returns
returns c = (
  omega arith,
  record {
    until = omega arith;
    buffer = rw (c.copy_from_slice.ensures.after, c.as_bytes.ensures.value, c.as_str.ensures.value, c.len-len.ensures.value)
        (at_front c.args.out.now c.args.line.now.bytes (omega arith));
  },
)
