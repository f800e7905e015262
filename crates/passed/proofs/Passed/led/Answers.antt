-- Each method says what its own case leads to.
use Rattle.passed.specs.Does.{led_to}
use Rattle.passed.proofs.Passed.led.Goals as goal

pub returns-in-Call : goal.returns-in-Call
unfolding led_to
returns-in-Call c = rw (c.in-Call.is, c.call.ensures)

pub returns-in-Return : goal.returns-in-Return
unfolding led_to
returns-in-Return c = rw c.in-Return.is

pub returns-in-Enable : goal.returns-in-Enable
unfolding led_to
returns-in-Enable c = rw (c.in-Enable.is, c.enable.ensures)

pub returns-in-Disable : goal.returns-in-Disable
unfolding led_to
returns-in-Disable c = rw (c.in-Disable.is, c.disable.ensures)

pub returns-in-Revert : goal.returns-in-Revert
unfolding led_to
returns-in-Revert c = rw (c.in-Revert.is, c.revert.ensures)

pub returns-in-Check : goal.returns-in-Check
unfolding led_to
returns-in-Check c = rw (c.in-Check.is, ← c.check.ensures, c.verdict_byte-byte.ensures)
