-- After t turns the first t words are those of the start.
use mathlib.Core.Path.{◌≡◌}
use Rattle.record.specs.Layout.{words_from, filled}
use Rattle.record.specs.Does.{start_word}
use Rattle.record.proofs.start.Given as goal

abbrev pub invariant-loop-t : goal.invariant-loop-t
invariant-loop-t l = l.state ≡ filled (words_from 0) (start_word l.policy) l.t l.initial.state
