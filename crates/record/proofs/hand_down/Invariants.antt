-- After t turns the words of the first t targets are one longer, and those that are read stay as they were.
use mathlib.Core.Path.{◌≡◌}
use Prim.Native.Nat.{◌+◌}
use Rattle.record.specs.Layout.{words_from, held_at, filled}
use Rattle.record.specs.Does.{longer}
use Rattle.record.proofs.hand_down.Given as goal

abbrev pub invariant-loop-t : goal.invariant-loop-t
invariant-loop-t l = l.state ≡ filled (words_from (l.caller + 1)) (λ u. longer (held_at l.initial.state l.caller u)) l.t l.initial.state
