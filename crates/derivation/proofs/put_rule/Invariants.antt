-- What is stored before k and what is still to store from k on are together the rule at each place.
use Rattle.std.proofs.Common.{◌≡◌, length, ◌-◌}
use lib.Seq.{sets}
use Rattle.beliefs.specs.Derivation.{at_places}
use Rattle.derivation.specs.Rule.{number}
use Rattle.derivation.proofs.put_rule.Given as goal

abbrev pub invariant-loop-k : goal.invariant-loop-k
invariant-loop-k l =
    sets l.steps l.k (at_places (number l.rule) l.k (length l.initial.steps - l.k)) ≡ at_places (number l.rule) 0 (length l.initial.steps)
