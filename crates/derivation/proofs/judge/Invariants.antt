-- What is left to judge, from the chain that the steps so far have made: none before the first.
use Rattle.std.proofs.Common.{◌≡◌, false, []}
use Rattle.beliefs.specs.Derivation.{judge}
use Rattle.walk.specs.Layout.{frames}
use Rattle.derivation.proofs.Judged.{left}
use Rattle.derivation.proofs.judge.Given as goal

abbrev pub invariant-loop-i : goal.invariant-loop-i
invariant-loop-i l =
    (l.i ≡ 0 → l.chain.len ≡ 0) × (judge l.policy (frames l.state) l.target false 0 [] l.steps ≡ left l.policy (frames l.state) l.target l.steps l.i l.chain)
