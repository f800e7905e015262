-- What a frame begins with at depth 0, and above a caller.
use borrow.Author.Tests.{eq-eqb, ne_eqb}
use mathlib.Core.Path.{◌≡◌, sym, ◌∙◌}
use mathlib.Core.List.{List}
use Prim.Native.Nat.{ℕ, ◌+◌, ◌-◌}
use native.Mathlib.Omega.{arith}
use Rattle.beliefs.specs.Policy.{Policy}
use Rattle.record.specs.Layout.{words_from, depth, held_at, filled}
use Rattle.record.specs.Does.{start_word, longer, handed}
use Rattle.record.proofs.Frames.{filled_ext}
use Rattle.record.proofs.begin.Goals as goal

first : (p : Policy) (s : List ℕ) → depth s ≡ 0 → filled (words_from 0) (start_word p) 64 s ≡ filled (words_from (depth s)) (handed p s) 64 s
unfolding handed
first p s e = rw e (filled_ext (words_from 0) (start_word p) (handed p s) s 64 (λ k l. rw (eq-eqb (depth s) 0 e)))

deeper : (p : Policy) (s : List ℕ) (j : ℕ) → depth s ≡ j + 1
    → filled (words_from (j + 1)) (λ t. longer (held_at s j t)) 64 s ≡ filled (words_from (depth s)) (handed p s) 64 s
unfolding handed
deeper p s j e =
    let below : depth s - 1 ≡ j = omega arith in
    rw (← e) (filled_ext (words_from (depth s)) (λ t. longer (held_at s j t)) (handed p s) s 64 (λ k l. rw (ne_eqb (depth s) 0 (omega arith), below)))

pub returns-then-d-eq0 : goal.returns-then-d-eq0
returns-then-d-eq0 c =
    c.start.ensures ∙ first _ _ (sym c.depth-d.ensures ∙ c.if-d-eq0.true)

pub returns-else-d-eq0 : goal.returns-else-d-eq0
returns-else-d-eq0 c =
    c.hand_down.ensures ∙ deeper c.args.policy.now c.args.state.now _ (omega arith)
