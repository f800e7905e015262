-- What the word is decoded to decides, and then its operation, as in the definition.
use borrow.Author.Rules.{rules}
use mathlib.Core.Path.{◌≡◌, refl, sym, ap, ◌∙◌}
use mathlib.Core.List.{[]}
use Prim.Native.Nat.{ℕ}
use lib.ListN.{get_or}
use Rattle.words.specs.declared.Operation.{Operation}
use Rattle.words.specs.declared.Operation.TheVariants.{Call, Return, Enable, Disable, Revert, Check}
use Rattle.words.specs.Words.{Decoded, decoding}
use Rattle.beliefs.specs.Policy.{reading}
use Rattle.lines.specs.Text.{op_line, decoded_line, word_line}
use Rattle.lines.proofs.Run.word.Goals as goal
use Rattle.lines.proofs.Run.word.Goals.{After-decode}

-- an operation that is not check
other : (op : Operation) (i answer : ℕ) → ((t : ℕ) → op ≡ Check t → ⊥) → op_line op i answer ≡ []
other (Call s) i answer h = refl
other Return i answer h = refl
other (Enable t) i answer h = refl
other (Disable t) i answer h = refl
other (Revert t) i answer h = refl
other (Check t) i answer h = absurd (h t refl)

-- the line, by what the word was decoded to
line : (c : After-decode) → let run = c.args.self.now in
    word_line run.policy.now run.trace.now run.answers.now c.args.index ≡ decoded_line (decoding c.decode.result) (get_or run.answers.now c.args.index 0)
unfolding word_line
line c =
    let run = c.args.self.now in
    let said = c.decode.ensures ∙ ap (λ (w : ℕ). reading run.policy.now w c.args.index) c.word_at-word.ensures in
    ap (λ (d : Decoded). decoded_line d (get_or run.answers.now c.args.index 0)) (sym said)

pub returns-in_default : goal.returns-in_default
returns-in_default c = rw (line (goal.at.returns-in_default c).After-decode, c.in_default.is) c.clear.ensures

pub returns-in-Check : goal.returns-in-Check
returns-in-Check c =
    let answer : c.unwrap_or-answer.result ≡ get_or c.args.self.now.answers.now c.args.index 0 = search rules in
    rw (line (goal.at.returns-in-Check c).After-decode, c.in-Ok.is, c.in-Check.is, ← answer) c.check_text.ensures

pub returns-in_default-op : goal.returns-in_default-op
returns-in_default-op c =
    rw (line (goal.at.returns-in_default-op c).After-decode, c.in-Ok.is, other c.in-Ok.field-0.op _ _ (search rules)) c.clear.ensures
