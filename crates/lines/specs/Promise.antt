-- What the functions promise: their result, and what they leave in the buffer lent to them.
use Rattle.std.specs.Prelude.{◌≡◌, cond, List, [], ℕ, ◌+◌, ◌<◌, ◌≤◌, ltb, length, Option, MatchOption}
use Rattle.std.proofs.lemmas.List.Edits.{sets}
use Rattle.lines.specs.declared.Filled.{Filled}
use Rattle.lines.specs.Page.{Page}

-- these bytes stand from `at` on, up to `end`, and every other byte is as it was lent
pub record Puts (lent left : List ℕ) (at end : ℕ) (bytes : List ℕ) : Type 0 where
  pub until : end ≡ at + length bytes
  pub buffer : left ≡ sets lent at bytes

-- the bytes stand at the front of the buffer, or have no room there
abbrev pub Delivers : Option ℕ → List ℕ → List ℕ → List ℕ → Type 0
Delivers r lent left bytes =
    MatchOption r ((length lent < length bytes) × (left ≡ lent)) (λ n. (length bytes ≤ length lent) × Puts lent left 0 n bytes)

-- a line goes into the room whole or not at all
abbrev pub fitting : ℕ → List ℕ → List ℕ
fitting room line = cond (ltb room (length line)) [] line

-- the bytes written, and those at the front of the buffer
pub record Lined (r : ℕ) (lent left line : List ℕ) : Type 0 where
  pub count : r ≡ length (fitting (length lent) line)
  pub buffer : left ≡ sets lent 0 (fitting (length lent) line)

-- the page stands at the front of the buffer
pub record Fills (r : Filled) (lent left : List ℕ) (q : Page) : Type 0 where
  pub next : r.next ≡ q.next
  pub len : r.len ≡ length q.written
  pub buffer : left ≡ sets lent 0 q.written
