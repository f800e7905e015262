-- What a function says that it wrote lies within the buffer lent to it. Assumes nothing.
use mathlib.Core.Path.{◌≡◌, refl, ap, ◌∙◌}
use mathlib.Core.Bool.{Bool, true, false, cond}
use mathlib.Core.List.{List, []}
use Prim.Native.Nat.{ℕ, zero, suc, ◌-◌, ◌≤◌}
use native.Mathlib.Omega.{arith}
use lib.Dec.{ltb}
use lib.ListN.{length, take, length-append}
use lib.Seq.{length-sets, length-take-le}
use borrow.Author.Tests.{ltb-false}
use Rattle.lines.specs.declared.Filled.{Filled}
use Rattle.lines.specs.Page.{follow, page}
use Rattle.lines.specs.Promise.{fitting, Lined, Fills}

-- a number of bytes at the front of a buffer, as a slice of them asks it
pub record Front (n : ℕ) (l : List ℕ) : Type 0 where
  pub within : n ≤ length l
  pub span : n ≡ length (take n l)

front : (n : ℕ) (l : List ℕ) → n ≤ length l → Front n l
front n l h = record { within = h; span = omega (arith, length-take-le n l h) }

fitting_most : (room : ℕ) (line : List ℕ) → length (fitting room line) ≤ room
fitting_most room line = go (ltb room (length line)) refl
  where
    go : (b : Bool) → ltb room (length line) ≡ b → length (cond b [] line) ≤ room
    go true q = omega arith
    go false q = ltb-false room (length line) q

pub lined_front : {r : ℕ} {lent left line : List ℕ} → Lined r lent left line → Front r left
lined_front {r} {lent} {left} {line} h =
    let e : length left ≡ length lent = ap length h.buffer ∙ length-sets lent 0 (fitting (length lent) line) in
    front r left (omega (arith, h.count, fitting_most (length lent) line))

page_most : (line : ℕ → List ℕ) (n room k : ℕ) → length (page line room k n).written ≤ room
unfolding page
page_most line zero room k = omega arith
page_most line (suc n) room k = go (ltb room (length (line k))) refl (page_most line n (room - length (line k)) (suc k))
  where
    go : (b : Bool) → ltb room (length (line k)) ≡ b → let rest = page line (room - length (line k)) (suc k) n in
        length rest.written ≤ room - length (line k) → length (cond b (record { next = k; written = [] }) (follow (line k) rest)).written ≤ room
    go true q ih = omega arith
    go false q ih = simp length-append (omega (arith, ltb-false room (length (line k)) q))

pub filled_front : {r : Filled} {lent left : List ℕ} (line : ℕ → List ℕ) (k n : ℕ) → Fills r lent left (page line (length lent) k n) → Front r.len left
filled_front {r} {lent} {left} line k n h =
    let e : length left ≡ length lent = ap length h.buffer ∙ length-sets lent 0 (page line (length lent) k n).written in
    front r.len left (omega (arith, h.len, page_most line n (length lent) k))
