-- A page is filled line by line, and pages that follow one another are the text. Assumes nothing.
use mathlib.Core.Path.{◌≡◌, refl, sym, ap, ◌∙◌}
use mathlib.Core.Logic.{◌≢◌}
use mathlib.Core.Bool.{Bool, true, false, cond}
use mathlib.Core.List.{List, [], ◌++◌, append_assoc, append-nil}
use Prim.Native.Nat.{ℕ, zero, suc, ◌+◌, ◌-◌, ◌≤◌, ◌<◌}
use native.Mathlib.Nat.{sub-zero}
use native.Mathlib.Omega.{arith}
use lib.Dec.{ltb}
use lib.ListN.{length}
use borrow.Author.Tests.{lt-ltb, le-ltb, ltb-true, ltb-false}
use Rattle.lines.specs.declared.Filled.{Filled}
use Rattle.lines.specs.Text.{joined}
use Rattle.lines.specs.Page.{Page, follow, page, pages}
use Rattle.lines.specs.Promise.{Puts, Fills}
use Rattle.lines.proofs.After.{then, none}

module _ (line : ℕ → List ℕ) where
  page_full : (room k n : ℕ) → room < length (line k) → page line room k n ≡ record { next = k; written = [] }
  unfolding page
  page_full room k zero h = refl
  page_full room k (suc n) h = rw (lt-ltb room (length (line k)) h)

  page_more : (room k n : ℕ) → length (line k) ≤ room → page line room k (suc n) ≡ follow (line k) (page line (room - length (line k)) (suc k) n)
  unfolding page
  page_more room k n h = rw (le-ltb room (length (line k)) h)

  page_none : (room k : ℕ) → page line room k 0 ≡ record { next = k; written = [] }
  unfolding page
  page_none room k = refl

  -- what stands in the buffer when the page is so far r, and what its rest adds to it
  pub record Filling (lent : List ℕ) (end from : ℕ) (r : Filled) (left : List ℕ) : Type 0 where
    pub written : List ℕ
    pub puts : Puts lent left 0 r.len written
    pub total : page line (length lent) from (end - from) ≡ follow written (page line (length lent - r.len) r.next (end - r.next))

  pub begun : (lent : List ℕ) (end from : ℕ) → Filling lent end from (record { next = from; len = 0 }) lent
  begun lent end from = record { written = []; puts = none; total = rw (sub-zero (length lent)) }

  module _ {lent : List ℕ} {end from : ℕ} {r : Filled} {left : List ℕ} (f : Filling lent end from r left) where
    pub onward : {at' : ℕ} {left' : List ℕ} → r.next < end → length (line r.next) ≤ length lent - r.len
        → Puts left left' r.len at' (line r.next) → Filling lent end from (record { next = r.next + 1; len = at' }) left'
    onward {at'} {left'} more fits p =
        let e : end - r.next ≡ suc (end - (r.next + 1)) = omega arith in
        let s : r.next + 1 ≡ suc r.next = omega arith in
        let m : length lent - r.len - length (line r.next) ≡ length lent - at' = omega (arith, p.until) in
        let rest = page line (length lent - at') (suc r.next) (end - suc r.next) in
        record {
          written = f.written ++ line r.next;
          puts = then f.puts p;
          total = f.total ∙ rw (e, page_more (length lent - r.len) r.next (end - (r.next + 1)) fits, m, s)
              (λ i. record { next = rest.next; written = sym (append_assoc f.written (line r.next) rest.written) i });
        }

    ended : page line (length lent - r.len) r.next (end - r.next) ≡ record { next = r.next; written = [] }
        → Fills r lent left (page line (length lent) from (end - from))
    ended e = rw (f.total, e) (record {
      next = refl;
      len = rw (append-nil f.written) (omega (arith, f.puts.until));
      buffer = rw (append-nil f.written) f.puts.buffer;
    })

    -- the next line does not fit, or there is none
    pub full : length lent - r.len < length (line r.next) → Fills r lent left (page line (length lent) from (end - from))
    full h = ended (page_full (length lent - r.len) r.next (end - r.next) h)

    pub finished : end ≤ r.next → Fills r lent left (page line (length lent) from (end - from))
    finished h =
        let e : end - r.next ≡ 0 = omega arith in
        ended (rw e (page_none (length lent - r.len) r.next))

  -- a page and the text from its next place on are the text from its first place on
  joins : (n room k : ℕ) → (page line room k n).written ++ joined line (page line room k n).next (k + n - (page line room k n).next) ≡ joined line k n
  unfolding page joined
  joins zero room k = let e : k + 0 - k ≡ 0 = omega arith in rw e
  joins (suc n) room k = go (ltb room (length (line k))) (joins n (room - length (line k)) (suc k))
    where
      go : (b : Bool) → let rest = page line (room - length (line k)) (suc k) n in
          rest.written ++ joined line rest.next (suc k + n - rest.next) ≡ joined line (suc k) n
          → let q : Page = cond b (record { next = k; written = [] }) (follow (line k) rest) in
          q.written ++ joined line q.next (k + suc n - q.next) ≡ line k ++ joined line (suc k) n
      go true ih = let e : k + suc n - k ≡ suc n = omega arith in rw e
      go false ih =
          let rest = page line (room - length (line k)) (suc k) n in
          let e : k + suc n ≡ suc k + n = omega arith in
          rw (e, append_assoc (line k) rest.written) (ap (λ (l : List ℕ). line k ++ l) ih)

  pub page_joins : (room k end : ℕ) → let q = page line room k (end - k) in q.written ++ joined line q.next (end - q.next) ≡ joined line k (end - k)
  page_joins room k end = go (ltb end k) refl
    where
      go : (b : Bool) → ltb end k ≡ b → let q = page line room k (end - k) in q.written ++ joined line q.next (end - q.next) ≡ joined line k (end - k)
      go true h = let e : end - k ≡ 0 = omega (arith, ltb-true end k h) in rw (e, page_none room k, e)
      go false h =
          let e : end ≡ k + (end - k) = omega (arith, ltb-false end k h) in
          let q = page line room k (end - k) in
          ap (λ (m : ℕ). q.written ++ joined line q.next (m - q.next)) e ∙ joins (end - k) room k

  -- a page does not go back, and goes on where its first line fits
  next_least : (n room k : ℕ) → k ≤ (page line room k n).next
  unfolding page
  next_least zero room k = omega arith
  next_least (suc n) room k = go (ltb room (length (line k))) (next_least n (room - length (line k)) (suc k))
    where
      go : (b : Bool) → let rest = page line (room - length (line k)) (suc k) n in
          suc k ≤ rest.next → k ≤ (cond b (record { next = k; written = [] }) (follow (line k) rest)).next
      go true ih = omega arith
      go false ih = omega arith

  pub progress : (room k end : ℕ) → k < end → length (line k) ≤ room → k < (page line room k (end - k)).next
  progress room k end h fits =
      let e : end - k ≡ suc (end - (k + 1)) = omega arith in
      rw (e, page_more room k (end - (k + 1)) fits) (next_least (end - (k + 1)) (room - length (line k)) (suc k))

  -- a page that does not end where it began leaves fewer places
  falls : (room k end : ℕ) → (page line room k (end - k)).next ≢ k → end - (page line room k (end - k)).next < end - k
  falls room k end h = go (ltb k end) refl
    where
      go : (b : Bool) → ltb k end ≡ b → end - (page line room k (end - k)).next < end - k
      go true q = omega (arith, ltb-true k end q, next_least (end - k) room k)
      go false q =
          let e : end - k ≡ 0 = omega (arith, ltb-false k end q) in
          absurd (h (rw e (ap (λ (g : Page). g.next) (page_none room k))))

  pub filled_falls : {r : Filled} {lent left : List ℕ} (k end : ℕ) → Fills r lent left (page line (length lent) k (end - k)) → r.next ≢ k
      → end - r.next < end - k
  filled_falls {r} {lent} {left} k end h z = omega (arith, h.next, falls (length lent) k end (λ e. z (h.next ∙ e)))

  -- the pages of a text, where a buffer takes each line, are the text
  pub pages_join : (room end : ℕ) → ((k : ℕ) → length (line k) ≤ room) → (f k : ℕ) → end ≤ k + f → pages line room end f k ≡ joined line k (end - k)
  unfolding pages joined
  pages_join room end fits zero k h = let e : end - k ≡ 0 = omega arith in rw e
  pages_join room end fits (suc f) k h = rw (pages_join room end fits f (page line room k (end - k)).next (enough (ltb k end) refl)) (page_joins room k end)
    where
      enough : (b : Bool) → ltb k end ≡ b → end ≤ (page line room k (end - k)).next + f
      enough true q = omega (arith, progress room k end (ltb-true k end q) (fits k))
      enough false q = omega (arith, ltb-false k end q, next_least (end - k) room k)
