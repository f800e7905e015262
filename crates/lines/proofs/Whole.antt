-- The lines at the places of a run's listing are the listing's text, and so are the pages that `fill` promises. Assumes nothing.
use mathlib.Core.Path.{◌≡◌, refl, sym, ap, ap₂, ◌∙◌}
use mathlib.Core.Logic.{◌≢◌}
use mathlib.Core.Bool.{true}
use mathlib.Core.List.{List, ◌++◌, append_assoc, append-nil}
use Prim.Native.Nat.{ℕ, zero, suc, ◌+◌, ◌-◌, ◌/◌, ◌≤◌, ◌<◌}
use native.Mathlib.Nat.{add-zero, sub-zero, le_trans}
use native.Mathlib.Omega.{arith}
use lib.ListN.{length, get_or, take, drop}
use lib.Seq.{sets, get_or-take}
use borrow.Author.Tests.{lt-ltb, le-ltb, eq-eqb, ne_eqb}
use Rattle.std.specs.Prelude.{Result}
use Rattle.answers.specs.declared.Stop.{Stop}
use Rattle.answers.specs.Account.{Report, Account, Reports, report_of}
use Rattle.beliefs.specs.Policy.{read_number, value_read}
use Rattle.beliefs.specs.Trace.{run_refusal, run}
use Rattle.beliefs.proofs.Lists.{front}
use Rattle.beliefs.proofs.Runs.{Answered}
use Rattle.beliefs.proofs.Counts.{run_answered}
use Rattle.policy.specs.Read.{PolicyRead, cut_at}
use Rattle.lines.specs.Text.{policy_line, word_line, last_line, refused_line, joined, listed, listed_run, read, listing}
use Rattle.lines.specs.declared.Told.{Told}
use Rattle.lines.specs.Page.{words_run, report_in, places, line_at, pages}
use Rattle.lines.proofs.Short.{line_short}
use Rattle.lines.proofs.Pages.{pages_join}

-- lines that are equal at each place are equal one after another
joined_same : (f g : ℕ → List ℕ) (n k j : ℕ) → ((i : ℕ) → i < n → f (k + i) ≡ g (j + i)) → joined f k n ≡ joined g j n
unfolding joined
joined_same f g zero k j h = refl
joined_same f g (suc n) k j h = ap₂ (λ (x y : List ℕ). x ++ y) head (joined_same f g n (suc k) (suc j) later)
  where
    head : f k ≡ g j
    head = simp add-zero at (h 0 (omega arith))

    later : (i : ℕ) → i < n → f (suc k + i) ≡ g (suc j + i)
    later i l =
        let a : suc k + i ≡ k + suc i = omega arith in
        let b : suc j + i ≡ j + suc i = omega arith in
        rw (a, b) (h (suc i) (omega arith))

-- the last of them apart
joined_last : (f : ℕ → List ℕ) (n k : ℕ) → joined f k (suc n) ≡ joined f k n ++ f (k + n)
unfolding joined
joined_last f zero k = rw (append-nil (f k), add-zero k)
joined_last f (suc n) k =
    let e : k + suc n ≡ suc k + n = omega arith in
    rw (e, append_assoc (f k) (joined f (suc k) n) (f (suc k + n))) (ap (λ (l : List ℕ). f k ++ l) (joined_last f n (suc k)))

module _ (p trace answers : List ℕ) (r : Report) (h : r.figure ≤ length trace / 2) where
  all_run : words_run trace r.figure ≡ r.figure
  all_run = rw (le-ltb (length trace / 2) r.figure h)

  word_line_lem : (i : ℕ) → i < r.figure → line_at p trace answers r (1 + i) ≡ word_line p trace answers (0 + i)
  unfolding line_at
  word_line_lem i l =
      let e : 1 + i - 1 ≡ 0 + i = omega arith in
      rw (ne_eqb (1 + i) 0 (λ q. absurd (omega arith)), all_run, e, lt-ltb (0 + i) r.figure (omega arith))

  last_line_lem : line_at p trace answers r (0 + suc r.figure) ≡ last_line r.number r.figure
  unfolding line_at
  last_line_lem =
      let e : 0 + suc r.figure - 1 ≡ r.figure = omega arith in
      rw (ne_eqb (0 + suc r.figure) 0 (λ q. absurd (omega arith)), all_run, e, le-ltb r.figure r.figure (omega arith))

  first_lines : joined (line_at p trace answers r) 0 (suc r.figure) ≡ policy_line p ++ joined (word_line p trace answers) 0 r.figure
  unfolding joined line_at
  first_lines = ap (λ (l : List ℕ). policy_line p ++ l) (joined_same (line_at p trace answers r) (word_line p trace answers) r.figure 1 0 word_line_lem)

  -- the policy's line, those of the words that were run, the last
  pub listed_places : joined (line_at p trace answers r) 0 (places trace r) ≡ listed p trace answers r.number r.figure
  unfolding listed
  listed_places =
      let e : r.figure + 2 ≡ suc (suc r.figure) = omega arith in
      rw (all_run, e, joined_last (line_at p trace answers r) (suc r.figure) 0, last_line_lem)
      (ap (λ (l : List ℕ). l ++ last_line r.number r.figure) first_lines)

-- more room than words is as good as enough
run_room : (p trace : List ℕ) (room : ℕ) → length trace / 2 ≤ room → run true p trace room ≡ run true p trace (length trace / 2)
unfolding run run_refusal
run_room p trace room h = rw (le-ltb room (length trace / 2) h, le-ltb (length trace / 2) (length trace / 2) (omega arith))

-- the answers stand at the front of the lent buffer
front_at : (lent w : List ℕ) (i : ℕ) → i < length w → length w ≤ length lent → get_or (sets lent 0 w) i 0 ≡ get_or w i 0
front_at lent w i h k = sym (get_or-take (length w) (sets lent 0 w) i 0 h) ∙ ap (λ (l : List ℕ). get_or l i 0) (front lent w k)

answers_same : (p trace lent w : List ℕ) → length w ≤ length lent
    → joined (word_line p trace (sets lent 0 w)) 0 (length w) ≡ joined (word_line p trace w) 0 (length w)
unfolding word_line
answers_same p trace lent w k =
    joined_same (word_line p trace (sets lent 0 w)) (word_line p trace w) (length w) 0 0 (λ i h. rw (front_at lent w (0 + i) (omega arith) k))

listed_same : (p trace lent w : List ℕ) (n : ℕ) → length w ≤ length lent → listed p trace (sets lent 0 w) n (length w) ≡ listed p trace w n (length w)
unfolding listed
listed_same p trace lent w n k = ap (λ (l : List ℕ). policy_line p ++ l ++ last_line n (length w)) (answers_same p trace lent w k)

-- what `fill` makes of what a run promises, page after page, through a buffer that takes the longest line: the listing of that run
pub run_text : (p trace lent left : List ℕ) (r : Report) (room : ℕ) → length trace / 2 ≤ length lent
    → Reports r lent left (run true p trace (length lent)) → 80 ≤ room
    → pages (line_at p trace left r) room (places trace r) (places trace r) 0 ≡ listed_run p trace (run true p trace (length trace / 2))
run_text p trace lent left r room h t k =
    let a : Account = run true p trace (length lent) in
    let answered : Answered (length trace / 2) 0 a = run_answered true p trace (length lent) in
    let figure : r.figure ≡ length a.written = omega (arith, t.figure, answered.figure) in
    let few : r.figure ≤ length trace / 2 = omega (arith, answered.few) in
    let line : ℕ → List ℕ = line_at p trace left r in
    let text : pages line room (places trace r) (places trace r) 0 ≡ joined line 0 (places trace r - 0) =
    pages_join line room (places trace r) (λ j. le_trans (line_short p trace left r j) k) (places trace r) 0 (omega arith) in
    let same : listed p trace left r.number r.figure ≡ listed p trace (sets lent 0 a.written) a.number (length a.written) =
    λ i. listed p trace (t.buffer i) (t.number i) (figure i) in
    let counted : listed p trace a.written a.number (length a.written) ≡ listed_run p trace a =
    ap (listed p trace a.written a.number) (omega (arith, answered.figure)) in
    text ∙ rw (sub-zero (places trace r)) (listed_places p trace left r few)
    ∙ same ∙ listed_same p trace lent a.written a.number (omega (arith, answered.few))
    ∙ counted ∙ ap (listed_run p trace) (run_room p trace (length lent) h)

-- the text for an input, as the program comes to it: from the promises of `policy::read` and `runner::run`
module _ (input : List ℕ) where
  abbrev trace : List ℕ
  trace = drop (cut_at input) input

  pub too_long : 65536 < length input → listing input ≡ refused_line 2 0
  unfolding listing
  too_long h = rw (lt-ltb 65536 (length input) h)

  module _ (h : length input ≤ 65536) (lent p : List ℕ) (n : ℕ) (read_it : PolicyRead (take (cut_at input) input) lent n p) where
    pub refused : n ≢ 0 → listing input ≡ refused_line n 0
    unfolding listing read
    refused z = rw (le-ltb 65536 (length input) h, ← read_it.number, ne_eqb n 0 z)

    pub accepted : n ≡ 0 → (room : ℕ) (answers left : List ℕ) (r : Report) → length trace / 2 ≤ length answers
        → Reports r answers left (run true p trace (length answers)) → 80 ≤ room
        → listing input ≡ pages (line_at p trace left r) room (places trace r) (places trace r) 0
    unfolding listing read
    accepted z room answers left r k t m =
        let e : read_number (take (cut_at input) input) ≡ 0 = sym read_it.number ∙ z in
        let v : p ≡ value_read (take (cut_at input) input) = read_it.value ∙ rw (eq-eqb _ 0 e) in
        rw (le-ltb 65536 (length input) h, eq-eqb _ 0 e, ← v) (sym (run_text p trace answers left r room k t m))

    -- and so it is from the report as a page is told it
    pub told : n ≡ 0 → (room : ℕ) (answers left : List ℕ) (r : Result ℕ Stop) (t : Told) → report_in t ≡ report_of r → length trace / 2 ≤ length answers
        → Reports (report_of r) answers left (run true p trace (length answers)) → 80 ≤ room
        → let q = report_in t in listing input ≡ pages (line_at p trace left q) room (places trace q) (places trace q) 0
    told z room answers left r t same k h m = accepted z room answers left (report_in t) k (rw same h) m
