-- Runs over any step: two steps that come to the same give runs that do; a run has an answer for each word that it counts, and each of these is an
-- operation. Assumes nothing.
use mathlib.Core.Path.{◌≡◌, refl, ap₂}
use mathlib.Core.Bool.{Bool, true, false, cond}
use mathlib.Core.List.{List, [], ◌∷◌, map}
use Prim.Native.Nat.{ℕ, zero, suc, ◌+◌, ◌*◌, ◌/◌, ◌≤◌, ◌<◌}
use native.Mathlib.Decide.{dec_lt}
use native.Mathlib.Omega.{arith}
use lib.Dec.{eqb, ltb}
use lib.ListN.{length, get_or}
use borrow.Author.Tests.{lt-ltb, le-ltb, eqb-true}
use Rattle.answers.specs.Answer.{Moved}
use Rattle.answers.specs.Account.{Account, told, before, barring}
use Rattle.answers.proofs.Alike.{Alike, refused_alike}
use Rattle.words.specs.declared.Operation.{Operation}
use Rattle.words.specs.declared.Word.{Word as Held}
use Rattle.words.specs.Words.{Decoded, Word, Refused, word_of, word_at}
use Rattle.words.proofs.Words.{Fair, decoded_fair}
use Rattle.beliefs.specs.Policy.{Policy, signers, targets, reading}
use Rattle.beliefs.specs.Trace.{served, run_from}

-- an account with each answer byte turned
abbrev pub turned : (ℕ → ℕ) → Account → Account
turned b a = record { number = a.number; figure = a.figure; written = map b a.written }

module _ {S T : Type 0} (act : Policy → Operation → S → Moved S) (other : Policy → Operation → T → Moved T) (p : Policy)
    (Like : S → T → Type 0) (b : ℕ → ℕ) (zero : b 0 ≡ 0)
    (same : (op : Operation) (s : S) (t : T) → Like s t → Alike Like b (act p op s) (other p op t)) where
  served_alike : (d : Decoded) (s : S) (t : T) → Like s t → Alike Like b (served (act p) d s) (served (other p) d t)
  served_alike (Word x) s t h = same x.op s t h
  served_alike (Refused n) s t h = refused_alike Like b zero h n

  pub runs_alike : (i : ℕ) (trace : List ℕ) (s : S) (t : T) → Like s t → run_from act p i trace s ≡ turned b (run_from other p i trace t)
  unfolding run_from
  runs_alike i [] s t h = refl
  runs_alike i (a ∷ []) s t h = refl
  runs_alike i (a ∷ c ∷ rest) s t h =
      let d : Decoded = reading p (word_of a c) i in
      let m : Moved S = served (act p) d s in
      let k : Moved T = served (other p) d t in
      let q : Alike Like b m k = served_alike d s t h in
      rw q.number (go (eqb k.number 0) k.number _ _ _ _ q.byte (runs_alike (suc i) rest m.state k.state q.states))
    where
      go : (e : Bool) (n x y : ℕ) (more less : Account) → x ≡ b y → more ≡ turned b less
          → cond e (before (x ∷ []) more) (told n i) ≡ turned b (cond e (before (y ∷ []) less) (told n i))
      go true n x y more less q ih = ap₂ (λ (z : ℕ) (l : Account). before (z ∷ []) l) q ih
      go false n x y more less q ih = refl

-- a run writes as many bytes as its figure says, and no more than the trace has words
pub record Answered (words i : ℕ) (a : Account) : Type 0 where
  pub figure : a.figure ≡ i + length a.written
  pub few : length a.written ≤ words

pub run_answers : {S : Type 0} (act : Policy → Operation → S → Moved S) (p : Policy) (i : ℕ) (trace : List ℕ) (s : S)
    → Answered (length trace / 2) i (run_from act p i trace s)
unfolding run_from
run_answers act p i [] s = record { figure = omega arith; few = omega arith }
run_answers act p i (a ∷ []) s = record { figure = omega arith; few = omega arith }
run_answers act p i (a ∷ b ∷ rest) s =
    let m : Moved _ = served (act p) (reading p (word_of a b) i) s in
    go (eqb m.number 0) m.number m.byte (run_answers act p (suc i) rest m.state)
  where
    go : {more : Account} (e : Bool) (n byte : ℕ) → Answered (length rest / 2) (suc i) more
        → Answered (length (a ∷ b ∷ rest) / 2) i (cond e (before (byte ∷ []) more) (told n i))
    go true n byte h = record { figure = omega (arith, h.figure); few = omega (arith, h.few) }
    go false n byte h = record { figure = omega arith; few = omega arith }

-- nothing is written where the tests before it refuse
pub barring_answers : (words n : ℕ) (a : Account) → Answered words 0 a → Answered words 0 (barring n a)
barring_answers words n a h = go (eqb n 0)
  where
    go : (e : Bool) → Answered words 0 (cond e a (told n 0))
    go true = h
    go false = record { figure = refl; few = omega arith }

-- the word after the first one of a trace is the first of the rest
word_after : (a b : ℕ) (rest : List ℕ) (k : ℕ) → word_at (a ∷ b ∷ rest) (suc k) ≡ word_at rest k
word_after a b rest k = shift (length (a ∷ b ∷ rest) / 2) (2 * suc k) (2 * suc k + 1) (omega arith) (omega arith) (omega arith)
  where
    go : Dec (k < length rest / 2)
        → cond (ltb (suc k) (suc (length rest / 2))) (word_of (get_or rest (2 * k) 0) (get_or rest (2 * k + 1) 0)) 0 ≡ word_at rest k
    go (yes l) = rw (lt-ltb (suc k) (suc (length rest / 2)) (omega arith), lt-ltb k (length rest / 2) l)
    go (no l) = rw (le-ltb (suc k) (suc (length rest / 2)) (omega arith), le-ltb k (length rest / 2) (omega arith))

    shift : (h x y : ℕ) → h ≡ suc (length rest / 2) → x ≡ suc (suc (2 * k)) → y ≡ suc (suc (2 * k + 1))
        → cond (ltb (suc k) h) (word_of (get_or (a ∷ b ∷ rest) x 0) (get_or (a ∷ b ∷ rest) y 0)) 0 ≡ word_at rest k
    shift h x y e f g = rw (e, f, g) (go (dec_lt k (length rest / 2)))

-- each word that a run answers is an operation of the policy's signers and targets: none of those that are listed is refused
module _ {S : Type 0} (act : Policy → Operation → S → Moved S) (p : Policy) where
  abbrev Operates : List ℕ → ℕ → ℕ → Type 0
  Operates trace i k = (x : Held) × (reading p (word_at trace k) (i + k) ≡ Word x)

  module _ (a b : ℕ) (rest : List ℕ) (i : ℕ) where
    here : (d : Decoded) → reading p (word_of a b) i ≡ d → Fair (signers p) (targets p) d → (s : S) → (served (act p) d s).number ≡ 0
        → Operates (a ∷ b ∷ rest) i 0
    here (Word x) e f s z =
        let some : 0 < length (a ∷ b ∷ rest) / 2 = omega arith in
        let same : i + 0 ≡ i = omega arith in
        (x, rw (same, lt-ltb 0 (length (a ∷ b ∷ rest) / 2) some) e)
    here (Refused n) e f s z = absurd (f z)

    one_more : (m : Moved S) → (m.number ≡ 0 → Operates (a ∷ b ∷ rest) i 0)
        → ((k : ℕ) → k < length (run_from act p (suc i) rest m.state).written → Operates rest (suc i) k)
        → (k : ℕ) → k < length (cond (eqb m.number 0) (before (m.byte ∷ []) (run_from act p (suc i) rest m.state)) (told m.number i)).written
        → Operates (a ∷ b ∷ rest) i k
    one_more m first later = go (eqb m.number 0) refl
      where
        go : (e : Bool) → eqb m.number 0 ≡ e → (k : ℕ)
            → k < length (cond e (before (m.byte ∷ []) (run_from act p (suc i) rest m.state)) (told m.number i)).written → Operates (a ∷ b ∷ rest) i k
        go false q k l = absurd (omega arith)
        go true q zero l = first (eqb-true _ 0 q)
        go true q (suc k) l =
            let more = later k (omega arith) in
            let same : i + suc k ≡ suc i + k = omega arith in
            (more.0, rw (word_after a b rest k, same) more.1)

  pub answered_word : (i : ℕ) (trace : List ℕ) (s : S) (k : ℕ) → k < length (run_from act p i trace s).written → Operates trace i k
  unfolding run_from
  answered_word i [] s k l = absurd (omega arith)
  answered_word i (a ∷ []) s k l = absurd (omega arith)
  answered_word i (a ∷ b ∷ rest) s k l =
      let d : Decoded = reading p (word_of a b) i in
      one_more a b rest i (served (act p) d s) (here a b rest i d refl (decoded_fair (signers p) (targets p) (word_of a b) i) s)
      (answered_word (suc i) rest (served (act p) d s).state) k l
