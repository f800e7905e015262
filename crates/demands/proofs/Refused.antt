-- What a refusal leaves: the steps behind the first demand. Assumes nothing.
use mathlib.Core.Path.{◌≡◌, refl, ◌∙◌}
use mathlib.Core.Logic.{◌≢◌}
use mathlib.Core.Bool.{Bool, true, false, cond}
use mathlib.Core.List.{List, []}
use Prim.Native.Nat.{ℕ, ◌+◌, ◌*◌}
use native.Mathlib.Omega.{arith}
use lib.Dec.{eqb}
use lib.ListN.{length}
use lib.Seq.{sets}
use borrow.Author.Tests.{ne_eqb}
use Rattle.answers.specs.Account.{Report, Account, told, short_of, barring, Reports}
use Rattle.answers.specs.Numbers.{forbidden, unless, first}
use Rattle.answers.specs.Answer.{Moved, refused, guarded}
use Rattle.words.specs.declared.Operation.{Operation}
use Rattle.words.specs.declared.Operation.TheVariants.{Call, Return, Enable, Disable, Revert, Check}
use Rattle.words.specs.Words.{Decoded, Word, Refused, barred}
use Rattle.beliefs.specs.declared.Seen.{Seen}
use Rattle.beliefs.specs.Policy.{Policy, Target, signers, targets, refusal, refusal_in, reading, size, writing}
use Rattle.beliefs.specs.Stack.{walk}
use Rattle.beliefs.specs.Derivation.{unasked, derived}
use Rattle.beliefs.specs.Trace.{served, run}
use Rattle.beliefs.specs.Engine.{Engine, acts, worded, Operate}
use Rattle.beliefs.proofs.Counts.{run_answered}
use Rattle.walk.specs.Layout.{frames}
use Rattle.walk.specs.Fits.{fits}
use Rattle.walk.specs.Pictures.{by_walk}
use Rattle.record.specs.Pictures.{by_record}
use Rattle.derivation.specs.Promise as promised

-- an operation whose refusal leaves the words as they were
pub record Leaves (s : List ℕ) (m : Moved (List ℕ)) : Type 0 where
  pub keeps : m.number ≢ 0 → m.state ≡ s

guarded_leaves : (s : List ℕ) (n : ℕ) (m : Moved (List ℕ)) → Leaves s m → Leaves s (guarded n m s)
guarded_leaves s n m h = go (eqb n 0)
  where
    go : (e : Bool) → Leaves s (cond e m (refused n s))
    go true = h
    go false = record { keeps = λ nz. refl }

-- an engine none of whose operations refuses where 7 and 8 do not
pub record Accepts (e : Engine) (p : Policy) (s : List ℕ) : Type 0 where
  pub accepts : (op : Operation) → (e.does p op s).number ≡ 0

pub walk_accepts : (p : Policy) (s : List ℕ) → Accepts by_walk p s
walk_accepts p s = record { accepts = go }
  where
    go : (op : Operation) → (by_walk.does p op s).number ≡ 0
    go (Call g) = refl
    go Return = refl
    go (Enable t) = refl
    go (Disable t) = refl
    go (Revert t) = refl
    go (Check t) = refl

pub record_accepts : (p : Policy) (s : List ℕ) → Accepts by_record p s
record_accepts p s = record { accepts = go }
  where
    go : (op : Operation) → (by_record.does p op s).number ≡ 0
    go (Call g) = refl
    go Return = refl
    go (Enable t) = refl
    go (Disable t) = refl
    go (Revert t) = refl
    go (Check t) = refl

module _ (e : Engine) (p : Policy) (s : List ℕ) (a : Accepts e p s) where
  served_leaves : (d : Decoded) → Leaves s (served (acts e p) d s)
  served_leaves (Word x) = guarded_leaves s (barred (e.depth s) x.op) _ (record { keeps = λ nz. absurd (nz (a.accepts x.op)) })
  served_leaves (Refused n) = record { keeps = λ nz. refl }

  -- a word that is refused, by whichever number, leaves the state and the answer byte as they were
  pub word_leaves : (w lent n byte : ℕ) (left : List ℕ) → Operate e p s w lent n byte left → n ≢ 0 → (left ≡ s) × (byte ≡ lent)
  unfolding worded
  word_leaves w lent n byte left h nz =
      let o = h.exact in
      let m : Moved (List ℕ) = worded e p w s in
      let mz : m.number ≢ 0 = λ z. nz (o.number ∙ z) in
      let same : Leaves s m = guarded_leaves s (refusal_in p (e.fits p s)) _ (served_leaves (reading p w 0)) in
      (o.state ∙ same.keeps mz, o.answer ∙ rw (ne_eqb m.number 0 mz))

-- an account that writes nothing where it refuses
pub record Silent (a : Account) : Type 0 where
  pub quiet : a.number ≢ 0 → a.written ≡ []

given_silent : (a : Account) → a.number ≡ 0 → Silent a
given_silent a e = record { quiet = λ nz. absurd (nz e) }

barring_silent : (n : ℕ) (a : Account) → Silent a → Silent (barring n a)
barring_silent n a h = go (eqb n 0)
  where
    go : (e : Bool) → Silent (cond e a (told n 0))
    go true = h
    go false = record { quiet = λ nz. refl }

pub policy_silent : (p : Policy) (room : ℕ) → Silent (writing p room)
unfolding writing
policy_silent p room = barring_silent (first (refusal p) (short_of (size (signers p) (targets p)) room)) _ (given_silent _ refl)

pub derivation_silent : (p : Policy) (s : List ℕ) (t : Target) (room : ℕ) → Silent (promised.writing p s t room)
unfolding promised.writing derived
derivation_silent p s t room =
    let seen : Seen = walk p t (frames s) in
    barring_silent (refusal_in p (fits p s)) _
    (barring_silent (unasked p (frames s) t) _
    (barring_silent (first (unless seen.granted forbidden) (short_of (3 * seen.looked + 1) room)) _ (given_silent _ refl)))

-- a writer that refuses leaves the buffer as it was lent
pub nothing_written : (lent left : List ℕ) (r : Report) (a : Account) → Reports r lent left a → Silent a → r.number ≢ 0 → left ≡ lent
nothing_written lent left r a h s nz = h.buffer ∙ rw (s.quiet (λ e. nz (h.number ∙ e)))

-- a run writes as many answers as its figure says, at the front
pub run_bytes : (counts : Bool) (p : Policy) (trace lent left : List ℕ) (r : Report) → Reports r lent left (run counts p trace (length lent))
    → (written : List ℕ) × (left ≡ sets lent 0 written) × (r.figure ≡ length written)
run_bytes counts p trace lent left r h =
    ((run counts p trace (length lent)).written, h.buffer, omega (arith, h.figure, (run_answered counts p trace (length lent)).figure))
