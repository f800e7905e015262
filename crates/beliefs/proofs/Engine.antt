-- For every engine: what is exactly given serves the belief sets, and each way out of an engine's `operate` keeps its promise. Assumes nothing.
use mathlib.Core.Path.{◌≡◌, refl, sym, ◌∙◌}
use mathlib.Core.Logic.{◌≢◌}
use mathlib.Core.Bool.{Bool, true, false, cond}
use mathlib.Core.List.{List, [], ◌∷◌}
use Prim.Native.Nat.{ℕ}
use lib.Dec.{eqb}
use lib.ListN.{length, replicate}
use borrow.Author.Tests.{eq-eqb, ne_eqb, eqb-true}
use Rattle.answers.specs.Answer.{Answer, Moved, refused, done, Gives}
use Rattle.answers.proofs.Alike.{Alike, guarded_alike}
use Rattle.words.specs.declared.Operation.{Operation}
use Rattle.words.specs.declared.Operation.TheVariants.{Call, Return, Enable, Disable, Revert, Check}
use Rattle.words.specs.declared.Word.{Word as Held}
use Rattle.words.specs.Words.{Word, Refused, framed, barred}
use Rattle.words.proofs.Words.{decoded_fair, some_frame}
use Rattle.beliefs.specs.Policy.{Policy, signers, targets, valid, refusal_in, outside_of, reading}
use Rattle.beliefs.specs.Stack.{Frame, Stack}
use Rattle.beliefs.specs.Trace.{does, step}
use Rattle.beliefs.specs.Engine.{Engine, acts, Serve, worded, Works, Operate}
use Rattle.beliefs.proofs.Policy.{let_in_with, not_refused_with}

-- an operation of the policy is refused by 7 or 8, and then changes nothing; or it does what it does
does_accepts : (counts : Bool) (p : Policy) (op : Operation) (st : Stack) → (does counts p op st).number ≡ 0
unfolding does
does_accepts counts p (Call g) st = refl
does_accepts counts p Return st = refl
does_accepts counts p (Enable t) st = refl
does_accepts counts p (Disable t) st = refl
does_accepts counts p (Revert t) st = refl
does_accepts counts p (Check t) st = refl

module _ (counts : Bool) (p : Policy) (op : Operation) (st : Stack) where
  pub step_number : (step counts p op st).number ≡ barred (length st) op
  step_number = go (barred (length st) op) (eqb (barred (length st) op) 0) refl
    where
      go : (n : ℕ) (e : Bool) → eqb n 0 ≡ e → (cond e (does counts p op st) (refused n st)).number ≡ n
      go n true q = does_accepts counts p op st ∙ sym (eqb-true n 0 q)
      go n false q = refl

  -- whether frames are counted or not, the stack after it is the same
  does_state : (other : Bool) → (does counts p op st).state ≡ (does other p op st).state
  unfolding does
  does_state other = go op
    where
      go : (op : Operation) → (does counts p op st).state ≡ (does other p op st).state
      go (Call g) = refl
      go Return = refl
      go (Enable t) = refl
      go (Disable t) = refl
      go (Revert t) = refl
      go (Check t) = refl

  pub step_state : (other : Bool) → (step counts p op st).state ≡ (step other p op st).state
  step_state other = go (eqb (barred (length st) op) 0)
    where
      go : (e : Bool) → (cond e (does counts p op st) (refused (barred (length st) op) st)).state ≡ (cond e (does other p op st)
          (refused (barred (length st) op) st)).state
      go true = does_state other
      go false = refl

  pub step_refused : barred (length st) op ≢ 0 → step counts p op st ≡ refused (barred (length st) op) st
  step_refused nz = rw (ne_eqb _ 0 nz)

  pub step_does : barred (length st) op ≡ 0 → step counts p op st ≡ does counts p op st
  step_does z = rw (eq-eqb _ 0 z)

-- where 7 does not refuse there is a newest frame
pub newest : (P : Stack → Type 0) (st : Stack) → framed (length st) ≡ 0 → ((f : Frame) (r : Stack) → P (f ∷ r)) → P st
newest P [] z k = absurd (some_frame 0 z refl)
newest P (f ∷ r) z k = k f r

module _ (e : Engine) (p : Policy) where
  -- what an engine's own definition gives mirrors what the definition's step gives, over what its state pictures
  abbrev pub Mirrors : Moved (List ℕ) → Moved Stack → Type 0
  Mirrors = Alike (e.Pictures p) (λ b. b)

  pub done_mirrors : {left : List ℕ} {st : Stack} → e.Pictures p left st → Mirrors (done left) (done st)
  done_mirrors h = record { number = refl; byte = refl; states = h }

  -- 7 and 8 are the definition's, so an engine has only to say what an operation that they let through does
  pub acts_mirror : (op : Operation) (s : List ℕ) (st : Stack) → e.Pictures p s st → e.depth s ≡ length st
      → (barred (length st) op ≡ 0 → Mirrors (e.does p op s) (does e.counts p op st)) → Mirrors (acts e p op s) (step e.counts p op st)
  acts_mirror op s st h d k = rw d (guarded_alike (e.Pictures p) (λ b. b) refl h (barred (length st) op) k)

  module _ (s : List ℕ) where
    -- so what is exactly given serves the belief sets
    pub served_by : (op : Operation) (r : Answer) (left : List ℕ) → Gives r left (acts e p op s) → e.Pictures p (replicate e.size 0) []
        → (valid p ≡ true → outside_of p op ≡ 0 → (st : Stack) → e.Pictures p s st → Mirrors (acts e p op s) (step e.counts p op st))
        → Serve e p s op r left
    served_by op r left g b k = record {
      gives = g;
      begins = b;
      serves = λ v i st h.
          let m : Mirrors (acts e p op s) (step e.counts p op st) = k v i st h in
          record { number = g.number ∙ m.number; byte = g.byte ∙ m.byte; pictures = rw g.state m.states };
    }

    -- each way out of `operate`: 13 or 14
    module _ (w : ℕ) where
      pub bad_state_lem : (n : ℕ) → n ≡ refusal_in p (e.fits p s) → n ≢ 0 → Works e p s w (record { number = n; byte = 0 }) s
      unfolding worded
      bad_state_lem n q nz = record {
        exact = rw (← q, ne_eqb n 0 nz) (record { number = refl; byte = refl; state = refl });
        answers = λ v f. absurd (nz (q ∙ not_refused_with p (e.fits p s) v f));
      }

      module _ (ok : refusal_in p (e.fits p s) ≡ 0) where
        -- 4, 3, 5 or 6
        pub bad_word : (n : ℕ) → reading p w 0 ≡ Refused n → Works e p s w (record { number = n; byte = 0 }) s
        unfolding worded
        bad_word n told = record {
          exact = rw (eq-eqb _ _ ok, told) (record { number = refl; byte = refl; state = refl });
          answers = λ _ _ st h. rw told (record { number = refl; byte = refl; pictures = h });
        }

        -- 7, 8, or the answer
        pub done_word : (x : Held) → reading p w 0 ≡ Word x → (r : Answer) (left : List ℕ) → Serve e p s x.op r left → Works e p s w r left
        unfolding worded
        done_word x told r left h =
            let i : outside_of p x.op ≡ 0 = rw told at (decoded_fair (signers p) (targets p) w 0) in
            let v : valid p ≡ true = (let_in_with p (e.fits p s) ok).0 in
            record {
              exact = rw (eq-eqb _ _ ok, told) h.gives;
              answers = λ _ _ st k. rw told (h.serves v i st k);
            }

      -- and where the number is returned
      pub operated : (lent : ℕ) (r : Answer) (left : List ℕ) → Works e p s w r left
          → (byte : ℕ) → byte ≡ cond (eqb r.number 0) r.byte lent → Operate e p s w lent r.number byte left
      operated lent r left h byte b = record {
        exact = record { number = h.exact.number; answer = b ∙ written h.exact.number h.exact.byte; state = h.exact.state };
        answers = λ v f st k.
            let a = h.answers v f st k in
            record { number = a.number; answer = b ∙ written a.number a.byte; pictures = a.pictures };
      }
        where
          written : {m n y z : ℕ} → m ≡ n → y ≡ z → cond (eqb m 0) y lent ≡ cond (eqb n 0) z lent
          written a c = cc

  -- an operation on a state that number 14 lets through leaves one that it lets through, of an engine whose states picture some stack exactly then
  pub operate_stays : ((s : List ℕ) (st : Stack) → e.Pictures p s st → e.fits p s ≡ true)
      → (s : List ℕ) → (valid p ≡ true → (st : Stack) × e.Pictures p s st)
      → (w lent n byte : ℕ) (left : List ℕ) → Operate e p s w lent n byte left → e.fits p s ≡ true → e.fits p left ≡ true
  unfolding worded
  operate_stays fitting s some w lent n byte left h here = go (eqb (refusal_in p (e.fits p s)) 0) refl
    where
      go : (b : Bool) → eqb (refusal_in p (e.fits p s)) 0 ≡ b → e.fits p left ≡ true
      go true q =
          let v : valid p ≡ true = (let_in_with p (e.fits p s) (eqb-true _ 0 q)).0 in
          let pictured = some v in
          fitting left _ (h.answers v here pictured.0 pictured.1).pictures
      go false q = rw (rw q at h.exact.state) here
