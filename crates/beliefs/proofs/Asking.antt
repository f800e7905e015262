-- "Enable adds Ok(T), whether or not the policy permits the signer (000 and 002; 001 asks the policy first. On every check the verdict is equal)."
-- A trace is run a second time with an enable that asks the policy first; every answer of the two is equal. Assumes nothing.
use mathlib.Core.Path.{◌≡◌, refl, sym, ap, ap₂, ◌∙◌}
use mathlib.Core.Bool.{Bool, true, false, cond, not, ◌&&◌, ◌||◌, and-or_distrib_left}
use mathlib.Core.List.{List, [], ◌∷◌, map-id}
use Prim.Native.Nat.{ℕ, suc}
use lib.Dec.{eqb}
use lib.ListN.{length}
use borrow.Author.Tests.{eqb-true}
use Rattle.answers.specs.Answer.{Moved, verdict_byte, done, guarded}
use Rattle.answers.specs.Account.{Account}
use Rattle.answers.proofs.Alike.{Alike, guarded_alike}
use Rattle.words.specs.declared.Operation.{Operation}
use Rattle.words.specs.declared.Operation.TheVariants.{Call, Return, Enable, Disable, Revert, Check}
use Rattle.words.specs.Words.{barred}
use Rattle.beliefs.specs.Lists.{any}
use Rattle.beliefs.specs.Policy.{Policy, Target}
use Rattle.beliefs.specs.Stack.{Principal, Frame, Stack, own, permitted, granted, called, enable, disable, revert}
use Rattle.beliefs.specs.Trace.{by_newest, below, does, step, run_from}
use Rattle.beliefs.specs.Engine.{inherited}
use Rattle.beliefs.proofs.Granted.{granted_split, own_enable, own_disable, own_revert, own_called}
use Rattle.beliefs.proofs.Granted.{inherited_enable, inherited_disable, inherited_revert, inherited_called}
use Rattle.beliefs.proofs.Runs.{runs_alike}

-- the enable that asks first, and the step with it
abbrev pub enable_asking : Policy → Target → Frame → Frame
enable_asking p t f = cond (permitted p t f.principal) (enable t f) f

unfoldable pub does_asking : Bool → Policy → Operation → Stack → Moved Stack
does_asking counts p (Call s) st = does counts p (Call s) st
does_asking counts p Return st = does counts p Return st
does_asking counts p (Enable t) st = done (by_newest (enable_asking p t) st)
does_asking counts p (Disable t) st = does counts p (Disable t) st
does_asking counts p (Revert t) st = does counts p (Revert t) st
does_asking counts p (Check t) st = does counts p (Check t) st

abbrev pub step_asking : Bool → Policy → Operation → Stack → Moved Stack
step_asking counts p op st = guarded (barred (length st) op) (does_asking counts p op st) st

-- two frames that no check tells apart: what one owns and its signer is permitted, the other owns too
pub record Likes (p : Policy) (f g : Frame) : Type 0 where
  pub same : f.principal ≡ g.principal
  pub owns : (t : ℕ) → (permitted p t f.principal && any (own t) f.beliefs) ≡ (permitted p t f.principal && any (own t) g.beliefs)
  pub inherits : (t : ℕ) → any (inherited p t) f.beliefs ≡ any (inherited p t) g.beliefs

abbrev pub AllAlike : Policy → Stack → Stack → Type 0
AllAlike p [] [] = Unit {0}
AllAlike p [] (g ∷ s) = ⊥
AllAlike p (f ∷ r) [] = ⊥
AllAlike p (f ∷ r) (g ∷ s) = Likes p f g × AllAlike p r s

module _ (p : Policy) where
  like_refl : (f : Frame) → Likes p f f
  like_refl f = record { same = refl; owns = λ t. refl; inherits = λ t. refl }

  alike_granted : (t : ℕ) (f g : Frame) (r s : Stack) → Likes p f g → granted p t (f ∷ r) ≡ granted p t (g ∷ s)
  alike_granted t f g r s h =
      granted_split p t f r
      ∙ and-or_distrib_left (permitted p t f.principal) (any (own t) f.beliefs) (any (inherited p t) f.beliefs)
      ∙ ap₂ (λ (x y : Bool). x || (permitted p t f.principal && y)) (h.owns t) (h.inherits t)
      ∙ sym (and-or_distrib_left (permitted p t f.principal) (any (own t) g.beliefs) (any (inherited p t) g.beliefs))
      ∙ ap (λ (x : Principal). permitted p t x && (any (own t) g.beliefs || any (inherited p t) g.beliefs)) h.same
      ∙ sym (granted_split p t g s)

  -- an operation that does the same to both
  under : (q : Bool) (g : Bool → Bool) (x y : Bool) → (q && x) ≡ (q && y) → (q && g x) ≡ (q && g y)
  under true g x y e = ap g e
  under false g x y e = refl

  idle : (q k x y : Bool) → q ≡ false → (q && (k || x)) ≡ (q && y)
  idle true k x y e = cc
  idle false k x y e = refl

  module _ (u : ℕ) (f g : Frame) (h : Likes p f g) where
    disable_alike : Likes p (disable u f) (disable u g)
    unfolding disable
    disable_alike = record {
      same = h.same;
      owns = λ t. ap (λ (x : Bool). permitted p t f.principal && x) (own_disable u t f)
          ∙ under (permitted p t f.principal) (λ x. not (eqb u t) && x) _ _ (h.owns t)
          ∙ sym (ap (λ (x : Bool). permitted p t f.principal && x) (own_disable u t g));
      inherits = λ t. inherited_disable u t f p ∙ ap (λ (x : Bool). not (eqb u t) && x) (h.inherits t) ∙ sym (inherited_disable u t g p);
    }

    revert_alike : Likes p (revert u f) (revert u g)
    unfolding revert
    revert_alike = record {
      same = h.same;
      owns = λ t. ap (λ (x : Bool). permitted p t f.principal && x) (own_revert u t f)
          ∙ under (permitted p t f.principal) (λ x. not (eqb u t) && x) _ _ (h.owns t)
          ∙ sym (ap (λ (x : Bool). permitted p t f.principal && x) (own_revert u t g));
      inherits = λ t. inherited_revert u t f p ∙ h.inherits t ∙ sym (inherited_revert u t g p);
    }

    -- where the signer is not permitted u, what is on u counts for nothing
    skipped : permitted p u f.principal ≡ false → (t : ℕ) → (e : Bool) → eqb u t ≡ e
        → (permitted p t f.principal && (e || any (own t) f.beliefs)) ≡ (permitted p t f.principal && any (own t) g.beliefs)
    skipped z t true q = idle (permitted p t f.principal) true (any (own t) f.beliefs) (any (own t) g.beliefs)
        (ap (λ (n : ℕ). permitted p n f.principal) (sym (eqb-true u t q)) ∙ z)
    skipped z t false q = h.owns t

    enable_alike : (e : Bool) → permitted p u g.principal ≡ e → Likes p (enable u f) (cond e (enable u g) g)
    unfolding enable
    enable_alike true q = record {
      same = h.same;
      owns = λ t. ap (λ (x : Bool). permitted p t f.principal && x) (own_enable u t f)
          ∙ under (permitted p t f.principal) (λ x. eqb u t || x) _ _ (h.owns t)
          ∙ sym (ap (λ (x : Bool). permitted p t f.principal && x) (own_enable u t g));
      inherits = λ t. inherited_enable u t f p ∙ h.inherits t ∙ sym (inherited_enable u t g p);
    }
    enable_alike false q = record {
      same = h.same;
      owns = λ t. ap (λ (x : Bool). permitted p t f.principal && x) (own_enable u t f) ∙ skipped (ap (permitted p u) h.same ∙ q) t (eqb u t) refl;
      inherits = λ t. inherited_enable u t f p ∙ h.inherits t;
    }

  call_alike : (n : ℕ) (f g : Frame) (r s : Stack) → Likes p f g → Likes p (called p n (f ∷ r)) (called p n (g ∷ s))
  unfolding called
  call_alike n f g r s h = record {
    same = ap (λ (x : Principal). record { place = suc x.place; signer = n }) h.same;
    owns = λ t. ap (λ (x : Bool). permitted p t (record { place = suc f.principal.place; signer = n }) && x)
        (own_called p t n f r ∙ sym (own_called p t n g s));
    inherits = λ t. inherited_called p t n f r ∙ alike_granted t f g r s h ∙ sym (inherited_called p t n g s);
  }

  alike_length : (st su : Stack) → AllAlike p st su → length st ≡ length su
  alike_length [] [] h = refl
  alike_length [] (g ∷ s) h = absurd h
  alike_length (f ∷ r) [] h = absurd h
  alike_length (f ∷ r) (g ∷ s) h = ap suc (alike_length r s h.1)

  called_alike : (n : ℕ) (st su : Stack) → AllAlike p st su → Likes p (called p n st) (called p n su)
  called_alike n [] [] h = like_refl (called p n [])
  called_alike n [] (g ∷ s) h = absurd h
  called_alike n (f ∷ r) [] h = absurd h
  called_alike n (f ∷ r) (g ∷ s) h = call_alike n f g r s h.0

  -- one operation: the same number, the same answer byte without the count, and alike stacks
  abbrev pub SameAnswer : Moved Stack → Moved Stack → Type 0
  SameAnswer = Alike (AllAlike p) (λ b. b)

  newest_same : (k l : Frame → Frame) → ((f g : Frame) → Likes p f g → Likes p (k f) (l g))
      → (st su : Stack) → AllAlike p st su → SameAnswer (done (by_newest k st)) (done (by_newest l su))
  newest_same k l e [] [] h = record { number = refl; byte = refl; states = tt }
  newest_same k l e [] (g ∷ s) h = absurd h
  newest_same k l e (f ∷ r) [] h = absurd h
  newest_same k l e (f ∷ r) (g ∷ s) h = record { number = refl; byte = refl; states = (e f g h.0, h.1) }

  below_alike : (st su : Stack) → AllAlike p st su → AllAlike p (below st) (below su)
  below_alike [] [] h = tt
  below_alike [] (g ∷ s) h = absurd h
  below_alike (f ∷ r) [] h = absurd h
  below_alike (f ∷ r) (g ∷ s) h = h.1

  alike_check : (t : Target) (st su : Stack) → AllAlike p st su → granted p t st ≡ granted p t su
  alike_check t [] [] h = refl
  alike_check t [] (g ∷ s) h = absurd h
  alike_check t (f ∷ r) [] h = absurd h
  alike_check t (f ∷ r) (g ∷ s) h = alike_granted t f g r s h.0

  does_same : (op : Operation) (st su : Stack) → AllAlike p st su → SameAnswer (does false p op st) (does_asking false p op su)
  unfolding does does_asking
  does_same (Call n) st su h = record { number = refl; byte = refl; states = (called_alike n st su h, h) }
  does_same Return st su h = record { number = refl; byte = refl; states = below_alike st su h }
  does_same (Enable t) st su h = newest_same (enable t) (enable_asking p t) (λ f g k. enable_alike t f g k (permitted p t g.principal) refl) st su h
  does_same (Disable t) st su h = newest_same (disable t) (disable t) (disable_alike t) st su h
  does_same (Revert t) st su h = newest_same (revert t) (revert t) (revert_alike t) st su h
  does_same (Check t) st su h = record { number = refl; byte = ap (λ (v : Bool). verdict_byte v 0) (alike_check t st su h); states = h }

  step_same : (op : Operation) (st su : Stack) → AllAlike p st su → SameAnswer (step false p op st) (step_asking false p op su)
  step_same op st su h = rw (alike_length st su h) (guarded_alike (AllAlike p) (λ b. b) refl h (barred (length su) op) (λ _. does_same op st su h))

  -- every trace: the two runs give the same answers, number and figure
  pub asking_first : (i : ℕ) (trace : List ℕ) (st su : Stack) → AllAlike p st su → run_from (step false) p i trace st
      ≡ run_from (step_asking false) p i trace su
  asking_first i trace st su h =
      runs_alike (step false) (step_asking false) p (AllAlike p) (λ b. b) refl step_same i trace st su h
      ∙ ap (λ (l : List ℕ). record { number = again.number; figure = again.figure; written = l }) (map-id again.written)
    where
      again : Account
      again = run_from (step_asking false) p i trace su
