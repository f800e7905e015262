-- "Derivations", over a policy, the marked frames of a walk state (newest first) and a target T.
use Rattle.std.specs.Prelude.{Bool, true, false, cond, not, ◌&&◌, ◌||◌, List, [], ◌∷◌, ◌++◌, map, ℕ}
use Rattle.std.specs.Prelude.{zero, suc, ◌+◌, ◌-◌, ◌*◌, ◌/◌, ◌%◌, eqb, leb, length, get_or, take, replicate}
use Rattle.std.proofs.Math.Option
use Rattle.std.proofs.Math.Option.{Option, some, none, Option-elim}
use Rattle.bits.specs.Bit.{bit}
use Rattle.answers.specs.Numbers.{not_allowed, not_empty, forbidden, unless, first}
use Rattle.answers.specs.Account.{Account, told, short_of, barring}
use Rattle.words.specs.declared.Operation.TheVariants.{Check}
use Rattle.words.specs.Words.{barred}
use Rattle.beliefs.specs.Lists.{all, empty}
use Rattle.beliefs.specs.Policy.{Policy, Target, permits, outside_of}
use Rattle.beliefs.specs.declared.Marked.{Marked}
use Rattle.beliefs.specs.Stack.{nobody, walk}

-- an entry of a chain: a frame with the signer that it speaks for, a signer, or T
pub data Entry : Type 0 where
  frame : ℕ → Entry
  signer : ℕ → Entry
  target : Entry

-- rule 0, take n: n from 1 to the depth; the n-th has T enabled and none of the first n - 1 has T disabled
unfoldable pub may_take : Target → ℕ → List Marked → Bool
may_take t n ms =
    (leb 1 n && leb n (length ms))
    && (bit (get_or ms (n - 1) nobody).enabled t && all (λ m. not (bit m.disabled t)) (take (n - 1) ms))

abbrev pub taken : ℕ → List Marked → List Entry
taken n ms = map (λ (m : Marked). frame m.signer) (take n ms)

-- rule 1: a frame becomes its signer
abbrev pub spoken : Entry → Option Entry
spoken (frame s) = some (signer s)
spoken (signer s) = none
spoken target = none

-- rule 2: a signer becomes T, if the policy permits
abbrev pub allowed : Policy → Target → Entry → Option Entry
allowed p t (frame s) = none
allowed p t (signer s) = cond (permits p s t) (some target) none
allowed p t target = none

-- rules 1 and 2 at a place; places count from 0 at the newest
abbrev pub at_place : (Entry → Option Entry) → ℕ → List Entry → Option (List Entry)
at_place g k [] = none
at_place g zero (e ∷ es) = Option.map (λ (x : Entry). x ∷ es) (g e)
at_place g (suc k) (e ∷ es) = Option.map (λ (l : List Entry). e ∷ l) (at_place g k es)

-- rule 3: the chain's last entry, if it is T, is dropped
abbrev pub is_target : Entry → Bool
is_target (frame s) = false
is_target (signer s) = false
is_target target = true

abbrev pub drop_from : Entry → List Entry → Option (List Entry)
drop_from e [] = cond (is_target e) (some []) none
drop_from e (x ∷ es) = Option.map (λ (l : List Entry). e ∷ l) (drop_from x es)

abbrev pub drop_last : List Entry → Option (List Entry)
drop_last [] = none
drop_last (e ∷ es) = drop_from e es

-- a step is one byte: rule (2 bits), place (6 bits)
abbrev pub rule : ℕ → ℕ
rule b = b / 64

abbrev pub place : ℕ → ℕ
place b = b % 64

-- the chain after a step, or none where the step is not allowed. Without a chain there is no entry, so only a take is
unfoldable pub follow : Policy → List Marked → Target → ℕ → List Entry → Option (List Entry)
follow p ms t b es =
    cond (eqb (rule b) 0) (cond (may_take t (place b) ms) (some (taken (place b) ms)) none)
    (cond (eqb (rule b) 1) (at_place spoken (place b) es)
    (cond (eqb (rule b) 2) (at_place (allowed p t) (place b) es)
    (cond (eqb (place b) 0) (drop_last es) none)))

-- accepted when every step is allowed and, at the end, a chain was taken and is empty: 10 with the step's index, 11
unfoldable pub judge : Policy → List Marked → Target → Bool → ℕ → List Entry → List ℕ → Account
judge p ms t took i es [] = cond (took && empty es) (told 0 i) (told not_empty 0)
judge p ms t took i es (b ∷ bs) = Option-elim (follow p ms t b es) (told not_allowed i) (λ (l : List Entry). judge p ms t (took || eqb (rule b) 0) (suc i) l bs)

-- before any step is looked at or written, what refuses the check itself: 6, 7
abbrev pub unasked : Policy → List Marked → Target → ℕ
unasked p ms t = first (outside_of p (Check t)) (barred (length ms) (Check t))

-- checking: 6, 7, 10, 11
unfoldable pub judged : Policy → List Marked → Target → List ℕ → Account
judged p ms t steps = barring (unasked p ms t) (judge p ms t false 0 [] steps)

-- ours: take n, rule 1 at places 0 to n - 1, rule 2 likewise, then n drops
abbrev pub at_places : ℕ → ℕ → ℕ → List ℕ
at_places r k zero = []
at_places r k (suc n) = (r * 64 + k) ∷ at_places r (suc k) n

unfoldable pub ours : ℕ → List ℕ
ours n = n ∷ (at_places 1 0 n ++ (at_places 2 0 n ++ replicate n 192))

-- writing: 6, 7, 12, 9; n is the number of frames looked at
abbrev pub shown : Bool → ℕ → ℕ → Account
shown v n room = barring (first (unless v forbidden) (short_of (3 * n + 1) room)) (record { number = 0; figure = 3 * n + 1; written = ours n })

unfoldable pub derived : Policy → List Marked → Target → ℕ → Account
derived p ms t room = barring (unasked p ms t) (shown (walk p t ms).granted (walk p t ms).looked room)
