-- Bytes that are put one after another stand in the buffer as one. Assumes nothing.
use mathlib.Core.Path.{◌≡◌, refl, sym, ap, ◌∙◌}
use mathlib.Core.List.{List, [], ◌++◌, append_assoc, append-nil}
use Prim.Native.Nat.{ℕ, ◌+◌, ◌-◌, ◌≤◌}
use native.Mathlib.Nat.{zero-add}
use native.Mathlib.Omega.{arith}
use lib.ListN.{length, take, drop, length-append, length-drop}
use lib.Seq.{sets, sets-eq, take_all}
use Rattle.std.proofs.lemmas.List.{drop-drop, drop_all}
use borrow.Rule.Slice.PartMut.{mid_of, put_mid, put_same}
use Rattle.beliefs.proofs.Lists.{sets_more}
use Rattle.lines.specs.Promise.{Puts}

pub then : {l m n : List ℕ} {i j k : ℕ} {a b : List ℕ} → Puts l m i j a → Puts m n j k b → Puts l n i k (a ++ b)
then {l} {m} {n} {i} {j} {k} {a} {b} p q = record {
  until = simp length-append (omega (arith, p.until, q.until));
  buffer = q.buffer ∙ rw (p.buffer, p.until) (sets_more l i a b);
}

pub none : {l : List ℕ} → Puts l l 0 0 []
none = record { until = refl; buffer = refl }

-- the first bytes of a buffer overwritten
pub at_front : (l bytes : List ℕ) → length bytes ≤ length l → bytes ++ drop (length bytes) l ≡ sets l 0 bytes
at_front l bytes h = sym (sets-eq bytes l 0 (omega arith) ∙ ap (λ n. bytes ++ drop n l) (zero-add (length bytes)))

-- what stands behind a place
abbrev pub rest : List ℕ → ℕ → List ℕ
rest l at = mid_of at (length l - at) l

rest_all : (l : List ℕ) (at : ℕ) → rest l at ≡ drop at l
rest_all l at = take_all (length l - at) (drop at l) (simp length-drop (omega arith))

pub length_rest : (l : List ℕ) (at : ℕ) → length (rest l at) ≡ length l - at
length_rest l at = ap length (rest_all l at) ∙ length-drop at l

-- the buffer, once others stand there
abbrev pub with_rest : List ℕ → ℕ → List ℕ → List ℕ
with_rest l at new = put_mid at (length l - at) l new

pub nothing_behind : {left new : List ℕ} (at : ℕ) → new ≡ rest left at → with_rest left at new ≡ left
nothing_behind {left} {new} at same = ap (with_rest left at) same ∙ put_same at (length left - at) left

pub behind : {left new bytes : List ℕ} {n : ℕ} (at : ℕ) → at ≤ length left → length bytes ≤ length (rest left at) → Puts (rest left at) new 0 n bytes
    → Puts left (with_rest left at new) at (at + n) bytes
behind {left} {new} {bytes} {n} at within fits p =
    let room : at + length bytes ≤ length left = omega (arith, length_rest left at) in
    let past : drop (length left - at) (drop at left) ≡ [] = drop_all (length left - at) (drop at left) (simp length-drop (omega arith)) in
    let kept : drop (length bytes) (rest left at) ≡ drop (at + length bytes) left =
    ap (drop (length bytes)) (rest_all left at) ∙ drop-drop (length bytes) at left in
    let all : new ≡ bytes ++ drop (at + length bytes) left = p.buffer ∙ sym (at_front (rest left at) bytes fits) ∙ ap (λ r. bytes ++ r) kept in
    record {
      until = omega (arith, p.until);
      buffer = ap (λ r. take at left ++ (new ++ r)) past ∙ ap (λ r. take at left ++ r) (append-nil new ∙ all)
          ∙ sym (append_assoc (take at left) bytes _) ∙ sym (sets-eq bytes left at room);
    }
