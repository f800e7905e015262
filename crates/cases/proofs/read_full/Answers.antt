-- What one read puts behind what the buffer holds is what the input then loses.
use Rattle.std.proofs.Common.{rules, arith, ◌≡◌, ◌∙◌, sym, ap, subst, le_refl, ℕ, ◌+◌, ◌-◌, ◌≤◌, List, ◌++◌, length, take, drop}
use Rattle.std.proofs.Common.{slice_range, drop_at, length-take-le}
use Rattle.std.specs.Io.KnownBytes.{Consumes}
use Rattle.std.proofs.KnownBytes.{Consumes-trans}
use Rattle.std.proofs.lemmas.Slice.{take-put_mid_below}
use borrow.Rule.Slice.PartMut.{put_mid, post_of}
use lib.Seq.{take-add, take-append-le}
use Rattle.cases.proofs.read_full.Goals as goal

-- the first a values, and then the n values behind them
joined : (a n : ℕ) (old new : List ℕ) → take a new ≡ take a old → take a old ++ slice_range new a (a + n) ≡ take (a + n) new
joined a n old new front =
    let same : (a + n) - a ≡ n = omega arith in
    ap (λ l. l ++ slice_range new a (a + n)) (sym front) ∙ ap (λ m. take a new ++ take m (drop a new)) same ∙ sym (take-add a n new)

-- the n values at a, where ys was put there
put_there : (a k n : ℕ) (xs ys : List ℕ) → a ≤ length xs → n ≤ length ys → slice_range (put_mid a k xs ys) a (a + n) ≡ take n ys
put_there a k n xs ys within fits =
    let same : (a + n) - a ≡ n = omega arith in
    let after = post_of a k xs in
    let dropped = drop_at (take a xs) (ys ++ after) a (length-take-le a xs within) in
    ap (take ((a + n) - a)) dropped ∙ ap (λ m. take m (ys ++ after)) same ∙ take-append-le n ys after fits

pub loop-done-preserved : goal.loop-done-preserved
loop-done-preserved g c =
    let at = c.loop-done.done in
    let held = c.loop-done.buffer in
    let room = length held - at in
    let within : at ≤ length held = search rules in
    let came = put_there at room c.in_ok-n.n held c.read.new.buf within c.in_ok-n.ensures.bound.0 in
    let front = take-put_mid_below _ _ _ _ _ (le_refl _) within in
    let whole = ap (λ l. take at held ++ l) (sym came) ∙ joined at c.in_ok-n.n held (put_mid at room held c.read.new.buf) front in
    let lost = Consumes-trans _ _ _ _ _ c.loop-done.invariant.2 c.in_ok-n.ensures.bytes.0 in
    (search rules, search rules, subst (Consumes _ _) whole lost)

-- the loop is left where the buffer is full, or at a read that came to the end
pub returns-clause-end : goal.returns-clause-end
returns-clause-end g c = search rules
