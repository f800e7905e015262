-- Each promise fixes its result, and what is left in the lent buffer: of two that both keep it, one is the other. Assumes nothing.
use mathlib.Core.Path.{◌≡◌, refl}
use mathlib.Core.List.{List}
use Prim.Native.Nat.{ℕ}
use Rattle.bits.proofs.Unique.{Fixes, one_result}
use Rattle.lines.specs.Promise.{Lined}
use Rattle.lines.specs.contracts as contracts
use Rattle.lines.proofs.ToldFromReport.from as told_from
use Rattle.lines.proofs.policy_line as policy_line
use Rattle.lines.proofs.check_line as check_line
use Rattle.lines.proofs.end_line as end_line
use Rattle.lines.proofs.refused_line as refused_line
use Rattle.lines.proofs.fill as fill

-- for every function that writes a line: the bytes written, and what is left in the lent buffer, which is handed over at its place among the parameters
lined_unique {ℓ} : {W : Type ℓ} (place : List ℕ → W) {lent left other line : List ℕ} {r q : ℕ}
    → Lined r lent left line → Lined q lent other line → (r ≡ q) × (place left ≡ place other)
lined_unique place h k = (one_result h.count k.count, λ i. place (one_result h.buffer k.buffer i))

pub told_from_unique : Fixes contracts.ToldFromReport.from.ended told_from.Reads.Post
told_from_unique _ _ _ _ _ _ h k = let same = one_result h k in (λ i. record { number = (same i).number; figure = (same i).figure }, refl)

pub policy_line_unique : Fixes contracts.policy_line.ended policy_line.Reads.Post
policy_line_unique _ _ _ _ _ _ = lined_unique (λ w. (tt, (w, tt)))

pub check_line_unique : Fixes contracts.check_line.ended check_line.Reads.Post
check_line_unique _ _ _ _ _ _ = lined_unique (λ w. (tt, (tt, (tt, (w, tt)))))

pub end_line_unique : Fixes contracts.end_line.ended end_line.Reads.Post
end_line_unique _ _ _ _ _ _ = lined_unique (λ w. (tt, (w, tt)))

pub refused_line_unique : Fixes contracts.refused_line.ended refused_line.Reads.Post
refused_line_unique _ _ _ _ _ _ = lined_unique (λ w. (tt, (tt, (w, tt))))

pub fill_unique : Fixes contracts.fill.ended fill.Reads.Post
fill_unique _ _ _ _ _ _ h k =
    let buffer = one_result h.buffer k.buffer in
    (λ i. record { next = one_result h.next k.next i; len = one_result h.len k.len i }, λ i. (tt, (tt, (buffer i, tt))))
