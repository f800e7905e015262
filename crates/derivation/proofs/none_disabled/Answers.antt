-- The closure asks of each place below n whether its frame has it disabled.
use Rattle.std.proofs.Common.{rules, ◌≡◌, true, false, not, Bool, ℕ, arith, refl}
use Rattle.std.proofs.lemmas.Iterator.{cases_from_all, YieldsList-from_range}
use lib.ListN.{get_or}
use Rattle.bits.specs.Bit.{bit, with_bit, Meets}
use Rattle.bits.proofs.Laws.{bit_none}
use Rattle.beliefs.specs.declared.Marked.{Marked}
use Rattle.beliefs.specs.Stack.{nobody}
use Rattle.walk.specs.Layout.{frames}
use Rattle.derivation.proofs.Entries.{all_asked}
use Rattle.derivation.proofs.none_disabled.Goals as goal

-- the test of the word of the bit is the test of the bit
alone : {a b : ℕ} {r : Bool} (t : ℕ) → Meets a b r → b ≡ with_bit 0 t → r ≡ bit a t
alone t h e = h.alone t e

pub returns : goal.returns
returns c =
    let t = c.args.target in
    let clear = λ (m : Marked). not (bit m.disabled t) in
    all_asked clear (rw (bit_none t)) c.args.n (frames c.args.state.now) _
    (cases_from_all _ _ _ (λ (k : ℕ). clear (get_or (frames c.args.state.now) k nobody) ≡ true)
    (λ (k : ℕ). clear (get_or (frames c.args.state.now) k nobody) ≡ false) c.all.ensures.ran (YieldsList-from_range 0 c.args.n c.args.n refl (omega arith))
    (λ x q k. search (rules, alone)) (λ x q k. search (rules, alone)))
