-- Each promise fixes its result: of two results that both keep it, one is the other. Assumes nothing.
use mathlib.Core.Path.{◌≡◌, refl, sym, ◌∙◌}
use contract.Lifetimes.{Lfts}
use denote.Triple.Clauses.{Ended, Lasts, AtExit, at_exit}
use denote.Triple.Entry.{Args, Res}
use Rattle.bits.specs.contracts as contracts
use Rattle.bits.proofs.has as has
use Rattle.bits.proofs.with as with
use Rattle.bits.proofs.without as without
use Rattle.bits.proofs.meet as meet
use Rattle.bits.proofs.fits as fits
use Rattle.bits.proofs.all_fit as all_fit
use Rattle.bits.proofs.ones as ones

-- what the kit makes of a clause: a relation of arguments, result and what the arguments are at exit
abbrev pub Clause : Ended → Type 1
Clause T = (κs : Lfts T.signature.lifetimes) → Args T.signature κs → Res T.signature κs → AtExit T κs → Type 0

-- a promise fixes the result, and what is left in everything that was lent to be changed
abbrev pub Fixes : (T : Ended) → Clause T → Type 0
Fixes T Promise = (κs : Lfts T.signature.lifetimes) (a : Args T.signature κs) (r s : Res T.signature κs) (ws vs : Lasts T κs a)
    → Promise κs a r (at_exit T κs a ws) → Promise κs a s (at_exit T κs a vs) → (r ≡ s) × (ws ≡ vs)

-- the law behind every one of them
pub one_result {ℓ} : {A : Type ℓ} {x r s : A} → r ≡ x → s ≡ x → r ≡ s
one_result p q = p ∙ sym q

-- where nothing was lent to be changed
pub alone {ℓ} : {A B : Type ℓ} {x r s : A} {w : B} → r ≡ x → s ≡ x → (r ≡ s) × (w ≡ w)
alone p q = (one_result p q, refl)

pub has_unique : Fixes contracts.has.ended has.Reads.Post
has_unique _ _ _ _ _ _ = alone

pub with_unique : Fixes contracts.with.ended with.Reads.Post
with_unique _ _ _ _ _ _ = alone

pub without_unique : Fixes contracts.without.ended without.Reads.Post
without_unique _ _ _ _ _ _ = alone

pub meet_unique : Fixes contracts.meet.ended meet.Reads.Post
meet_unique _ _ _ _ _ _ h k = alone h.exact k.exact

pub fits_unique : Fixes contracts.fits.ended fits.Reads.Post
fits_unique _ _ _ _ _ _ = alone

pub all_fit_unique : Fixes contracts.all_fit.ended all_fit.Reads.Post
all_fit_unique _ _ _ _ _ _ = alone

pub ones_unique : Fixes contracts.ones.ended ones.Reads.Post
ones_unique _ _ _ _ _ _ = alone
