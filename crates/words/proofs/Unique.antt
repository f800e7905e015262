-- Each promise fixes its result: of two results that both keep it, one is the other. Assumes nothing.
use mathlib.Core.Path.{refl}
use Rattle.bits.proofs.Unique.{Fixes, one_result, alone}
use Rattle.answers.proofs.Unique.{refused_unique}
use Rattle.words.proofs.Words.{one_decoded}
use Rattle.words.specs.contracts as contracts
use Rattle.words.proofs.outside as outside
use Rattle.words.proofs.framed as framed
use Rattle.words.proofs.deeper as deeper
use Rattle.words.proofs.barred as barred
use Rattle.words.proofs.decode as decode
use Rattle.words.proofs.word_at as word_at

pub outside_unique : Fixes contracts.outside.ended outside.Reads.Post
outside_unique _ _ _ _ _ _ = refused_unique

pub framed_unique : Fixes contracts.framed.ended framed.Reads.Post
framed_unique _ _ _ _ _ _ = refused_unique

pub deeper_unique : Fixes contracts.deeper.ended deeper.Reads.Post
deeper_unique _ _ _ _ _ _ = refused_unique

pub barred_unique : Fixes contracts.barred.ended barred.Reads.Post
barred_unique _ _ _ _ _ _ = refused_unique

pub decode_unique : Fixes contracts.decode.ended decode.Reads.Post
decode_unique _ _ _ _ _ _ h k = (one_decoded (one_result h k), refl)

pub word_at_unique : Fixes contracts.word_at.ended word_at.Reads.Post
word_at_unique _ _ _ _ _ _ = alone
