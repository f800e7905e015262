-- Document 01's listing of trace A, computed from the recording's bytes by the definition.
use Rattle.std.specs.Prelude.{◌≡◌, refl, List, [], ◌∷◌, ℕ}
use Rattle.bits.specs.Bit.{bit, with_bit, without_bit, below, lowest}
use Rattle.beliefs.specs.Lists.{each}
use Rattle.beliefs.specs.Policy.{permits, row_fits, valid, refusal, mirrored, row_of, rows_of, read_number, value_read}
use Rattle.beliefs.specs.Stack.{called, enable, disable, revert, granted, walk}
use Rattle.words.specs.Words.{operation_of, stray_in, outside, barred, decoded}
use Rattle.beliefs.specs.Trace.{does, run_from, run_refusal, run}
use Rattle.policy.specs.Read.{cut_at}
use Rattle.lines.specs.Text.{digits, decimal, policy_line, check_line, end_line, refused_line, word_line, joined, listed, read, listing}

-- 08 10 C0 80 00, then trace A
abbrev pub recording : List ℕ
recording =
    0x08 ∷ 0x10 ∷ 0xC0 ∷ 0x80 ∷ 0x00
    ∷ 0x00 ∷ 0x00 ∷ 0x40 ∷ 0x00 ∷ 0x01 ∷ 0x00 ∷ 0xA0 ∷ 0x00 ∷ 0xA0 ∷ 0x04 ∷ 0x60 ∷ 0x00
    ∷ 0xA0 ∷ 0x00 ∷ 0x80 ∷ 0x00 ∷ 0xA0 ∷ 0x00 ∷ 0x20 ∷ 0x00 ∷ 0xA0 ∷ 0x00 ∷ []

-- the lines of document 01
abbrev pub text : List ℕ
text =
    112 ∷ 111 ∷ 108 ∷ 105 ∷ 99 ∷ 121 ∷ 32 ∷ 51 ∷ 32 ∷ 50 ∷ 32 ∷ 101 ∷ 109 ∷ 112 ∷ 116 ∷ 121 ∷ 10
    ∷ 51 ∷ 32 ∷ 48 ∷ 32 ∷ 103 ∷ 114 ∷ 97 ∷ 110 ∷ 116 ∷ 101 ∷ 100 ∷ 32 ∷ 50 ∷ 10
    ∷ 52 ∷ 32 ∷ 49 ∷ 32 ∷ 102 ∷ 111 ∷ 114 ∷ 98 ∷ 105 ∷ 100 ∷ 100 ∷ 101 ∷ 110 ∷ 32 ∷ 49 ∷ 10
    ∷ 54 ∷ 32 ∷ 48 ∷ 32 ∷ 102 ∷ 111 ∷ 114 ∷ 98 ∷ 105 ∷ 100 ∷ 100 ∷ 101 ∷ 110 ∷ 32 ∷ 49 ∷ 10
    ∷ 56 ∷ 32 ∷ 48 ∷ 32 ∷ 102 ∷ 111 ∷ 114 ∷ 98 ∷ 105 ∷ 100 ∷ 100 ∷ 101 ∷ 110 ∷ 32 ∷ 49 ∷ 10
    ∷ 49 ∷ 48 ∷ 32 ∷ 48 ∷ 32 ∷ 103 ∷ 114 ∷ 97 ∷ 110 ∷ 116 ∷ 101 ∷ 100 ∷ 32 ∷ 49 ∷ 10
    ∷ 101 ∷ 110 ∷ 100 ∷ 32 ∷ 49 ∷ 49 ∷ 10
    ∷ []

pub proved : listing recording ≡ text
unfolding listing read listed joined word_line refused_line end_line check_line policy_line decimal digits cut_at
    run run_refusal run_from does called enable disable revert granted walk decoded operation_of stray_in outside barred permits
    refusal valid row_fits each mirrored row_of rows_of read_number value_read bit with_bit without_bit below lowest
proved = refl
