-- "The listing program": its text, byte by byte in ASCII.
use Rattle.std.specs.Prelude.{Bool, true, cond, List, [], ◌∷◌, ◌++◌, ℕ, zero, suc, ◌+◌, ◌/◌, ◌%◌, eqb, ltb, length, get_or, take, drop}
use Rattle.answers.specs.Account.{Account}
use Rattle.answers.specs.Numbers.{left_over}
use Rattle.words.specs.declared.Operation.{Operation}
use Rattle.words.specs.declared.Operation.TheVariants.{Call, Return, Enable, Disable, Revert, Check}
use Rattle.words.specs.Words.{Decoded, Word, Refused, word_at}
use Rattle.beliefs.specs.Policy.{Policy, signers, targets, reading, read_number, value_read}
use Rattle.beliefs.specs.Stack.{full}
use Rattle.beliefs.specs.Trace.{run}
use Rattle.policy.specs.Read.{cut_at}

-- the character of a digit: 0 is 48
abbrev pub digit : ℕ → ℕ
digit d = 48 + d

-- a number's digits, the most significant first, in at most k + 1 places
unfoldable pub digits : ℕ → ℕ → List ℕ
digits zero n = digit n ∷ []
digits (suc k) n = cond (ltb n 10) (digit n ∷ []) (digits k (n / 10) ++ (digit (n % 10) ∷ []))

-- a number of 64 bits has at most 20 digits
unfoldable pub decimal : ℕ → List ℕ
decimal n = digits 19 n

abbrev pub space : ℕ
space = 32

abbrev pub newline : ℕ
newline = 10

-- a number, and the character that ends it
abbrev pub item : ℕ → ℕ → List ℕ
item n end = decimal n ++ (end ∷ [])

-- "policy ", "end ", "refused "
abbrev pub policy_word : List ℕ
policy_word = 112 ∷ 111 ∷ 108 ∷ 105 ∷ 99 ∷ 121 ∷ 32 ∷ []

abbrev pub end_word : List ℕ
end_word = 101 ∷ 110 ∷ 100 ∷ 32 ∷ []

abbrev pub refused_word : List ℕ
refused_word = 114 ∷ 101 ∷ 102 ∷ 117 ∷ 115 ∷ 101 ∷ 100 ∷ 32 ∷ []

-- "full" or "empty", and a newline
abbrev pub start : Bool → List ℕ
start isFull = cond isFull (102 ∷ 117 ∷ 108 ∷ 108 ∷ 10 ∷ []) (101 ∷ 109 ∷ 112 ∷ 116 ∷ 121 ∷ 10 ∷ [])

-- "granted " or "forbidden "
abbrev pub verdict : Bool → List ℕ
verdict isGranted =
    cond isGranted (103 ∷ 114 ∷ 97 ∷ 110 ∷ 116 ∷ 101 ∷ 100 ∷ 32 ∷ []) (102 ∷ 111 ∷ 114 ∷ 98 ∷ 105 ∷ 100 ∷ 100 ∷ 101 ∷ 110 ∷ 32 ∷ [])

-- "First line: S, N, start"
unfoldable pub policy_line : Policy → List ℕ
policy_line p = policy_word ++ item (signers p) space ++ item (targets p) space ++ start (full p)

-- "word index, target, verdict, frames looked at": the last two are the answer byte's kind, of which 1 is granted, and count
unfoldable pub check_line : ℕ → ℕ → ℕ → List ℕ
check_line i t answer = item i space ++ item t space ++ verdict (eqb (answer / 64) 1) ++ item (answer % 64) newline

unfoldable pub end_line : ℕ → List ℕ
end_line words = end_word ++ item words newline

unfoldable pub refused_line : ℕ → ℕ → List ℕ
refused_line number i = refused_word ++ item number space ++ item i newline

-- "Last: words run, or `refused` with number and word index"
abbrev pub last_line : ℕ → ℕ → List ℕ
last_line number figure = cond (eqb number 0) (end_line figure) (refused_line number figure)

-- "one line for each check": an operation's line, by the index of its word and its answer byte; nothing for another operation
abbrev pub op_line : Operation → ℕ → ℕ → List ℕ
op_line (Call s) i answer = []
op_line Return i answer = []
op_line (Enable t) i answer = []
op_line (Disable t) i answer = []
op_line (Revert t) i answer = []
op_line (Check t) i answer = check_line i t answer

-- a decoded word's line. A word that is refused has no line of its own: it ends the run, and the last line says so
abbrev pub decoded_line : Decoded → ℕ → List ℕ
decoded_line (Word x) answer = op_line x.op x.index answer
decoded_line (Refused n) answer = []

-- the line of the word at an index of a trace
unfoldable pub word_line : Policy → List ℕ → List ℕ → ℕ → List ℕ
word_line p trace answers i = decoded_line (reading p (word_at trace i) i) (get_or answers i 0)

-- the lines at n places from place k on, one after another
unfoldable pub joined : (ℕ → List ℕ) → ℕ → ℕ → List ℕ
joined line k zero = []
joined line k (suc n) = line k ++ joined line (suc k) n

-- the listing of a run that gave these answers: the number that refused it, or 0, and how many words were run
unfoldable pub listed : Policy → List ℕ → List ℕ → ℕ → ℕ → List ℕ
listed p trace answers number figure = policy_line p ++ joined (word_line p trace answers) 0 figure ++ last_line number figure

abbrev pub listed_run : Policy → List ℕ → Account → List ℕ
listed_run p trace a = listed p trace a.written a.number a.figure

-- a policy's bytes and a trace's, run from a fresh start by the walk, which alone counts frames;
-- "a refused policy prints only `refused`, its number and 0"
unfoldable pub read : List ℕ → List ℕ → List ℕ
read policy trace =
    cond (eqb (read_number policy) 0)
    (listed_run (value_read policy) trace (run true (value_read policy) trace (length trace / 2)))
    (refused_line (read_number policy) 0)

-- what the program prints for its input: "an input too long (tested first)", then "a policy followed by a trace, cutting by the header"
unfoldable pub listing : List ℕ → List ℕ
listing input =
    cond (ltb 65536 (length input)) (refused_line left_over 0) (read (take (cut_at input) input) (drop (cut_at input) input))
