-- The engine's state in bytes: eight words, then 256 comments in queue order, four words each. Assumes nothing.
use Rattle.std.specs.Prelude.{ℕ, zero, suc, ◌+◌, ◌*◌, min, Bool, true, ◌&&◌, List, ◌∷◌, length, eqb, leb, ltb}
use Rattle.tree.specs.Records.{span_of}
use Rattle.meaning.specs.State.{Comment, State}
use Rattle.lent.specs.View.{tab, flag_of, slots_of}
use Rattle.wire.specs.Words.{word_at, in_bytes}

-- ---- the shape that a lent state must have

-- a flag's word is 0 or 1
abbrev pub is_flag : List ℕ → ℕ → Bool
is_flag st i = ltb (word_at st i) 2

-- the first word of comment k
abbrev pub comment_word : ℕ → ℕ
comment_word k = 8 + k * 4

-- of n comments from number k on, the word that says whether it is a line comment
unfoldable pub line_flags : List ℕ → ℕ → ℕ → Bool
line_flags st k zero = true
line_flags st k (suc n) = is_flag st (comment_word k + 3) && line_flags st (suc k) n

-- use_lines, ws, finished
abbrev pub flags_good : List ℕ → Bool
flags_good st = is_flag st 2 && (is_flag st 3 && is_flag st 5)

-- 4,128 bytes, beside a buffer whose length fits a word, with good flags; word 7 and unused comments are not looked at
unfoldable pub shaped : List ℕ → ℕ → Bool
shaped st cap = eqb (length st) 4128 && (leb cap 0xFFFFFFFF && (flags_good st && line_flags st 0 (min (word_at st 6) 256)))

-- ---- read

abbrev pub flag_at : List ℕ → ℕ → Bool
flag_at st i = eqb (word_at st i) 1

abbrev pub comment_at : List ℕ → ℕ → Comment
comment_at st k = record {
  span = span_of (word_at st (comment_word k)) (word_at st (comment_word k + 1));
  before = word_at st (comment_word k + 2);
  line = flag_at st (comment_word k + 3);
}

unfoldable pub state_in : List ℕ → State
state_in st = record {
  len = word_at st 0;
  queue = tab (comment_at st) 0 (word_at st 6);
  lines = word_at st 1;
  use_lines = flag_at st 2;
  ws = flag_at st 3;
  indent = word_at st 4;
  finished = flag_at st 5;
}

-- ---- written: unused comments are zero

abbrev pub state_words : State → List ℕ
state_words s =
    s.len
    ∷ s.lines
    ∷ flag_of s.use_lines
    ∷ flag_of s.ws
    ∷ s.indent
    ∷ flag_of s.finished
    ∷ length s.queue
    ∷ 0
    ∷ slots_of s.queue

unfoldable pub bytes_of : State → List ℕ
bytes_of s = in_bytes (state_words s)
