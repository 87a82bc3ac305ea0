-- How the bytes read as the code's own state. Assumes nothing.
use Rattle.std.specs.Prelude.{◌≡◌, ℕ, ◌<◌, min, List, ◌∷◌, get_or}
use Rattle.entry.specs.declared.state.Small.{Small}
use Rattle.entry.specs.declared.state.State as code
use Rattle.lent.specs.View.{tab, flag_of}
use Rattle.wire.specs.Words.{word_at, in_bytes}
use Rattle.wire.specs.StateBytes.{flag_at}

-- the code's indent is a byte: any word above it is handed on as 255, which is over 64 as well
abbrev pub code_now : List ℕ → Small
code_now st =
    record { len = word_at st 0; count = word_at st 6; lines = word_at st 1; use_lines = flag_at st 2; ws = flag_at st 3; indent = min (word_at st 4) 255; finished = flag_at st 5 }

abbrev pub code_state : List ℕ → code.State
code_state st = record { now = code_now st; queue = tab (word_at st) 8 1024 }

abbrev pub code_words : Small → List ℕ → List ℕ
code_words n queue = n.len ∷ n.lines ∷ flag_of n.use_lines ∷ flag_of n.ws ∷ n.indent ∷ flag_of n.finished ∷ n.count ∷ 0 ∷ queue

-- the bytes are those of the words, and each of these fits a word, so that nothing is cut
pub record Wrote (words bytes : List ℕ) : Type 0 where
  pub bytes_are : bytes ≡ in_bytes words
  pub fit : (i : ℕ) → get_or words i 0 < 0x100000000
