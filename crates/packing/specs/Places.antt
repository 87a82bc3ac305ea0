-- An answer as one number: which word its place is. Assumes nothing.
use Rattle.std.specs.Prelude.{◌≡◌, ℕ, ◌+◌, ◌*◌, ◌%◌, ◌<◌, cond, ltb, Ok, Err}
use Rattle.meaning.specs.declared.answer.Refusal.{Refusal}
use Rattle.meaning.specs.declared.answer.Refusal.TheVariants.{SourceLong, SourceIll, TreeBad, NoRoom, QueueFull, IndentOut, TreeDeep, WrongKind, NoRule, Finished, NoNode, BadCall}
use Rattle.meaning.specs.Answer.{Answer}
use Rattle.meaning.specs.Numbers.{seen}

-- the place of 6: an indent over 64 was lent so, and is the lent word, which may be larger than the byte that the engine was handed
abbrev pub indent_place : ℕ → ℕ → ℕ
indent_place indent n = cond (ltb 64 n) indent n

-- the place as a word, beside the lent indent: a count is the refusal's own, cut to a word; the others are words
abbrev pub refusal_place : ℕ → Refusal → ℕ
refusal_place indent SourceLong = 65536
refusal_place indent (SourceIll p) = p.0
refusal_place indent (TreeBad i) = i.0
refusal_place indent (NoRoom n) = n % 0x100000000
refusal_place indent (QueueFull i) = i.0
refusal_place indent (IndentOut n) = indent_place indent n
refusal_place indent (TreeDeep i) = i.0
refusal_place indent (WrongKind i) = i.0
refusal_place indent (NoRule i) = i.0
refusal_place indent (Finished n) = n % 0x100000000
refusal_place indent (NoNode k) = k.0
refusal_place indent (BadCall p) = p % 0x100000000

abbrev pub place_word : ℕ → Answer → ℕ
place_word indent (Ok tt) = 0
place_word indent (Err r) = refusal_place indent r

-- the number above the place, which fits the word below it
pub record Packed (indent : ℕ) (a : Answer) (n : ℕ) : Type 0 where
  pub is : n ≡ (seen a).number * 0x100000000 + place_word indent a
  pub fits : place_word indent a < 0x100000000
