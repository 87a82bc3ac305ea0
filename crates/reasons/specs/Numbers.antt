-- The number and the place of each reason and refusal, and both as one number. Assumes nothing.
use Rattle.std.specs.Prelude.{◌≡◌, ℕ, ◌+◌, ◌*◌, ◌<◌, Option, Some, None, Ok, Err}
use Rattle.meaning.specs.Numbers.{Seen, ◌from◌, refusal_seen}
use Rattle.packing.specs.Places.{refusal_place}
use Rattle.loose.specs.declared.reason.Reason.{Reason}
use Rattle.loose.specs.declared.reason.Reason.TheVariants.{Wide, Comment, Sixth}
use Rattle.reasons.specs.Why.{Why}

-- no refusal has these numbers; 0 and 0 for a compact list
abbrev pub reason_seen : Option Reason → Seen
reason_seen (Some (Wide p)) = 101 from p.0
reason_seen (Some (Comment k)) = 102 from k.0
reason_seen (Some (Sixth k)) = 103 from k.0
reason_seen None = 0 from 0

abbrev pub why_seen : Why → Seen
why_seen (Err r) = refusal_seen r
why_seen (Ok r) = reason_seen r

-- the number times 2^32, and the place
unfoldable pub packed : Why → ℕ
packed w = (why_seen w).number * 0x100000000 + (why_seen w).place

-- ---- in the code

-- the place as a word
abbrev pub word_of : Why → ℕ
word_of (Err r) = refusal_place 0 r
word_of (Ok r) = (reason_seen r).place

pub record InOne (w : Why) (n : ℕ) : Type 0 where
  pub is : n ≡ (why_seen w).number * 0x100000000 + word_of w
  pub fits : word_of w < 0x100000000
