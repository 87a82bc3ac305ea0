-- How many characters of a text are outside White_Space, and where they stand. Assumes nothing.
use Rattle.std.specs.Prelude.{ℕ, zero, suc, pred, ◌+◌, min, Bool, cond, List, [], ◌∷◌, eqb}
use Rattle.encoding.specs.Utf8.{char_len}
use Rattle.white.specs.White.{is_white}
use Rattle.text.specs.declared.span.BytePos.{BytePos}
use Rattle.text.specs.declared.span.Span.{Span}
use Rattle.text.specs.Span.{text_of}
use Rattle.text.specs.Chars.{code, chars}

-- how many code points are outside White_Space
unfoldable pub dark : List ℕ → ℕ
dark [] = 0
dark (c ∷ cs) = cond (is_white c) (dark cs) (suc (dark cs))

-- characters of a text outside White_Space, counted up to one above the limit
unfoldable pub counted : ℕ → List ℕ → ℕ
counted limit s = min (suc limit) (dark (chars s))

-- the width question that the layout rules ask: how many characters of the span are outside White_Space, up to one above the limit
unfoldable pub width_of : List ℕ → Span → ℕ → ℕ
width_of src span limit = counted limit (text_of src span)

-- more than the limit: the count is limit plus one
abbrev pub is_wide : List ℕ → Span → ℕ → Bool
is_wide src span limit = eqb (width_of src span limit) (suc limit)

-- ---- the place of a counted character

-- how many bytes stand before the character that has n counted ones before it and counts itself, all of them where there is none; the next k bytes
-- end a character
unfoldable pub place_from : ℕ → ℕ → List ℕ → ℕ
place_from k n [] = 0
place_from (suc k) n (b ∷ bs) = suc (place_from k n bs)
place_from zero zero (b ∷ bs) = cond (is_white (code (char_len (b ∷ bs)) (b ∷ bs))) (suc (place_from (pred (char_len (b ∷ bs))) zero bs)) 0
place_from zero (suc n) (b ∷ bs) =
    suc (place_from (pred (char_len (b ∷ bs))) (cond (is_white (code (char_len (b ∷ bs)) (b ∷ bs))) (suc n) n) bs)

abbrev pub place_of : ℕ → List ℕ → ℕ
place_of n s = place_from 0 n s

-- in the source: the place of the counted character of a span that has n before it
abbrev pub place_in : List ℕ → Span → ℕ → BytePos
place_in src span n = record { 0 = span.start.0 + place_of n (text_of src span) }
