-- Trimming: a text without the White_Space characters at its end. Assumes nothing.
use Rattle.std.specs.Prelude.{ℕ, zero, suc, pred, ◌-◌, Bool, true, false, cond, ◌&&◌, List, [], ◌∷◌, leb, ltb, eqb, length, drop, get_or}
use Rattle.encoding.specs.Utf8.{char_len}
use Rattle.white.specs.White.{is_white}
use Rattle.text.specs.Chars.{code}

-- the text begins with a White_Space character; a byte that begins no sequence is none
abbrev pub white_at : List ℕ → Bool
white_at s = ltb 0 (char_len s) && is_white (code (char_len s) s)

-- a byte b in front of a trimmed text: where it belongs to White_Space and nothing is left behind it, it goes, too
abbrev pub trim_at : Bool → ℕ → List ℕ → List ℕ
trim_at true b [] = []
trim_at false b [] = b ∷ []
trim_at white b (x ∷ xs) = b ∷ x ∷ xs

-- the next k bytes belong to a character that is White_Space or not
unfoldable pub trim_from : Bool → ℕ → List ℕ → List ℕ
trim_from white k [] = []
trim_from white (suc k) (b ∷ bs) = trim_at white b (trim_from white k bs)
trim_from white zero (b ∷ bs) = trim_at (white_at (b ∷ bs)) b (trim_from (white_at (b ∷ bs)) (pred (char_len (b ∷ bs))) bs)

abbrev pub trim : List ℕ → List ℕ
trim s = trim_from false 0 s

-- ---- the end of a text, as the walk back meets it

-- the last n bytes are one White_Space character
unfoldable pub ends_white : ℕ → List ℕ → Bool
ends_white n s = eqb (char_len (drop (length s - n) s)) n && is_white (code n (drop (length s - n) s))

-- the last three bytes are U+3000, the blank of a Japanese keyboard
abbrev pub ends3000 : List ℕ → Bool
ends3000 s = leb 3 (length s) && (eqb (get_or s (length s - 1) 0) 0x80 && (eqb (get_or s (length s - 2) 0) 0x80 && eqb (get_or s (length s - 3) 0) 0xE3))

-- how many bytes the White_Space character has that ends the text, 0 where none does: White_Space ends at U+3000, of three bytes
unfoldable pub white_end : List ℕ → ℕ
white_end s = cond (ends_white 1 s) 1 (cond (ends_white 3 s) 3 (cond (ends_white 2 s) 2 0))
