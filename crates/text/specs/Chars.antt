-- Characters of a text: where they start, and their code points. Assumes nothing.
use Rattle.std.specs.Prelude.{ℕ, zero, suc, pred, ◌+◌, ◌*◌, ◌%◌, Bool, true, false, cond, not, ◌&&◌, List, [], ◌∷◌, length, get_or, leb, ltb}
use Rattle.text.specs.declared.span.Span.{Span}
use Rattle.text.specs.declared.chars.Char.{Char}
use Rattle.encoding.specs.Utf8.{cont, in_range, char_len}

-- ---- boundaries

-- place p lies before a character or at the end, by decoding; the next k bytes end a character
unfoldable pub edge_from : ℕ → ℕ → List ℕ → Bool
edge_from k zero [] = true
edge_from k (suc p) [] = false
edge_from zero zero (b ∷ bs) = true
edge_from (suc k) zero (b ∷ bs) = false
edge_from (suc k) (suc p) (b ∷ bs) = edge_from k p bs
edge_from zero (suc p) (b ∷ bs) = edge_from (pred (char_len (b ∷ bs))) p bs

abbrev pub edge : ℕ → List ℕ → Bool
edge p s = edge_from 0 p s

-- the same by the byte at p alone: the end, or a byte that goes on no sequence (Laws: starts_edge, they agree in a well-formed text)
unfoldable pub starts : ℕ → List ℕ → Bool
starts zero [] = true
starts (suc p) [] = false
starts zero (b ∷ bs) = not (in_range cont b)
starts (suc p) (b ∷ bs) = starts p bs

-- start ≤ end ≤ length, both on boundaries
unfoldable pub in_source : List ℕ → Span → Bool
in_source s a = leb a.start.0 a.end.0 && (leb a.end.0 (length s) && (starts a.start.0 s && starts a.end.0 s))

-- ---- code points

-- the code point of the n bytes that begin the list
unfoldable pub code : ℕ → List ℕ → ℕ
code n s =
    cond (ltb n 2) (get_or s 0 0)
    (cond (ltb n 3) (get_or s 0 0 % 32 * 64 + get_or s 1 0 % 64)
    (cond (ltb n 4) (get_or s 0 0 % 16 * 4096 + get_or s 1 0 % 64 * 64 + get_or s 2 0 % 64)
    (get_or s 0 0 % 8 * 262144 + get_or s 1 0 % 64 * 4096 + get_or s 2 0 % 64 * 64 + get_or s 3 0 % 64)))

-- the characters, as code points; a byte that begins no sequence is one by itself
unfoldable pub chars_from : ℕ → List ℕ → List ℕ
chars_from k [] = []
chars_from (suc k) (b ∷ bs) = chars_from k bs
chars_from zero (b ∷ bs) = code (char_len (b ∷ bs)) (b ∷ bs) ∷ chars_from (pred (char_len (b ∷ bs))) bs

abbrev pub chars : List ℕ → List ℕ
chars s = chars_from 0 s

-- the first of them, and how many bytes it has
abbrev pub step_of : ℕ → ℕ
step_of zero = 1
step_of (suc n) = suc n

abbrev pub char_at : List ℕ → Char
char_at s = record { code = code (char_len s) s; len = step_of (char_len s) }
