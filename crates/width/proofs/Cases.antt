-- Worked cases of the definitions, computed by antt. Assumes nothing.
use mathlib.Core.Path.{◌≡◌, refl}
use mathlib.Core.List.{List, [], ◌∷◌, map}
use Prim.Native.Nat.{ℕ}
use Rattle.white.specs.White.{mem, whites, is_white}
use Rattle.encoding.specs.Utf8.{table, all_in, len_by, char_len}
use Rattle.text.specs.Chars.{code, chars_from}
use Rattle.width.specs.Count.{dark, counted, place_from, place_of}

-- a, U+3000, b, é, a space, z: four count
sample : List ℕ
sample = 0x61 ∷ 0xE3 ∷ 0x80 ∷ 0x80 ∷ 0x62 ∷ 0xC3 ∷ 0xA9 ∷ 0x20 ∷ 0x7A ∷ []

-- up to one above the limit; 0 of an empty text, at limit 0, too
empty : counted 0 [] ≡ 0
unfolding chars_from dark counted
empty = refl

counts : map (λ (n : ℕ). counted n sample) (0 ∷ 2 ∷ 3 ∷ 4 ∷ 5 ∷ []) ≡ 1 ∷ 3 ∷ 4 ∷ 4 ∷ 4 ∷ []
unfolding table all_in len_by char_len code chars_from is_white mem whites dark counted sample
counts = refl

-- the places of a, b, é and z; the length where a fifth is asked for
places : map (λ (n : ℕ). place_of n sample) (0 ∷ 1 ∷ 2 ∷ 3 ∷ 4 ∷ []) ≡ 0 ∷ 4 ∷ 5 ∷ 8 ∷ 9 ∷ []
unfolding table all_in len_by char_len code is_white mem whites place_from sample
places = refl
