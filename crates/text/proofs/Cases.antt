-- Worked cases of the definitions, computed by antt. Assumes nothing.
use mathlib.Core.Path.{◌≡◌, refl}
use mathlib.Core.List.{[], ◌∷◌, map}
use Rattle.std.specs.Prelude.{Err}
use Rattle.text.specs.declared.source.Unfit.TheVariants.{Ill}
use Rattle.white.specs.White.{mem, whites, is_white}
use Rattle.encoding.specs.Utf8.{table, all_in, len_by, char_len, formed_from}
use Rattle.text.specs.Source.{Good, checked}
use Rattle.text.specs.Chars.{code}
use Rattle.text.specs.Trim.{trim_from, trim}
use Rattle.text.specs.Delete.{delete_from, delete}

-- A C0 80; € ED A0 80; A and a cut €; U+1F600; F4 90 80 80
places : map checked (
    (0x41 ∷ 0xC0 ∷ 0x80 ∷ [])
    ∷ (0xE2 ∷ 0x82 ∷ 0xAC ∷ 0xED ∷ 0xA0 ∷ 0x80 ∷ [])
    ∷ (0x41 ∷ 0xE2 ∷ 0x82 ∷ [])
    ∷ (0xF0 ∷ 0x9F ∷ 0x98 ∷ 0x80 ∷ [])
    ∷ (0xF4 ∷ 0x90 ∷ 0x80 ∷ 0x80 ∷ [])
    ∷ []) ≡ Err (Ill (record { 0 = 1 })) ∷ Err (Ill (record { 0 = 3 })) ∷ Err (Ill (record { 0 = 1 })) ∷ Good ∷ Err (Ill (record { 0 = 0 })) ∷ []
unfolding table all_in len_by char_len formed_from checked
places = refl

-- "// n", a space, a newline, U+3000, a tab, U+0085, U+00A0, a carriage return: all of it goes
trims : trim (0x2F ∷ 0x2F ∷ 0x6E ∷ 0x20 ∷ 0x0A ∷ 0xE3 ∷ 0x80 ∷ 0x80 ∷ 0x09 ∷ 0xC2 ∷ 0x85 ∷ 0xC2 ∷ 0xA0 ∷ 0x0D ∷ []) ≡ 0x2F ∷ 0x2F ∷ 0x6E ∷ []
unfolding table all_in len_by char_len code is_white mem whites trim_from
trims = refl

-- ą and à end in bytes that are blanks by themselves and stay; so does a blank with something behind it
stays : map trim (
    (0xC4 ∷ 0x85 ∷ [])
    ∷ (0xC3 ∷ 0xA0 ∷ 0x20 ∷ [])
    ∷ (0x2F ∷ 0x2F ∷ 0x0A ∷ 0xE3 ∷ 0x80 ∷ 0x80 ∷ 0x6E ∷ [])
    ∷ (0x2F ∷ 0x2F ∷ 0xE3 ∷ 0x80 ∷ 0x80 ∷ [])
    ∷ []) ≡ (0xC4 ∷ 0x85 ∷ []) ∷ (0xC3 ∷ 0xA0 ∷ []) ∷ (0x2F ∷ 0x2F ∷ 0x0A ∷ 0xE3 ∷ 0x80 ∷ 0x80 ∷ 0x6E ∷ []) ∷ (0x2F ∷ 0x2F ∷ []) ∷ []
unfolding table all_in len_by char_len code is_white mem whites trim_from
stays = refl

-- a, U+3000, é, U+0085, b: the two of White_Space go, all bytes of each
deletes : delete (0x61 ∷ 0xE3 ∷ 0x80 ∷ 0x80 ∷ 0xC3 ∷ 0xA9 ∷ 0xC2 ∷ 0x85 ∷ 0x62 ∷ []) ≡ 0x61 ∷ 0xC3 ∷ 0xA9 ∷ 0x62 ∷ []
unfolding table all_in len_by char_len code is_white mem whites delete_from
deletes = refl
