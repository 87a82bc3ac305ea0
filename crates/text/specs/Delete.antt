-- White_Space deleted from a text, character by character. Assumes nothing.
use Rattle.std.specs.Prelude.{ℕ, zero, suc, pred, Bool, true, false, not, List, [], ◌∷◌}
use Rattle.encoding.specs.Utf8.{char_len}
use Rattle.text.specs.Chars.{code}
use Rattle.white.specs.White.{is_white}

abbrev pub onto : Bool → ℕ → List ℕ → List ℕ
onto true b bs = b ∷ bs
onto false b bs = bs

-- the text begins with a character outside White_Space
abbrev pub dark_at : List ℕ → Bool
dark_at s = not (is_white (code (char_len s) s))

-- the next k bytes belong to a character that is kept or not
unfoldable pub delete_from : Bool → ℕ → List ℕ → List ℕ
delete_from keep k [] = []
delete_from keep (suc k) (b ∷ bs) = onto keep b (delete_from keep k bs)
delete_from keep zero (b ∷ bs) = onto (dark_at (b ∷ bs)) b (delete_from (dark_at (b ∷ bs)) (pred (char_len (b ∷ bs))) bs)

abbrev pub delete : List ℕ → List ℕ
delete s = delete_from true 0 s

-- ---- what the engine writes between texts: bytes that are White_Space by themselves

pub data Blank : ℕ → Type 0 where
  is_space : Blank 0x20
  is_newline : Blank 0x0A

pub data Blanks : List ℕ → Type 0 where
  no_blank : Blanks []
  a_blank : {b : ℕ} {bs : List ℕ} → Blank b → Blanks bs → Blanks (b ∷ bs)
