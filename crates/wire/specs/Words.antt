-- Words of four bytes, low byte first. Assumes nothing.
use Rattle.std.specs.Prelude.{ℕ, ◌*◌, ◌/◌, ◌%◌, List, [], ◌∷◌, ◌++◌, drop}
use Rattle.tree.specs.Records.{four}

-- word i of a slice
unfoldable pub word_at : List ℕ → ℕ → ℕ
word_at bs i = four (drop (i * 4) bs)

unfoldable pub word_bytes : ℕ → List ℕ
word_bytes w = w % 0x100 ∷ w / 0x100 % 0x100 ∷ w / 0x10000 % 0x100 ∷ w / 0x1000000 % 0x100 ∷ []

-- words one behind the other
unfoldable pub in_bytes : List ℕ → List ℕ
in_bytes [] = []
in_bytes (w ∷ ws) = word_bytes w ++ in_bytes ws
