-- The list of kinds as a text: for each a line, two hexadecimal digits, a space and the name.
use Rattle.std.specs.Prelude.{ℕ, ◌+◌, ◌/◌, ◌%◌, Bool, true, false, List, [], ◌∷◌, ◌++◌, ltb}
use Prim.Native.Char.{code}
use Prim.Native.String.{String}
use Rattle.kinds.specs.declared.Kind.{Kind}
use Rattle.kinds.specs.Facts.{byte_of, name_of}

abbrev pub pick : Bool → ℕ → ℕ → ℕ
pick true a b = a
pick false a b = b

-- `0` to `9`, then `A` to `F`
unfoldable pub digit : ℕ → ℕ
digit n = pick (ltb n 10) (0x30 + n) (0x37 + n)

unfoldable pub codes : String → List ℕ
codes String.[] = []
codes (String.◌∷◌ c s) = code c ∷ codes s

unfoldable pub row_of : Kind → List ℕ
row_of k = digit (byte_of k / 16) ∷ digit (byte_of k % 16) ∷ 0x20 ∷ (codes (name_of k) ++ (0x0A ∷ []))

unfoldable pub rows_of : List Kind → List ℕ
rows_of [] = []
rows_of (k ∷ ks) = row_of k ++ rows_of ks
