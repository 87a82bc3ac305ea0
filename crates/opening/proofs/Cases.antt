-- Worked cases of the definitions, computed by antt. Assumes nothing.
use mathlib.Core.Path.{◌≡◌, refl}
use Prim.Native.Nat.{ℕ, zero, suc}
use mathlib.Core.List.{List, [], ◌∷◌, ◌++◌, map}
use Rattle.encoding.specs.Utf8.{table, all_in, len_by, char_len, formed_from}
use Rattle.text.specs.Source as source
use Rattle.text.specs.Chars.{starts, in_source}
use Rattle.tree.specs.Records.{four, body_of, record_of, records_from}
use Rattle.opening.specs.Check.{keeps, along, level, checked}
use Rattle.opening.specs.Opening.{opened, number_of, place_of}

word : ℕ → List ℕ
word n = n ∷ 0 ∷ 0 ∷ 0 ∷ []

leaf : ℕ → ℕ → ℕ → List ℕ
leaf kind a e = kind ∷ (word a ++ word e)

node : ℕ → ℕ → ℕ → List ℕ
node a e n = 0x80 ∷ (word a ++ (word e ++ word n))

-- k composites, one in the other, over a record
over : ℕ → List ℕ → List ℕ
over zero r = r
over (suc k) r = node 0 0 (suc k) ++ over k r

-- what an operator sees
seen : List ℕ → List ℕ → List ℕ
seen src list = number_of (opened src list) ∷ place_of (opened src list) ∷ []

-- over "aé": an empty list; two leaves below a node; a sibling that starts early; one that ends inside é; a child past its parent's end;
-- a count past the list; a cut record; a leaf at depth 64; one at depth 65; a bad one at depth 65
trees : map (seen (0x61 ∷ 0xC3 ∷ 0xA9 ∷ [])) (
    []
    ∷ (node 0 3 2 ++ leaf 3 0 1 ++ leaf 3 1 3)
    ∷ (node 0 3 2 ++ leaf 3 0 1 ++ leaf 3 0 3)
    ∷ (leaf 3 0 1 ++ leaf 3 1 2)
    ∷ (node 0 1 1 ++ leaf 3 1 3)
    ∷ (node 0 3 1)
    ∷ (leaf 3 0 1 ++ 3 ∷ 0 ∷ [])
    ∷ over 63 (leaf 3 0 0)
    ∷ over 64 (leaf 3 0 0)
    ∷ over 64 (leaf 3 1 0)
    ∷ []) ≡
    (0 ∷ 0 ∷ []) ∷ (0 ∷ 0 ∷ []) ∷ (3 ∷ 2 ∷ []) ∷ (3 ∷ 1 ∷ []) ∷ (3 ∷ 1 ∷ []) ∷ (3 ∷ 0 ∷ []) ∷ (3 ∷ 1 ∷ []) ∷ (0 ∷ 0 ∷ []) ∷ (7 ∷ 64 ∷ []) ∷ (3 ∷ 64 ∷ []) ∷ []
unfolding word leaf node over seen table all_in len_by char_len formed_from source.checked starts in_source four body_of record_of records_from keeps along level checked opened
trees = refl

-- the source comes first: an ill-formed one over a cut tree
sources : seen (0x61 ∷ 0xC3 ∷ []) (3 ∷ []) ≡ 2 ∷ 1 ∷ []
unfolding seen table all_in len_by char_len formed_from source.checked starts in_source four body_of record_of records_from keeps along level checked opened
sources = refl
