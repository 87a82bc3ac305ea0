-- Worked cases of the definitions, computed by antt. Assumes nothing.
use Rattle.std.specs.Prelude.{Some, None}
use mathlib.Core.Path.{◌≡◌, refl}
use Prim.Native.Nat.{ℕ}
use mathlib.Core.List.{List, [], ◌∷◌, ◌++◌}
use Rattle.tree.specs.Records.{four, body_of, record_of, records_from, records}
use Rattle.tree.specs.Table.{node_of}
use Rattle.tree.specs.Cursor.{siblings, shown, passes, kept, behind, cursor_of, children_of, peek_of, take_of}

word : ℕ → List ℕ
word n = n ∷ 0 ∷ 0 ∷ 0 ∷ []

leaf : ℕ → ℕ → ℕ → List ℕ
leaf kind a e = kind ∷ (word a ++ word e)

node : ℕ → ℕ → ℕ → List ℕ
node a e n = 0x80 ∷ (word a ++ (word e ++ word n))

-- a node with white space, a node of one leaf, a comment and a leaf below it: its children are 1, 2, 4, 5, of which 2 and 5 are kept
sample : List ℕ
sample = node 0 0 5 ++ leaf 0 0 0 ++ node 0 0 1 ++ leaf 9 0 0 ++ leaf 1 0 0 ++ leaf 9 0 0

children : shown (records sample) (children_of (records sample) 0) ≡ 1 ∷ 2 ∷ 4 ∷ 5 ∷ []
unfolding sample word leaf node four body_of record_of records_from siblings shown behind node_of
children = refl

takes : take_of (records sample) (cursor_of 1 6) ≡ record { found = Some (record { 0 = 2 }); rest = cursor_of 4 6 }
unfolding sample word leaf node four body_of record_of records_from siblings shown passes kept behind node_of
takes = refl

ends : peek_of (records sample) (cursor_of 6 6) ≡ None
unfolding sample word leaf node four body_of record_of records_from siblings shown passes kept behind node_of
ends = refl
