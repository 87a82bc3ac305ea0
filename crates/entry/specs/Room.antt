-- A table that a tree fits into. Assumes nothing.
use Rattle.std.specs.Prelude.{ℕ, ◌≤◌, ◌*◌, List, length}
use Rattle.tree.specs.Records.{records}

-- four words a record, for every tree that opening lets in
abbrev pub Room : List ℕ → List ℕ → Type 0
Room list words = length (records list) ≤ 8192 → length (records list) * 4 ≤ length words
