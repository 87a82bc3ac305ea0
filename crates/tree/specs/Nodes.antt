-- Records as a cursor meets them, in any table. Assumes nothing.
use Rattle.std.specs.Prelude.{◌≡◌, ℕ, ◌≤◌, ◌<◌, false, List, ◌∷◌, length, Some}
use Rattle.tree.specs.declared.record.Record.{Record}
use Rattle.tree.specs.declared.cursor.Cursor.{Cursor}
use Rattle.tree.specs.Table.{node_of}
use Rattle.tree.specs.Cursor.{shown, passes, kept, taken_as}

-- the cursor behind record k and all below it
abbrev pub rest_of : List Record → Cursor → ℕ → Cursor
rest_of rs c k = (taken_as rs c (Some (record { 0 = k }))).rest

-- the cursor stands at record k and shows it first, then what the cursor behind it shows
pub record FirstAt (rs : List Record) (c : Cursor) (k : ℕ) : Type 0 where
  pub place : c.at.0 ≡ k
  pub before : k < c.end.0
  pub here : k < length rs
  pub list : shown rs c ≡ k ∷ shown rs (rest_of rs c k)

-- record k is the first that is no white space and no comment, and behind it comes what the cursor behind it keeps
pub record PeekAt (rs : List Record) (c : Cursor) (k : ℕ) : Type 0 where
  pub from : c.at.0 ≤ k
  pub before : k < c.end.0
  pub here : k < length rs
  pub stays : passes (node_of rs k) ≡ false
  pub list : kept rs (shown rs c) ≡ k ∷ kept rs (shown rs (rest_of rs c k))
