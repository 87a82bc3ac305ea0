-- Nodes of a good tree, as a cursor meets them. Assumes nothing.
use Rattle.std.specs.Prelude.{◌≡◌, ℕ, suc, ◌+◌, ◌-◌, ◌≤◌, ◌<◌, List, length, take, drop}
use Rattle.tree.specs.declared.record.Record.{Record}
use Rattle.tree.specs.declared.cursor.Cursor.{Cursor}
use Rattle.tree.specs.Records.{start_of, end_of}
use Rattle.tree.specs.Table.{node_of}
use Rattle.tree.specs.Cursor.{behind, children_of}
use Rattle.tree.specs.Nodes.{rest_of}
use Rattle.opening.specs.Good.{GoodRecord, GoodLevel}

-- what the cursor has left is a good level between lo and hi, with d levels left, itself one of them
pub record LevelAt (src : List ℕ) (rs : List Record) (d lo hi : ℕ) (c : Cursor) : Type 0 where
  pub order : c.at.0 ≤ c.end.0
  pub inside : c.end.0 ≤ length rs
  pub level : GoodLevel src d lo hi (take (c.end.0 - c.at.0) (drop c.at.0 rs))

-- record k is good between lo and hi, all records that it counts are there, and its children are a good level with d levels left
pub record NodeAt (src : List ℕ) (rs : List Record) (d lo hi k : ℕ) : Type 0 where
  pub here : k < length rs
  pub good : GoodRecord src lo hi (node_of rs k)
  pub last : behind rs k ≡ suc k + (node_of rs k).below
  pub below : LevelAt src rs d (start_of (node_of rs k)) (end_of (node_of rs k)) (children_of rs k)

-- a cursor over a good level finds record k: a good node one level deeper, and behind it the level goes on where the node ends
pub record StepAt (src : List ℕ) (rs : List Record) (d lo hi : ℕ) (c : Cursor) (k : ℕ) : Type 0 where
  pub some : 0 < d
  pub from : c.at.0 ≤ k
  pub node : NodeAt src rs (d - 1) lo hi k
  pub rest : LevelAt src rs d (end_of (node_of rs k)) hi (rest_of rs c k)
