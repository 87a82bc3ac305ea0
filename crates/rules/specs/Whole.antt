-- A whole layout, as one run. Assumes nothing.
use Rattle.std.specs.Prelude.{Bool, cond, ◌&&◌, List, length, eqb, leb}
use Rattle.tree.specs.declared.record.Record.{Record}
use Rattle.tree.specs.Table.{node_of}
use Rattle.tree.specs.Cursor.{behind}
use Rattle.kinds.specs.declared.Kind.{Kind}
use Rattle.kinds.specs.Facts.{byte_of}
use Rattle.meaning.specs.declared.answer.Refusal.TheVariants.{WrongKind}
use Rattle.meaning.specs.declared.call.Call.TheVariants.{Nl, FlushPrefixComments, Finish}
use Rattle.meaning.specs.Plan.{Plan, make, refuse, ◌then◌}
use Rattle.meaning.specs.State.{Script}
use Rattle.rules.specs.Rules.{content}

-- record 0 is there, is a block body, and holds all other records
unfoldable pub is_script : List Record → Bool
is_script rs = leb 1 (length rs) && eqb (node_of rs 0).kind (byte_of Kind.BlockBody) && eqb (behind rs 0) (length rs)

-- else refusal 8 at record 0
unfoldable pub whole : Script → Plan
whole x =
    cond (is_script x.tree) (make FlushPrefixComments then content x (record { 0 = 0 }) then make (Nl 1) then make Finish)
    (refuse (WrongKind (record { 0 = 0 })))
