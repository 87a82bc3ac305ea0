-- A node in the place of an expression that leads to no expression: format.rs 579 to 589, 647 to 649, 681 to 683. Assumes nothing.
use Rattle.std.specs.Prelude.{ℕ, Bool, cond, List, ltb}
use Rattle.tree.specs.declared.record.Record.{Record}
use Rattle.tree.specs.declared.record.RecordNo.{RecordNo}
use Rattle.tree.specs.Table.{node_of}
use Rattle.kinds.specs.declared.Kind.{Kind}
use Rattle.meaning.specs.declared.answer.Refusal.TheVariants.{WrongKind, NoRule}
use Rattle.meaning.specs.Plan.{Plan, refuse}
use Rattle.walk.specs.Flow.{write, pump, is, parse}
use Rattle.paths.specs.Path.{path}
use Rattle.patterns.specs.Pattern.{pat_lit}

-- one node or token, written whole: a template, a full range
unfoldable pub whole : List Record → RecordNo → Plan
whole rs = parse rs (pump write)

abbrev pub is_leaf : List Record → ℕ → Bool
is_leaf rs k = ltb (node_of rs k).kind 0x80

-- a lone token is written, a composite without a rule there is refusal 9
unfoldable pub lone : List Record → RecordNo → Plan
lone rs k =
    cond (is rs Kind.Path k.0) (path rs 64 k)
    (cond (is rs Kind.Lit k.0) (parse rs (pat_lit rs) k)
    (cond (is rs Kind.TemplateString k.0) (whole rs k)
    (cond (is rs Kind.ExprRangeFull k.0) (whole rs k)
    (cond (is_leaf rs k.0) (write k) (refuse (NoRule k))))))

-- an item's child that is no item
unfoldable pub no_item : List Record → RecordNo → Plan
no_item rs k = cond (is_leaf rs k.0) (refuse (WrongKind k)) (refuse (NoRule k))
