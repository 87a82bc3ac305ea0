-- What a rule may ask for at a node that stands below its own. Assumes nothing.
use Rattle.std.specs.Prelude.{Bool, cond}
use Rattle.tree.specs.declared.record.RecordNo.{RecordNo}
use Rattle.meaning.specs.Plan.{Plan}

pub data Rule : Type 0 where
  -- an expression with all that may stand in front of it; its own node; an expression in a group
  Expr : Rule
  Inner : Rule
  Paren : Rule
  -- a `let`: a condition's, or a local's
  Let : Bool → Rule
  -- what stands behind the block of an `if`; an arm, of a match or of a select; a link of a chain
  Else : Rule
  Arm : Bool → Rule
  Link : Rule
  -- a block, compact or not, and its body; an item; the node inside it
  Block : Bool → Rule
  Body : Bool → Rule
  Item : Rule
  Decl : Rule

-- an expression is asked for, in a group or not
abbrev pub asked : Bool → Rule
asked grouped = cond grouped Rule.Paren Rule.Expr

-- what stands below is laid out
abbrev pub Below : Type 0
Below = Rule → RecordNo → Plan
