-- Runs: the rule that a node's kind names. Assumes nothing.
use Rattle.std.specs.Prelude.{ℕ, false, cond, length, eqb, leb, ltb}
use Rattle.tree.specs.declared.record.RecordNo.{RecordNo}
use Rattle.tree.specs.Table.{node_of}
use Rattle.kinds.specs.declared.Kind.{Kind}
use Rattle.kinds.specs.Facts.{byte_of}
use Rattle.meaning.specs.declared.answer.Refusal.TheVariants.{NoRule, NoNode}
use Rattle.meaning.specs.Plan.{Plan, refuse}
use Rattle.meaning.specs.State.{Script}
use Rattle.walk.specs.Flow.{parse}
use Rattle.paths.specs.Path.{path_generics}
use Rattle.patterns.specs.Pattern.{pat, pat_array, pat_tuple, pat_object, fn_args}
use Rattle.bodies.specs.Body.{tuple_body, struct_body, variant}
use Rattle.uses.specs.Use.{use_path, use_group}
use Rattle.parts.specs.Sorts.{is_stmt, is_decl}
use Rattle.exprs.specs.Rule.{Rule}
use Rattle.exprs.specs.List.{exprs}
use Rattle.exprs.specs.Block.{stmt, stmts}
use Rattle.exprs.specs.Lay.{lay}

-- ---- by the byte of the node's kind; a rule that follows the tree down is given 64 levels, and no opened tree has more

-- the statements of a body that is no block's: a whole script
unfoldable pub content : Script → RecordNo → Plan
content x = parse x.tree (stmts x (lay x 63))

unfoldable pub arguments : Script → RecordNo → Plan
arguments x = parse x.tree (exprs x (lay x 63) (byte_of Kind.OpenParenthesis) (byte_of Kind.CloseParenthesis))

-- a node in the place of an expression; a leaf has no rule of its own
unfoldable pub by_expr : Script → ℕ → RecordNo → Plan
by_expr x kind k = cond (ltb kind 0x80) (refuse (NoRule k)) (lay x 64 Rule.Inner k)

-- a part of an item, of a path or of a pattern
unfoldable pub by_part : Script → ℕ → RecordNo → Plan
by_part x kind k =
    let rs = x.tree in
    cond (eqb kind (byte_of Kind.ItemUsePath)) (parse rs (use_path rs 64) k)
    (cond (eqb kind (byte_of Kind.ItemUseGroup)) (use_group rs 64 k)
    (cond (eqb kind (byte_of Kind.Variant)) (parse rs (variant rs) k)
    (cond (eqb kind (byte_of Kind.StructBody)) (parse rs (struct_body rs) k)
    (cond (eqb kind (byte_of Kind.TupleBody)) (parse rs (tuple_body rs) k)
    (cond (eqb kind (byte_of Kind.FnArgs)) (parse rs (fn_args rs) k)
    (cond (eqb kind (byte_of Kind.PathGenerics)) (path_generics rs 64 k)
    (cond (eqb kind (byte_of Kind.Pat)) (pat rs 64 k)
    (cond (eqb kind (byte_of Kind.PatArray)) (parse rs (pat_array rs (pat rs 64)) k)
    (cond (eqb kind (byte_of Kind.PatTuple)) (parse rs (pat_tuple rs (pat rs 64)) k)
    (cond (eqb kind (byte_of Kind.PatObject)) (parse rs (pat_object rs (pat rs 64)) k)
    (by_expr x kind k)))))))))))

unfoldable pub rule_of : Script → ℕ → RecordNo → Plan
rule_of x kind k =
    cond (is_stmt kind) (stmt (lay x 64) kind k)
    (cond (is_decl kind) (lay x 64 Rule.Decl k)
    (cond (eqb kind (byte_of Kind.BlockBody)) (content x k)
    (cond (eqb kind (byte_of Kind.ExprCall)) (arguments x k)
    (cond (eqb kind (byte_of Kind.Condition)) (lay x 64 (Rule.Let false) k)
    (by_part x kind k)))))

unfoldable pub rule : Script → RecordNo → Plan
rule x k = rule_of x (node_of x.tree k.0).kind k

-- ---- a run

-- 11, then the rule
unfoldable pub layout : Script → RecordNo → Plan
layout x k = cond (leb (length x.tree) k.0) (refuse (NoNode k)) (rule x k)
