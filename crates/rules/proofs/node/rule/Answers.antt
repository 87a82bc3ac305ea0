-- `rules::node::rule` meets its contract. Assumes nothing.
use Rattle.rules.proofs.RuleLaws.{rule_kind}
use Rattle.rules.specs.Rules.{rule_of}
use Rattle.steps.proofs.Rules.{byte_of, facts_of, if_not, if_so, ne_eqb}
use Rattle.rules.proofs.node.rule.Goals as goal

pub returns-then-is_stmt : goal.returns-then-is_stmt
unfolding rule_of
returns-then-is_stmt c = rule_kind _ _ c.kind_at-kind.ensures (if_so _ _ c.is_stmt.ensures c.if-is_stmt.true c.stmt.ensures)

pub returns-then-is_decl : goal.returns-then-is_decl
unfolding rule_of
returns-then-is_decl c = rule_kind _ _ c.kind_at-kind.ensures (if_not _ _ c.is_stmt.ensures c.if-is_stmt.false (if_so _ _ c.is_decl.ensures c.if-is_decl.true c.decl.ensures))

pub returns-in-128 : goal.returns-in-128
unfolding rule_of byte_of facts_of
returns-in-128 c = rule_kind _ _ c.kind_at-kind.ensures (if_not _ _ c.is_stmt.ensures c.if-is_stmt.false (if_not _ _ c.is_decl.ensures c.if-is_decl.false (rw c.in-128.is c.content.ensures)))

pub returns-in-230 : goal.returns-in-230
unfolding rule_of byte_of facts_of
returns-in-230 c = rule_kind _ _ c.kind_at-kind.ensures (if_not _ _ c.is_stmt.ensures c.if-is_stmt.false (if_not _ _ c.is_decl.ensures c.if-is_decl.false (rw c.in-230.is c.arguments.ensures)))

pub returns-in-206 : goal.returns-in-206
unfolding rule_of byte_of facts_of
returns-in-206 c = rule_kind _ _ c.kind_at-kind.ensures (if_not _ _ c.is_stmt.ensures c.if-is_stmt.false (if_not _ _ c.is_decl.ensures c.if-is_decl.false (rw c.in-206.is c.let_.ensures)))

pub returns-in_default : goal.returns-in_default
unfolding rule_of byte_of facts_of
returns-in_default c = let n = c.in_default.in_default-own.rest in rule_kind _ _ c.kind_at-kind.ensures (if_not _ _ c.is_stmt.ensures c.if-is_stmt.false (if_not _ _ c.is_decl.ensures c.if-is_decl.false (rw (ne_eqb _ _ n.0.0.1, ne_eqb _ _ n.0.1, ne_eqb _ _ n.1) c.by_part.ensures)))
