-- The rules of the cycle and a run's plan refuse by record numbers only, in the order of their definitions. Assumes nothing.
use Prim.Native.Nat.{ℕ, zero, suc}
use mathlib.Core.Bool.{Bool, true, false, cond}
use lib.Dec.{eqb}
use Rattle.tree.specs.declared.record.RecordNo.{RecordNo}
use Rattle.tree.specs.Cursor.{head_of, children_of}
use Rattle.kinds.specs.declared.Kind.{Kind}
use Rattle.kinds.specs.Facts.{byte_of}
use Rattle.meaning.specs.Plan.{Plan}
use Rattle.meaning.specs.State.{Script}
use Rattle.steps.specs.declared.remaining.Mark.TheVariants.{CloseBrace}
use Rattle.walk.specs.Stream.{Stream, next_is, no}
use Rattle.walk.specs.Flow.{Flow, ◌▸◌, plain, expect, is}
use Rattle.steps.specs.Remaining.{Remaining}
use Rattle.paths.specs.Path.{path_generics, generics_rule}
use Rattle.uses.specs.Use.{use_group}
use Rattle.loose.specs.Reason.{reason, is_loose}
use Rattle.loose.specs.Chain.{chain_from}
use Rattle.gaps.specs.Arms.{is_block_arm}
use Rattle.gaps.specs.Statements.{is_spread}
use Rattle.gaps.specs.Blocks.{asks_block, before_block, no_block}
use Rattle.parts.specs.Sorts.{is_stmt, is_decl}
use Rattle.exprs.specs.Rule.{Rule, Below}
use Rattle.exprs.specs.Operand.{node_kind, assign, binary, range_of, range, group, lead_of, lead}
use Rattle.exprs.specs.List.{loose_entry, loose, compact, exprs, tuple, pair, rows, keyed, row, behind_name, object}
use Rattle.exprs.specs.Control.{condition, lets, tail, ifs, elses, else_ifs, behind_block, loop_of, loops}
use Rattle.exprs.specs.Arms.{with_comma, guard, to, arm, select_arm, arms, select, match_arm, cases, matches}
use Rattle.exprs.specs.Chain.{Linked, index, link, begin, next, ended, links, chain}
use Rattle.exprs.specs.Block.{Said, stmt, statement, kind_in, first, another, last, stmts, body, block}
use Rattle.exprs.specs.Item.{behind_head, item_rule, decl, item}
use Rattle.exprs.specs.Lay.{expr, flow, inner, below, lay}
use Rattle.rules.specs.Rules.{content, arguments, by_expr, by_part, rule_of, rule, layout}
use Rattle.rules.specs.Whole.{is_script, whole}
use Rattle.rules.proofs.Tame.{Tame}
use Rattle.rules.proofs.TameSteps.{tame, IsTame, Each, idle, made, wrong, deep, ◌and◌, cond_tame, Tamed, ◌▹◌, plain_tame, expected, pumped, parsed, looped, items_tame, put_tame, cond_tamed}
use Rattle.rules.proofs.TameRules.{path_tame, pat_tame, pat_array_lem, pat_tuple_lem, pat_object_lem, object_name_lem, tupled_tame, object_end_lem, modifiers_tame, struct_body_lem, tuple_body_lem, variant_tame, fn_args_lem, group_rule_lem, use_path_lem}
use Rattle.rules.proofs.TameParts as parts

-- what leads to no expression
ruleset gaps = (parts.arm_comma_lem, parts.open_match_lem, parts.close_select_lem, parts.end_entry_lem, parts.close_keys_lem, parts.semicolon_tame, parts.group_end_lem, parts.open_select_lem, parts.open_arm_lem, parts.close_arms_lem, parts.open_lines_lem, parts.close_lines_lem, parts.key_line_lem, parts.next_key_lem, parts.gap_tame, parts.before_block_lem, parts.no_block_lem, parts.before_value_lem, parts.no_value_lem)

ruleset heads = (parts.expect_expr_lem, parts.expect_guard_lem, parts.word_tame, parts.between_tame, parts.before_expr_lem, parts.lead_head_lem, parts.arm_pat_lem, parts.for_in_lem, parts.item_head_lem, parts.let_head_lem, parts.lone_tame, parts.no_item_lem)

either_way : (t : Bool) {f g : Stream → Flow Stream} (s : Stream) → Tamed f → Tamed g → IsTame (cond t (f s) (g s)).plan
either_way true s p q = p.at s
either_way false s p q = q.at s

module _ (x : Script) {lay : Below} (a : (r : Rule) → Each (lay r)) where
  -- ---- operands

  assign_tame : Tamed (assign x lay)
  unfolding assign
  assign_tame = search (tame, heads, a) depth 12 fits 2000

  binary_tame : Tamed (binary x lay)
  unfolding binary
  binary_tame = search (tame, heads, a) depth 12 fits 2000

  range_of_lem : (kind : ℕ) → Tamed (range_of x lay kind)
  unfolding range_of
  range_of_lem kind = search (tame, a) depth 12 fits 2000

  range_tame : Tamed (range x lay)
  unfolding range
  range_tame = record { at = λ s. (range_of_lem (node_kind x lay s)).at s }

  group_tame : (empty : Bool) → Tamed (group x lay empty)
  unfolding group
  group_tame empty = search (tame, gaps, a) depth 12 fits 2000

  lead_of_lem : (kind : ℕ) → Tamed (lead_of x lay kind)
  unfolding lead_of
  lead_of_lem kind = search (tame, gaps, heads, a) depth 12 fits 2000

  lead_tame : Tamed (lead x lay)
  unfolding lead
  lead_tame = record { at = λ s. (lead_of_lem (node_kind x lay s)).at s }

  -- ---- lists

  loose_tame : Tamed (loose x lay)
  unfolding loose loose_entry
  loose_tame = search (tame, gaps, a) depth 20 fits 2000

  compact_tame : Tamed (compact x lay)
  unfolding compact
  compact_tame = search (tame, a) depth 12 fits 2000

  exprs_tame : (opening closing : ℕ) → Tamed (exprs x lay opening closing)
  unfolding exprs
  exprs_tame opening closing = record {
    at = λ s. (expected (λ k. made) x.tree opening ▹ cond_tamed (is_loose (reason x false s.node (children_of x.tree s.node.0).at.0)) loose_tame compact_tame
        ▹ expected (λ k. made) x.tree closing).at s;
  }

  tuple_tame : Tamed (tuple x lay)
  unfolding tuple
  tuple_tame = search (tame, tupled_tame, a) depth 12 fits 2000

  pair_tame : Tamed (pair x lay)
  unfolding pair
  pair_tame = search (tame, a) depth 12 fits 2000

  rows_tame : Tamed (rows x lay)
  unfolding rows
  rows_tame = search (tame, gaps, pair_tame) depth 20 fits 2000

  keyed_tame : (comma : Remaining) → Tamed (keyed x lay comma)
  unfolding keyed
  keyed_tame comma = search (tame, gaps, pair_tame) depth 12 fits 2000

  row_tame : Tamed (row x lay)
  unfolding row
  row_tame = items_tame x.tree keyed_tame (λ c. idle) (is x.tree Kind.ObjectKey) ▹ object_end_lem ▹ put_tame x.tree CloseBrace

  object_tame : Tamed (object x lay)
  unfolding object
  object_tame = record {
    at = λ s. (object_name_lem x.tree ▹ expected (λ k. made) x.tree (byte_of Kind.OpenBrace) ▹ cond_tamed (is_loose (reason x true s.node (behind_name x.tree s.left))) rows_tame row_tame).at s;
  }

  -- ---- control flow

  condition_tame : (kind : ℕ) → Tamed (condition x lay kind)
  unfolding condition
  condition_tame kind = search (tame, heads, a) depth 12 fits 2000

  lets_tame : (local : Bool) → Tamed (lets x lay local)
  unfolding lets
  lets_tame local = search (tame, heads, a) depth 12 fits 2000

  ifs_tame : Tamed (ifs x lay)
  unfolding ifs tail
  ifs_tame = search (tame, condition_tame, a) depth 12 fits 2000

  behind_block_lem : Each (behind_block x lay)
  unfolding behind_block elses else_ifs
  behind_block_lem k = search (tame, heads, condition_tame, a) depth 20 fits 2000

  loop_of_lem : (kind : ℕ) → Tamed (loop_of x lay kind)
  unfolding loop_of
  loop_of_lem kind = search (tame, heads, condition_tame, a) depth 12 fits 2000

  loops_tame : Tamed (loops x lay)
  unfolding loops
  loops_tame = record { at = λ s. (loop_of_lem (node_kind x lay s)).at s }

  -- ---- arms

  with_comma_lem : {rule : RecordNo → Plan} → Each rule → Tamed (with_comma x lay rule)
  unfolding with_comma
  with_comma_lem b = record { at = λ s. (pumped b ▹ parts.arm_comma_lem x.tree (next_is (λ (k : ℕ). is_block_arm x.tree (no k)) s)).at s }

  guard_tame : (kind : ℕ) → Tamed (guard x lay kind)
  unfolding guard
  guard_tame kind = search (tame, heads, a) depth 12 fits 2000

  arm_tame : (inMatch : Bool) → Tamed (arm x lay inMatch)
  unfolding arm to
  arm_tame inMatch = search (tame, heads, guard_tame, a) depth 12 fits 2000

  select_tame : Tamed (select x lay)
  unfolding select arms select_arm
  select_tame = search (tame, gaps, heads, with_comma_lem, a) depth 20 fits 2000

  matches_tame : Tamed (matches x lay)
  unfolding matches cases match_arm
  matches_tame = search (tame, gaps, heads, with_comma_lem, a) depth 20 fits 2000

  -- ---- chains

  link_tame : Each (link x lay)
  unfolding link index
  link_tame k = search (tame, parts.try_link, parts.await_link, parts.field_link, parts.open_index_lem, parts.close_index_lem, exprs_tame, a) depth 20 fits 2000

  links_tame : (from : ℕ) → Tamed (links x lay from)
  unfolding links begin next ended
  links_tame from =
      record { at = λ s. idle }
      ▹ looped (λ (s : Linked). s.rest) (λ (k : ℕ). true) (record { at = λ s. (pumped (λ k. parts.break_link_lem x.tree from s.count k and a Rule.Link k)).at s.rest })
      ▹ record { at = λ s. parts.chain_end_lem from s.count }

  chain_tame : Tamed (chain x lay)
  unfolding chain
  chain_tame = record { at = λ s. (pumped (a Rule.Inner) ▹ links_tame (chain_from x s.node (head_of s.left))).at s }

  -- ---- blocks

  stmt_tame : (kind : ℕ) → Each (stmt lay kind)
  unfolding stmt
  stmt_tame kind k = search (tame, a) depth 12 fits 2000

  stmts_tame : Tamed (stmts x lay)
  unfolding stmts first another last statement
  stmts_tame =
      parts.inner_attributes_lem x.tree ▹ record { at = λ s. idle }
      ▹ looped (λ (s : Said). s.rest) (λ (k : ℕ). true)
      (record { at = λ s. (pumped (λ k. parts.gap_tame s.last _ and made and stmt_tame _ k) ▹ parts.semicolon_tame x.tree (kind_in x lay s.rest.left)).at s.rest })
      ▹ record { at = λ s. idle }

  body_tame : (compact : Bool) → Tamed (body x lay compact)
  unfolding body
  body_tame compact = record { at = λ s. (plain_tame (parts.enter_tame (is_spread compact s)) ▹ stmts_tame ▹ plain_tame (parts.leave_tame (is_spread compact s))).at s }

  block_tame : (compact : Bool) → Tamed (block x lay compact)
  unfolding block
  block_tame compact = search (tame, a) depth 12 fits 2000

  -- ---- items

  block_or_none : (kind : ℕ) → Tamed (λ (s : Stream). cond (asks_block x.tree kind s) ((plain (before_block kind) ▸ expect x.tree Kind.Block (lay (Rule.Block false))) s) (plain (no_block kind) s))
  block_or_none kind = record {
    at = λ s. either_way (asks_block x.tree kind s) s (plain_tame (parts.before_block_lem kind) ▹ expected (a (Rule.Block false)) x.tree (byte_of Kind.Block))
        (plain_tame (parts.no_block_lem kind));
  }

  behind_head_lem : (kind : ℕ) → Tamed (behind_head x lay kind)
  unfolding behind_head
  behind_head_lem kind = record { at = λ s. either_way (eqb kind (byte_of Kind.ItemConst)) s (pumped (a Rule.Expr)) (block_or_none kind) }

  item_rule_lem : (kind : ℕ) → Tamed (item_rule x lay kind)
  unfolding item_rule
  item_rule_lem kind = search (tame, heads, behind_head_lem) depth 12 fits 2000

  decl_tame : Each (decl x lay)
  unfolding decl
  decl_tame k = search (tame, heads, modifiers_tame, item_rule_lem) depth 12 fits 2000

  item_tame : Tamed (item x lay)
  unfolding item
  item_tame = search (tame, parts.attributes_tame, a) depth 12 fits 2000

  -- ---- what a rule asks for

  expr_tame : Tamed (expr x lay)
  unfolding expr
  expr_tame = search (tame, heads, a) depth 12 fits 2000

  flow_tame : (kind : ℕ) → Each (flow x lay kind)
  unfolding flow
  flow_tame kind k = search (tame, range_tame, loops_tame, lead_tame, ifs_tame, select_tame, matches_tame, assign_tame, parts.lone_tame) depth 20 fits 2000

  inner_tame : Each (inner x lay)
  unfolding inner
  inner_tame k = search (tame, block_tame, chain_tame, exprs_tame, tuple_tame, object_tame, binary_tame, group_tame, flow_tame) depth 20 fits 2000

  below_tame : (r : Rule) → Each (below x lay r)
  unfolding below
  below_tame Rule.Expr k = search (tame, expr_tame)
  below_tame Rule.Inner k = inner_tame k
  below_tame Rule.Paren k = search (tame, expr_tame) depth 12 fits 2000
  below_tame (Rule.Let local) k = search (tame, lets_tame)
  below_tame Rule.Else k = behind_block_lem k
  below_tame (Rule.Arm inMatch) k = search (tame, arm_tame)
  below_tame Rule.Link k = link_tame k
  below_tame (Rule.Block compact) k = search (tame, block_tame)
  below_tame (Rule.Body compact) k = search (tame, body_tame)
  below_tame Rule.Item k = search (tame, item_tame)
  below_tame Rule.Decl k = decl_tame k

module _ (x : Script) where
  lay_tame : (d : ℕ) (r : Rule) → Each (lay x d r)
  unfolding lay
  lay_tame zero r k = deep
  lay_tame (suc d) r k = below_tame x (lay_tame d) r k

  -- ---- a run's plan

  by_part_lem : (kind : ℕ) → Each (by_part x kind)
  unfolding by_part by_expr path_generics generics_rule use_group
  by_part_lem kind k =
      search (tame, path_tame, pat_tame, pat_array_lem, pat_tuple_lem, pat_object_lem, fn_args_lem, struct_body_lem, tuple_body_lem, variant_tame, group_rule_lem, use_path_lem, lay_tame) depth 40 fits 8000

  rule_of_lem : (kind : ℕ) → Each (rule_of x kind)
  unfolding rule_of content arguments
  rule_of_lem kind k =
      let is : Kind → Bool = λ kd. eqb kind (byte_of kd) in
      cond_tame (is_stmt kind) (stmt_tame x (lay_tame 64) kind k) (cond_tame (is_decl kind) (lay_tame 64 Rule.Decl k)
      (cond_tame (is Kind.BlockBody) (parsed x.tree (stmts_tame x (lay_tame 63)) k)
      (cond_tame (is Kind.ExprCall) (parsed x.tree (exprs_tame x (lay_tame 63) (byte_of Kind.OpenParenthesis) (byte_of Kind.CloseParenthesis)) k)
      (cond_tame (is Kind.Condition) (lay_tame 64 (Rule.Let false) k) (by_part_lem kind k)))))

  layout_rule : Each (layout x)
  unfolding layout rule
  layout_rule k = search (tame, rule_of_lem)

  whole_rule : IsTame (whole x)
  unfolding whole content
  whole_rule = cond_tame (is_script x.tree) (made and parsed x.tree (stmts_tame x (lay_tame 63)) (record { 0 = 0 }) and made and made) wrong

pub layout_tame : (x : Script) (k : RecordNo) → Tame (layout x k)
layout_tame x k = (layout_rule x k).tame

pub whole_tame : (x : Script) → Tame (whole x)
whole_tame x = (whole_rule x).tame
