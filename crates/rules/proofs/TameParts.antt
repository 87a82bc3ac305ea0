-- What leads to no expression refuses by record numbers only, in the order of the definitions: `gaps`, then `parts`. Assumes nothing.
use Prim.Native.Nat.{ℕ}
use mathlib.Core.Bool.{Bool, true, false, not, ◌||◌}
use mathlib.Core.List.{List}
use Rattle.tree.specs.declared.record.Record.{Record}
use Rattle.tree.specs.declared.record.RecordNo.{RecordNo}
use Rattle.kinds.specs.Facts.{needs_semi}
use Rattle.kinds.specs.Kinds.{kind_of}
use Rattle.meaning.specs.Plan.{Plan}
use Rattle.steps.specs.declared.remaining.Mark.TheVariants.{Comma, SemiColon}
use Rattle.walk.specs.Stream.{take_if}
use Rattle.steps.specs.Remaining.{Remaining, is_present, remaining}
use Rattle.paths.specs.Attribute.{on_lines, attributes, inner_attributes}
use Rattle.patterns.specs.Pattern.{pat_attributes, pat_lit}
use Rattle.gaps.specs.Arms.{arm_comma, open_select, open_match, open_arm, close_arms, close_select}
use Rattle.gaps.specs.Lines.{open_lines, end_entry, close_lines, key_line, close_keys, next_key}
use Rattle.gaps.specs.Statements.{gap, before_semi, semicolon, enter, leave, group_end}
use Rattle.gaps.specs.Blocks.{before_block, no_block}
use Rattle.parts.specs.Spaced.{is_expr, expect_expr, is_guard, expect_guard, word, between}
use Rattle.parts.specs.Labels.{expr_labels, before_expr}
use Rattle.parts.specs.Args.{default_or_pat, case_pat, arm_pat, barred, closure_args, args_of, let_pat, for_in}
use Rattle.parts.specs.Leads.{jump_labels, jump_word, lead_head, before_value, no_value}
use Rattle.parts.specs.Heads.{fn_head, impl_head, mod_head, const_head, item_head, let_head}
use Rattle.parts.specs.Lone.{whole, lone, no_item}
use Rattle.parts.specs.Links.{tried, awaited, field_of, open_index, close_index, indent_first, break_link, chain_end}
use Rattle.rules.proofs.TameSteps.{tame, IsTame, Each, idle, made, ◌and◌, cond_tame, Tamed, ◌▹◌, found_tame, wrong, remaining_tame, write_if_lem, write_only}
use Rattle.rules.proofs.TameRules.{path_tame, pat_tame, modifiers_tame, fn_args_lem, item_struct_lem, item_enum_lem, item_use_lem}

-- ---- gaps

module _ (rs : List Record) where
  pub arm_comma_lem : (block : Bool) → Tamed (arm_comma rs block)
  unfolding arm_comma
  arm_comma_lem block = record { at = λ s. remaining_tame rs Comma s and write_only (not block) (remaining rs Comma s).token }

  pub open_match_lem : Tamed (open_match rs)
  unfolding open_match
  open_match_lem = search tame depth 12 fits 2000

  pub close_select_lem : Tamed (close_select rs)
  unfolding close_select close_arms
  close_select_lem = search tame depth 12 fits 2000

  pub end_entry_lem : Tamed (end_entry rs)
  unfolding end_entry
  end_entry_lem = search tame depth 12 fits 2000

  pub close_keys_lem : Tamed (close_keys rs)
  unfolding close_keys
  close_keys_lem = search tame depth 12 fits 2000

  pub semicolon_tame : (kind : ℕ) → Tamed (semicolon rs kind)
  unfolding semicolon before_semi
  semicolon_tame kind = record {
    at = λ s. let z = (remaining rs SemiColon s).token in let needed = needs_semi (kind_of kind) in
        remaining_tame rs SemiColon s and cond_tame (needed || is_present z) made idle and write_if_lem needed z;
  }

  pub group_end_lem : (empty : Bool) (paren : ℕ) → Tamed (group_end rs empty paren)
  unfolding group_end
  group_end_lem empty paren = search tame depth 12 fits 2000

pub open_select_lem : Tamed open_select
unfolding open_select
open_select_lem = search tame depth 12 fits 2000

pub open_arm_lem : Each open_arm
unfolding open_arm
open_arm_lem any = search tame depth 12 fits 2000

pub close_arms_lem : Each close_arms
unfolding close_arms
close_arms_lem any = search tame depth 12 fits 2000

pub open_lines_lem : IsTame open_lines
unfolding open_lines
open_lines_lem = search tame depth 12 fits 2000

pub close_lines_lem : IsTame close_lines
unfolding close_lines
close_lines_lem = search tame depth 12 fits 2000

pub key_line_lem : Tamed key_line
unfolding key_line
key_line_lem = search tame depth 12 fits 2000

pub next_key_lem : (comma : Remaining) → Tamed (next_key comma)
unfolding next_key
next_key_lem comma = search tame depth 12 fits 2000

pub gap_tame : (last kind : ℕ) → IsTame (gap last kind)
unfolding gap
gap_tame last kind = search tame depth 12 fits 2000

pub enter_tame : Each enter
unfolding enter
enter_tame spread = search tame depth 12 fits 2000

pub leave_tame : Each leave
unfolding leave
leave_tame spread = search tame depth 12 fits 2000

pub before_block_lem : (kind : ℕ) → IsTame (before_block kind)
unfolding before_block
before_block_lem kind = search tame depth 12 fits 2000

pub no_block_lem : (kind : ℕ) → IsTame (no_block kind)
unfolding no_block
no_block_lem kind = search tame depth 12 fits 2000

-- ---- parts

module _ (rs : List Record) where
  pub expect_expr_lem : {f : RecordNo → Plan} → Each f → Tamed (expect_expr rs f)
  unfolding expect_expr
  expect_expr_lem a = record { at = λ s. found_tame (take_if (is_expr rs) s).found a wrong }

  pub expect_guard_lem : (kind : ℕ) {f : RecordNo → Plan} → Each f → Tamed (expect_guard rs kind f)
  unfolding expect_guard
  expect_guard_lem kind a = record { at = λ s. found_tame (take_if (is_guard rs kind) s).found a wrong }

  pub word_tame : (kind : ℕ) → Tamed (word rs kind)
  unfolding word
  word_tame kind = search tame depth 12 fits 2000

  pub between_tame : (kind : ℕ) → Tamed (between rs kind)
  unfolding between
  between_tame kind = search tame depth 12 fits 2000

  pub before_expr_lem : Tamed (before_expr rs)
  unfolding before_expr pat_attributes expr_labels
  before_expr_lem = search (tame, modifiers_tame) depth 20 fits 2000

  jump_word_lem : (kind : ℕ) → Tamed (jump_word rs kind)
  unfolding jump_word jump_labels
  jump_word_lem kind = search tame depth 20 fits 2000

  default_or_pat_lem : Tamed (default_or_pat rs)
  unfolding default_or_pat
  default_or_pat_lem = search (tame, pat_tame) depth 12 fits 2000

  case_pat_lem : Tamed (case_pat rs)
  unfolding case_pat
  case_pat_lem = search (tame, pat_tame) depth 12 fits 2000

  pub arm_pat_lem : (inMatch : Bool) → Tamed (arm_pat rs inMatch)
  arm_pat_lem true = case_pat_lem
  arm_pat_lem false = default_or_pat_lem

  closure_args_lem : Tamed (closure_args rs)
  unfolding closure_args barred
  closure_args_lem = search (tame, pat_tame) depth 20 fits 2000

  pub lead_head_lem : (kind : ℕ) → Tamed (lead_head rs kind)
  unfolding lead_head
  lead_head_lem kind = search (tame, closure_args_lem, jump_word_lem) depth 12 fits 2000

  let_pat_lem : Tamed (let_pat rs)
  unfolding let_pat
  let_pat_lem = search (tame, pat_tame, word_tame, between_tame) depth 12 fits 2000

  pub for_in_lem : Tamed (for_in rs)
  unfolding for_in
  for_in_lem = search (tame, pat_tame, word_tame, between_tame) depth 12 fits 2000

  fn_head_lem : Tamed (fn_head rs)
  unfolding fn_head args_of
  fn_head_lem = search (tame, fn_args_lem) depth 12 fits 2000

  impl_head_lem : Tamed (impl_head rs)
  unfolding impl_head
  impl_head_lem = search (tame, path_tame, word_tame) depth 12 fits 2000

  mod_head_lem : Tamed (mod_head rs)
  unfolding mod_head
  mod_head_lem = search (tame, word_tame) depth 12 fits 2000

  const_head_lem : Tamed (const_head rs)
  unfolding const_head
  const_head_lem = search (tame, between_tame) depth 12 fits 2000

  pub item_head_lem : (kind : ℕ) → Tamed (item_head rs kind)
  unfolding item_head
  item_head_lem kind = search (tame, item_struct_lem, item_enum_lem, item_use_lem, fn_head_lem, impl_head_lem, mod_head_lem, const_head_lem) depth 20 fits 4000

  pub attributes_tame : Tamed (attributes rs)
  unfolding on_lines attributes
  attributes_tame = search tame depth 12 fits 2000

  pub inner_attributes_lem : Tamed (inner_attributes rs)
  unfolding on_lines inner_attributes
  inner_attributes_lem = search tame depth 12 fits 2000

  pub let_head_lem : (local : Bool) → Tamed (let_head rs local)
  let_head_lem true = attributes_tame ▹ modifiers_tame rs ▹ let_pat_lem
  let_head_lem false = let_pat_lem

  pub lone_tame : Each (lone rs)
  unfolding lone whole pat_lit
  lone_tame k = search (tame, path_tame) depth 20 fits 2000

  pub no_item_lem : Each (no_item rs)
  unfolding no_item
  no_item_lem k = search tame depth 12 fits 2000

  pub try_link : Tamed (tried rs)
  unfolding tried
  try_link = search tame depth 12 fits 2000

  pub await_link : Tamed (awaited rs)
  unfolding awaited
  await_link = search tame depth 12 fits 2000

  pub field_link : Tamed (field_of rs)
  unfolding field_of
  field_link = search (tame, path_tame) depth 12 fits 2000

  pub open_index_lem : Tamed (open_index rs)
  unfolding open_index
  open_index_lem = search tame depth 12 fits 2000

  pub close_index_lem : Tamed (close_index rs)
  unfolding close_index
  close_index_lem = search tame depth 12 fits 2000

  pub break_link_lem : (from n : ℕ) → Each (break_link rs from n)
  unfolding break_link indent_first
  break_link_lem from n k = search tame depth 12 fits 2000

pub before_value_lem : (kind : ℕ) → IsTame (before_value kind)
unfolding before_value
before_value_lem kind = search tame depth 12 fits 2000

pub no_value_lem : (kind : ℕ) → IsTame (no_value kind)
unfolding no_value
no_value_lem kind = search tame depth 12 fits 2000

pub chain_end_lem : (from n : ℕ) → IsTame (chain_end from n)
unfolding chain_end
chain_end_lem from n = search tame depth 12 fits 2000
