-- The rules refuse by record numbers only, in the order of their definitions: the law of `pat_array` is `pat_array_lem`, that of `path` `path_tame`. Assumes nothing.
use Prim.Native.Nat.{ℕ, zero, suc}
use mathlib.Core.Bool.{Bool, true, false, not}
use mathlib.Core.List.{List}
use Rattle.tree.specs.declared.record.Record.{Record}
use Rattle.tree.specs.declared.record.RecordNo.{RecordNo}
use Rattle.kinds.specs.declared.Kind.{Kind}
use Rattle.kinds.specs.Facts.{byte_of}
use Rattle.meaning.specs.Plan.{Plan}
use Rattle.steps.specs.declared.items.Few.{Few}
use Rattle.steps.specs.declared.items.Few.TheVariants.{Zero, One, Many}
use Rattle.steps.specs.declared.remaining.Mark.TheVariants.{Comma, CloseBrace}
use Rattle.walk.specs.Stream.{next_is}
use Rattle.walk.specs.Flow.{is}
use Rattle.steps.specs.Remaining.{Remaining, says, remaining}
use Rattle.paths.specs.Path.{path_part, path_rule, generics_rule, path}
use Rattle.paths.specs.Attribute.{modifier_word, modifier_in, apart, modifier, modifier_list, modifiers}
use Rattle.patterns.specs.Pattern.{pat_item, pat_array, tuple_end, tupled, tuple_rule, pat_tuple, object_name, colon_pat, object_item, keyed, object_closing, object_end, pat_object, pat_attributes, pat_lit, pat_child, pat, no_comma, fn_args}
use Rattle.bodies.specs.Body.{field, tuple_body, lined, line_end, struct_body, body, variant, item_struct, variants, enum_body, item_enum}
use Rattle.uses.specs.Use.{use_part, as_name, use_parts, use_path_rule, how_many, is_one, braced, group_rule, use_path, item_use}
use Rattle.rules.proofs.TameSteps.{tame, IsTame, Each, made, deep, ◌and◌, cond_tame, Tamed, ◌▹◌, expected, eaten, parsed, fmt_tame, ignore_tame, remaining_tame, list_tame}

-- ---- by how many items there were

tuple_end_lem : (t : Bool) (n : Few) (c : Remaining) → IsTame (tuple_end t n c)
tuple_end_lem t Zero c = ignore_tame c and made
tuple_end_lem true One c = fmt_tame c
tuple_end_lem false One c = ignore_tame c
tuple_end_lem t Many c = ignore_tame c

pub tupled_tame : (t : Bool) → Tamed (tupled t)
unfolding tupled
tupled_tame t = record { at = λ s. tuple_end_lem t s.count s.comma }

-- ---- by how the list ends

pub object_end_lem : Tamed object_end
unfolding object_end object_closing
object_end_lem = record { at = λ s. ignore_tame s.comma and cond_tame (says s.comma) made made }

no_comma_lem : (rs : List Record) → Tamed (no_comma rs)
unfolding no_comma
no_comma_lem rs = record { at = λ s. remaining_tame rs Comma s and ignore_tame (remaining rs Comma s).token }

braced_tame : (single : Bool) → Each (braced single)
unfolding braced
braced_tame single k = cond_tame single made made

-- ---- rules that follow the tree down, by the depth that is left

module _ (rs : List Record) where
  pub path_tame : (d : ℕ) → Each (path rs d)
  unfolding path path_rule path_part generics_rule
  path_tame zero k = deep
  path_tame (suc d) k = let a = path_tame d in search tame depth 12 fits 2000

  tuple_rule_lem : {pat : RecordNo → Plan} → Each pat → (trailing : Bool) → Tamed (tuple_rule rs pat trailing)
  unfolding tuple_rule pat_item
  tuple_rule_lem a trailing = search (tame, tupled_tame) depth 12 fits 2000

  pub pat_tuple_lem : {pat : RecordNo → Plan} → Each pat → Tamed (pat_tuple rs pat)
  unfolding pat_tuple
  pat_tuple_lem a = record { at = λ s. (eaten (path_tame 64) rs (byte_of Kind.Path) ▹ tuple_rule_lem a (not (next_is (is rs Kind.Path) s))).at s }

  pub pat_array_lem : {pat : RecordNo → Plan} → Each pat → Tamed (pat_array rs pat)
  unfolding pat_array pat_item
  pat_array_lem a = search tame depth 12 fits 2000

  pub object_name_lem : Tamed (object_name rs)
  unfolding object_name
  object_name_lem = search (tame, path_tame) depth 12 fits 2000

  pub pat_object_lem : {pat : RecordNo → Plan} → Each pat → Tamed (pat_object rs pat)
  unfolding pat_object keyed object_item colon_pat
  pat_object_lem a = search (tame, object_name_lem, object_end_lem) depth 12 fits 2000

  pub pat_tame : (d : ℕ) → Each (pat rs d)
  unfolding pat pat_attributes pat_child pat_lit
  pat_tame zero k = deep
  pat_tame (suc d) k = let a = pat_tame d in search (tame, path_tame, pat_array_lem, pat_tuple_lem, pat_object_lem) depth 24 fits 4000

  pub group_rule_lem : {path : RecordNo → Plan} → Each path → Tamed (group_rule rs path)
  unfolding group_rule
  group_rule_lem a = record {
    at = λ s. let b = braced_tame (is_one (how_many (is rs Kind.ItemUsePath) s.left)) in
        (expected b rs (byte_of Kind.OpenBrace) ▹ list_tame a rs (is rs Kind.ItemUsePath) ▹ expected b rs (byte_of Kind.CloseBrace)).at s;
  }

  use_path_rule_lem : {group : RecordNo → Plan} → Each group → Tamed (use_path_rule rs group)
  unfolding use_path_rule use_parts use_part as_name
  use_path_rule_lem a = search tame depth 12 fits 2000

  pub use_path_lem : (d : ℕ) → Tamed (use_path rs d)
  unfolding use_path
  use_path_lem zero = record { at = λ s. deep }
  use_path_lem (suc d) = use_path_rule_lem (parsed rs (group_rule_lem (parsed rs (use_path_lem d))))

  -- ---- items

  pub modifiers_tame : Tamed (modifiers rs)
  unfolding modifiers modifier_list modifier apart modifier_word modifier_in
  modifiers_tame = search (tame, path_tame) depth 20 fits 2000

  pub struct_body_lem : Tamed (struct_body rs)
  unfolding struct_body field lined line_end
  struct_body_lem = search tame depth 12 fits 2000

  pub tuple_body_lem : Tamed (tuple_body rs)
  unfolding tuple_body field
  tuple_body_lem = search tame depth 12 fits 2000

  pub variant_tame : Tamed (variant rs)
  unfolding variant body
  variant_tame = search (tame, struct_body_lem, tuple_body_lem) depth 12 fits 2000

  pub item_struct_lem : Tamed (item_struct rs)
  unfolding item_struct body
  item_struct_lem = search (tame, struct_body_lem, tuple_body_lem) depth 12 fits 2000

  pub item_enum_lem : Tamed (item_enum rs)
  unfolding item_enum enum_body variants lined line_end
  item_enum_lem = search (tame, variant_tame) depth 20 fits 4000

  pub item_use_lem : Tamed (item_use rs)
  unfolding item_use
  item_use_lem = search (tame, use_path_lem) depth 12 fits 2000

  pub fn_args_lem : Tamed (fn_args rs)
  unfolding fn_args
  fn_args_lem = search (tame, pat_tame, no_comma_lem) depth 12 fits 2000
