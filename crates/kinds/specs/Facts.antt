-- The table of kinds. Each row: the kind's byte, its name in docs/KINDS.md and oracle/kinds.txt, and what the rules ask of it.
use Rattle.std.specs.Prelude.{ℕ, Bool, true, false}
use Prim.Native.String.{String}
use Rattle.kinds.specs.declared.Kind.{Kind}
use Rattle.kinds.specs.declared.class.Class.{Class}

pub record Facts : Type 0 where
  pub byte : ℕ
  pub name : String
  pub leaf : Bool
  pub class : Class
  pub semi : Bool
  pub rule : Bool

abbrev row : ℕ → String → Bool → Class → Bool → Bool → Facts
row b n l c s r = record { byte = b; name = n; leaf = l; class = c; semi = s; rule = r }

-- a leaf has no children for a rule to walk
abbrev leaf : ℕ → String → Facts
leaf b n = row b n true Class.None false false

-- a composite that only stands inside another's rule, and has none of its own
abbrev inside : ℕ → String → Facts
inside b n = row b n false Class.None false false

-- a composite whose children a rule walks as a whole
abbrev ruled : ℕ → String → Facts
ruled b n = row b n false Class.None false true

-- a statement, with its class and whether a semicolon is needed
abbrev statement : ℕ → String → Class → Bool → Facts
statement b n c s = row b n false c s true

unfoldable pub facts_of : Kind → Facts
facts_of Kind.Whitespace = leaf 0x00 "ws"
facts_of Kind.Comment = leaf 0x01 "line_comment"
facts_of Kind.MultilineComment = leaf 0x02 "block_comment"
facts_of Kind.Ident = leaf 0x03 "ident"
facts_of Kind.Label = leaf 0x04 "label"
facts_of Kind.Number = leaf 0x05 "number"
facts_of Kind.Str = leaf 0x06 "str"
facts_of Kind.LitOther = leaf 0x07 "lit_other"
facts_of Kind.ObjectKey = leaf 0x08 "obj_key"
facts_of Kind.AnonymousObjectKey = leaf 0x09 "anon_key"
facts_of Kind.PatIgnore = leaf 0x0A "pat_ignore"
facts_of Kind.OpenParenthesis = leaf 0x10 "paren_open"
facts_of Kind.CloseParenthesis = leaf 0x11 "paren_close"
facts_of Kind.OpenBrace = leaf 0x12 "brace_open"
facts_of Kind.CloseBrace = leaf 0x13 "brace_close"
facts_of Kind.OpenBracket = leaf 0x14 "bracket_open"
facts_of Kind.CloseBracket = leaf 0x15 "bracket_close"
facts_of Kind.OpenEmpty = leaf 0x16 "empty_open"
facts_of Kind.CloseEmpty = leaf 0x17 "empty_close"
facts_of Kind.Comma = leaf 0x18 "comma"
facts_of Kind.SemiColon = leaf 0x19 "semi"
facts_of Kind.Colon = leaf 0x1A "colon"
facts_of Kind.ColonColon = leaf 0x1B "coloncolon"
facts_of Kind.Eq = leaf 0x1C "eq"
facts_of Kind.Rocket = leaf 0x1D "rocket"
facts_of Kind.Dash = leaf 0x1E "minus"
facts_of Kind.DotDot = leaf 0x1F "dotdot"
facts_of Kind.DotDotEq = leaf 0x20 "dotdoteq"
facts_of Kind.Lt = leaf 0x21 "lt"
facts_of Kind.Gt = leaf 0x22 "gt"
facts_of Kind.Pipe = leaf 0x23 "pipe"
facts_of Kind.PipePipe = leaf 0x24 "pipepipe"
facts_of Kind.QuestionMark = leaf 0x25 "question"
facts_of Kind.Dot = leaf 0x26 "dot"
facts_of Kind.Bang = leaf 0x27 "bang"
facts_of Kind.Pound = leaf 0x28 "pound"
facts_of Kind.Star = leaf 0x29 "star"
facts_of Kind.Op = leaf 0x2A "op"
facts_of Kind.Let = leaf 0x30 "kw_let"
facts_of Kind.In = leaf 0x31 "kw_in"
facts_of Kind.If = leaf 0x32 "kw_if"
facts_of Kind.Else = leaf 0x33 "kw_else"
facts_of Kind.While = leaf 0x34 "kw_while"
facts_of Kind.Loop = leaf 0x35 "kw_loop"
facts_of Kind.For = leaf 0x36 "kw_for"
facts_of Kind.Break = leaf 0x37 "kw_break"
facts_of Kind.Continue = leaf 0x38 "kw_continue"
facts_of Kind.Return = leaf 0x39 "kw_return"
facts_of Kind.Yield = leaf 0x3A "kw_yield"
facts_of Kind.Select = leaf 0x3B "kw_select"
facts_of Kind.Default = leaf 0x3C "kw_default"
facts_of Kind.Match = leaf 0x3D "kw_match"
facts_of Kind.As = leaf 0x3E "kw_as"
facts_of Kind.Await = leaf 0x3F "kw_await"
facts_of Kind.Struct = leaf 0x40 "kw_struct"
facts_of Kind.Enum = leaf 0x41 "kw_enum"
facts_of Kind.Fn = leaf 0x42 "kw_fn"
facts_of Kind.Use = leaf 0x43 "kw_use"
facts_of Kind.Impl = leaf 0x44 "kw_impl"
facts_of Kind.Mod = leaf 0x45 "kw_mod"
facts_of Kind.Const = leaf 0x46 "kw_const"
facts_of Kind.Pub = leaf 0x47 "kw_pub"
facts_of Kind.Async = leaf 0x48 "kw_async"
facts_of Kind.Move = leaf 0x49 "kw_move"
facts_of Kind.Super = leaf 0x4A "kw_super"
facts_of Kind.SelfValue = leaf 0x4B "kw_self"
facts_of Kind.Crate = leaf 0x4C "kw_crate"
facts_of Kind.BlockBody = ruled 0x80 "block_body"
facts_of Kind.Block = ruled 0x81 "block"
facts_of Kind.Attribute = inside 0x82 "attr"
facts_of Kind.InnerAttribute = inside 0x83 "inner_attr"
facts_of Kind.Modifiers = inside 0x84 "modifiers"
facts_of Kind.ModifierSuper = inside 0x85 "mod_super"
facts_of Kind.ModifierSelf = inside 0x86 "mod_self"
facts_of Kind.ModifierCrate = inside 0x87 "mod_crate"
facts_of Kind.ModifierIn = inside 0x88 "mod_in"
facts_of Kind.Item = statement 0x90 "item" Class.Item false
facts_of Kind.ItemSemi = statement 0x91 "item_semi" Class.Item true
facts_of Kind.ConstStmt = statement 0x92 "const_stmt" Class.Const false
facts_of Kind.ConstSemi = statement 0x93 "const_semi" Class.Const true
facts_of Kind.Local = statement 0x94 "local" Class.Local false
facts_of Kind.LocalSemi = statement 0x95 "local_semi" Class.Local true
facts_of Kind.Expr = statement 0x96 "expr" Class.Other false
facts_of Kind.ExprSemi = statement 0x97 "expr_semi" Class.Other true
facts_of Kind.ItemStruct = ruled 0x98 "item_struct"
facts_of Kind.ItemEnum = ruled 0x99 "item_enum"
facts_of Kind.ItemFn = ruled 0x9A "item_fn"
facts_of Kind.ItemUse = ruled 0x9B "item_use"
facts_of Kind.ItemImpl = ruled 0x9C "item_impl"
facts_of Kind.ItemMod = ruled 0x9D "item_mod"
facts_of Kind.ItemFileMod = ruled 0x9E "item_file_mod"
facts_of Kind.ItemConst = ruled 0x9F "item_const"
facts_of Kind.ItemUsePath = ruled 0xA0 "item_use_path"
facts_of Kind.ItemUseGroup = ruled 0xA1 "item_use_group"
facts_of Kind.Variant = ruled 0xA2 "variant"
facts_of Kind.StructBody = ruled 0xA3 "struct_body"
facts_of Kind.TupleBody = ruled 0xA4 "tuple_body"
facts_of Kind.EmptyBody = inside 0xA5 "empty_body"
facts_of Kind.Field = inside 0xA6 "field"
facts_of Kind.FnArgs = ruled 0xA7 "fn_args"
facts_of Kind.Path = ruled 0xB0 "path"
facts_of Kind.PathGenerics = ruled 0xB1 "path_generics"
facts_of Kind.Pat = ruled 0xB2 "pat"
facts_of Kind.PatArray = ruled 0xB3 "pat_array"
facts_of Kind.PatTuple = ruled 0xB4 "pat_tuple"
facts_of Kind.PatObject = ruled 0xB5 "pat_object"
facts_of Kind.Lit = ruled 0xC0 "lit"
facts_of Kind.TemplateString = ruled 0xC1 "template"
facts_of Kind.ExprAssign = ruled 0xC2 "expr_assign"
facts_of Kind.ExprArray = ruled 0xC3 "expr_array"
facts_of Kind.ExprTuple = ruled 0xC4 "expr_tuple"
facts_of Kind.ExprObject = ruled 0xC5 "expr_object"
facts_of Kind.ExprBinary = ruled 0xC6 "expr_binary"
facts_of Kind.ExprOperator = inside 0xC7 "operator"
facts_of Kind.ExprUnary = ruled 0xC8 "expr_unary"
facts_of Kind.ExprGroup = ruled 0xC9 "expr_group"
facts_of Kind.ExprEmptyGroup = ruled 0xCA "expr_empty_group"
facts_of Kind.ExprIf = ruled 0xCB "expr_if"
facts_of Kind.ExprElse = inside 0xCC "expr_else"
facts_of Kind.ExprElseIf = inside 0xCD "expr_else_if"
facts_of Kind.Condition = ruled 0xCE "condition"
facts_of Kind.ExprWhile = ruled 0xCF "expr_while"
facts_of Kind.ExprLoop = ruled 0xD0 "expr_loop"
facts_of Kind.ExprFor = ruled 0xD1 "expr_for"
facts_of Kind.ExprBreak = ruled 0xD2 "expr_break"
facts_of Kind.ExprContinue = ruled 0xD3 "expr_continue"
facts_of Kind.ExprReturn = ruled 0xD4 "expr_return"
facts_of Kind.ExprYield = ruled 0xD5 "expr_yield"
facts_of Kind.ExprSelect = ruled 0xD6 "expr_select"
facts_of Kind.ExprSelectArm = inside 0xD7 "select_arm"
facts_of Kind.ExprMatch = ruled 0xD8 "expr_match"
facts_of Kind.ExprMatchArm = inside 0xD9 "match_arm"
facts_of Kind.ExprRangeFull = ruled 0xDA "range_full"
facts_of Kind.ExprRangeFrom = ruled 0xDB "range_from"
facts_of Kind.ExprRangeTo = ruled 0xDC "range_to"
facts_of Kind.ExprRangeToInclusive = ruled 0xDD "range_to_incl"
facts_of Kind.ExprRange = ruled 0xDE "range"
facts_of Kind.ExprRangeInclusive = ruled 0xDF "range_incl"
facts_of Kind.ExprClosure = ruled 0xE0 "expr_closure"
facts_of Kind.ClosureArguments = inside 0xE1 "closure_args"
facts_of Kind.ExprChain = ruled 0xE2 "expr_chain"
facts_of Kind.ExprTry = inside 0xE3 "expr_try"
facts_of Kind.ExprAwait = inside 0xE4 "expr_await"
facts_of Kind.ExprField = inside 0xE5 "expr_field"
facts_of Kind.ExprCall = ruled 0xE6 "expr_call"
facts_of Kind.ExprIndex = inside 0xE7 "expr_index"
facts_of Kind.Error = inside 0xFE "error"
-- every byte without a row; FF is one of them
facts_of Kind.Unknown = inside 0xFF ""

unfoldable pub byte_of : Kind → ℕ
byte_of k = (facts_of k).byte

unfoldable pub name_of : Kind → String
name_of k = (facts_of k).name

unfoldable pub leaf_of : Kind → Bool
leaf_of k = (facts_of k).leaf

unfoldable pub class_of : Kind → Class
class_of k = (facts_of k).class

unfoldable pub needs_semi : Kind → Bool
needs_semi k = (facts_of k).semi

unfoldable pub has_rule : Kind → Bool
has_rule k = (facts_of k).rule

abbrev is_other : Class → Bool
is_other Class.Item = false
is_other Class.Const = false
is_other Class.Local = false
is_other Class.Other = true
is_other Class.None = false

-- both statements of class other are the Rust's Expr
unfoldable pub is_expr : Kind → Bool
is_expr k = is_other (class_of k)
