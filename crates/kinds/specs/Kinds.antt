-- What a byte means: the kind whose byte it is.
use Rattle.std.specs.Prelude.{ℕ, Bool, true, false, List, [], ◌∷◌, eqb, ltb}
use Rattle.kinds.specs.declared.Kind.{Kind}
use Rattle.kinds.specs.Facts.{byte_of}

-- every kind that has a byte, in the order of the bytes
unfoldable pub kinds : List Kind
kinds =
    Kind.Whitespace ∷
    Kind.Comment ∷
    Kind.MultilineComment ∷
    Kind.Ident ∷
    Kind.Label ∷
    Kind.Number ∷
    Kind.Str ∷
    Kind.LitOther ∷
    Kind.ObjectKey ∷
    Kind.AnonymousObjectKey ∷
    Kind.PatIgnore ∷
    Kind.OpenParenthesis ∷
    Kind.CloseParenthesis ∷
    Kind.OpenBrace ∷
    Kind.CloseBrace ∷
    Kind.OpenBracket ∷
    Kind.CloseBracket ∷
    Kind.OpenEmpty ∷
    Kind.CloseEmpty ∷
    Kind.Comma ∷
    Kind.SemiColon ∷
    Kind.Colon ∷
    Kind.ColonColon ∷
    Kind.Eq ∷
    Kind.Rocket ∷
    Kind.Dash ∷
    Kind.DotDot ∷
    Kind.DotDotEq ∷
    Kind.Lt ∷
    Kind.Gt ∷
    Kind.Pipe ∷
    Kind.PipePipe ∷
    Kind.QuestionMark ∷
    Kind.Dot ∷
    Kind.Bang ∷
    Kind.Pound ∷
    Kind.Star ∷
    Kind.Op ∷
    Kind.Let ∷
    Kind.In ∷
    Kind.If ∷
    Kind.Else ∷
    Kind.While ∷
    Kind.Loop ∷
    Kind.For ∷
    Kind.Break ∷
    Kind.Continue ∷
    Kind.Return ∷
    Kind.Yield ∷
    Kind.Select ∷
    Kind.Default ∷
    Kind.Match ∷
    Kind.As ∷
    Kind.Await ∷
    Kind.Struct ∷
    Kind.Enum ∷
    Kind.Fn ∷
    Kind.Use ∷
    Kind.Impl ∷
    Kind.Mod ∷
    Kind.Const ∷
    Kind.Pub ∷
    Kind.Async ∷
    Kind.Move ∷
    Kind.Super ∷
    Kind.SelfValue ∷
    Kind.Crate ∷
    Kind.BlockBody ∷
    Kind.Block ∷
    Kind.Attribute ∷
    Kind.InnerAttribute ∷
    Kind.Modifiers ∷
    Kind.ModifierSuper ∷
    Kind.ModifierSelf ∷
    Kind.ModifierCrate ∷
    Kind.ModifierIn ∷
    Kind.Item ∷
    Kind.ItemSemi ∷
    Kind.ConstStmt ∷
    Kind.ConstSemi ∷
    Kind.Local ∷
    Kind.LocalSemi ∷
    Kind.Expr ∷
    Kind.ExprSemi ∷
    Kind.ItemStruct ∷
    Kind.ItemEnum ∷
    Kind.ItemFn ∷
    Kind.ItemUse ∷
    Kind.ItemImpl ∷
    Kind.ItemMod ∷
    Kind.ItemFileMod ∷
    Kind.ItemConst ∷
    Kind.ItemUsePath ∷
    Kind.ItemUseGroup ∷
    Kind.Variant ∷
    Kind.StructBody ∷
    Kind.TupleBody ∷
    Kind.EmptyBody ∷
    Kind.Field ∷
    Kind.FnArgs ∷
    Kind.Path ∷
    Kind.PathGenerics ∷
    Kind.Pat ∷
    Kind.PatArray ∷
    Kind.PatTuple ∷
    Kind.PatObject ∷
    Kind.Lit ∷
    Kind.TemplateString ∷
    Kind.ExprAssign ∷
    Kind.ExprArray ∷
    Kind.ExprTuple ∷
    Kind.ExprObject ∷
    Kind.ExprBinary ∷
    Kind.ExprOperator ∷
    Kind.ExprUnary ∷
    Kind.ExprGroup ∷
    Kind.ExprEmptyGroup ∷
    Kind.ExprIf ∷
    Kind.ExprElse ∷
    Kind.ExprElseIf ∷
    Kind.Condition ∷
    Kind.ExprWhile ∷
    Kind.ExprLoop ∷
    Kind.ExprFor ∷
    Kind.ExprBreak ∷
    Kind.ExprContinue ∷
    Kind.ExprReturn ∷
    Kind.ExprYield ∷
    Kind.ExprSelect ∷
    Kind.ExprSelectArm ∷
    Kind.ExprMatch ∷
    Kind.ExprMatchArm ∷
    Kind.ExprRangeFull ∷
    Kind.ExprRangeFrom ∷
    Kind.ExprRangeTo ∷
    Kind.ExprRangeToInclusive ∷
    Kind.ExprRange ∷
    Kind.ExprRangeInclusive ∷
    Kind.ExprClosure ∷
    Kind.ClosureArguments ∷
    Kind.ExprChain ∷
    Kind.ExprTry ∷
    Kind.ExprAwait ∷
    Kind.ExprField ∷
    Kind.ExprCall ∷
    Kind.ExprIndex ∷
    Kind.Error ∷
    []

abbrev pub pick : Bool → Kind → Kind → Kind
pick true a b = a
pick false a b = b

-- the first of the kinds that has this byte, Unknown where none has
unfoldable pub find : List Kind → ℕ → Kind
find [] b = Kind.Unknown
find (k ∷ ks) b = pick (eqb b (byte_of k)) k (find ks b)

unfoldable pub kind_of : ℕ → Kind
kind_of b = find kinds b

abbrev pub is_leaf : ℕ → Bool
is_leaf b = ltb b 0x80
