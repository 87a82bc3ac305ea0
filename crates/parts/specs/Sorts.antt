-- Kinds that share a rule, or a place in one, by their bytes. Assumes nothing.
use Rattle.std.specs.Prelude.{ℕ, Bool, ◌&&◌, ◌||◌, eqb, leb}
use Rattle.kinds.specs.declared.Kind.{Kind}
use Rattle.kinds.specs.Facts.{byte_of}

-- an operator that stands before its operand
unfoldable pub is_prefix : ℕ → Bool
is_prefix kind = eqb kind (byte_of Kind.ExprUnary) || eqb kind (byte_of Kind.ExprRangeTo) || eqb kind (byte_of Kind.ExprRangeToInclusive)

-- an operator with an operand behind it, before it, or both
unfoldable pub is_range : ℕ → Bool
is_range kind = is_prefix kind || eqb kind (byte_of Kind.ExprRangeFrom) || eqb kind (byte_of Kind.ExprRange) || eqb kind (byte_of Kind.ExprRangeInclusive)

unfoldable pub is_loop : ℕ → Bool
is_loop kind = eqb kind (byte_of Kind.ExprWhile) || eqb kind (byte_of Kind.ExprLoop) || eqb kind (byte_of Kind.ExprFor)

-- closures and jumps
unfoldable pub is_lead : ℕ → Bool
is_lead kind =
    eqb kind (byte_of Kind.ExprClosure)
    || eqb kind (byte_of Kind.ExprBreak) || eqb kind (byte_of Kind.ExprContinue) || eqb kind (byte_of Kind.ExprReturn) || eqb kind (byte_of Kind.ExprYield)

-- the statements that hold an item; a const goes as one
unfoldable pub is_item : ℕ → Bool
is_item kind = eqb kind (byte_of Kind.Item) || eqb kind (byte_of Kind.ItemSemi) || eqb kind (byte_of Kind.ConstStmt) || eqb kind (byte_of Kind.ConstSemi)

-- the statements that are a `let`
unfoldable pub is_let : ℕ → Bool
is_let kind = eqb kind (byte_of Kind.Local) || eqb kind (byte_of Kind.LocalSemi)

-- a statement of a block: one of the eight kinds 90 to 97
unfoldable pub is_stmt : ℕ → Bool
is_stmt kind = leb (byte_of Kind.Item) kind && leb kind (byte_of Kind.ExprSemi)

-- an item's own node: one of the eight kinds 98 to 9F
unfoldable pub is_decl : ℕ → Bool
is_decl kind = leb (byte_of Kind.ItemStruct) kind && leb kind (byte_of Kind.ItemConst)
