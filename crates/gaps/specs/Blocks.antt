-- The block behind an item's head, by the byte of the item's kind: format.rs 1441 to 1462, 1544 to 1573. Assumes nothing.
use Rattle.std.specs.Prelude.{ℕ, Bool, true, false, cond, ◌||◌, List, eqb}
use Rattle.tree.specs.declared.record.Record.{Record}
use Rattle.kinds.specs.declared.Kind.{Kind}
use Rattle.kinds.specs.Facts.{byte_of}
use Rattle.meaning.specs.declared.call.Literal.TheVariants.{OpenBrace, CloseBrace}
use Rattle.meaning.specs.declared.call.Call.TheVariants.{Ws, Nl, Lit}
use Rattle.meaning.specs.Plan.{Plan, nothing, make, ◌then◌}
use Rattle.walk.specs.Stream.{Stream, next_is}
use Rattle.walk.specs.Flow.{is}

-- a module, in a file of its own or not
unfoldable pub is_mod : ℕ → Bool
is_mod kind = eqb kind (byte_of Kind.ItemMod) || eqb kind (byte_of Kind.ItemFileMod)

-- an impl must have one; a function or a module may; no other item has
unfoldable pub asks_block : List Record → ℕ → Stream → Bool
asks_block rs kind s =
    cond (eqb kind (byte_of Kind.ItemImpl)) true
    (cond (eqb kind (byte_of Kind.ItemFn) || is_mod kind) (next_is (is rs Kind.Block) s) false)

-- the head of a module ends without a space
unfoldable pub before_block : ℕ → Plan
before_block kind = cond (is_mod kind) (make Ws) nothing

-- a function that has none gets one
unfoldable pub no_block : ℕ → Plan
no_block kind = cond (eqb kind (byte_of Kind.ItemFn)) (make (Lit OpenBrace) then make (Nl 1) then make (Lit CloseBrace)) nothing
