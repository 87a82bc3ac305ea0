-- What stands in front of the block or the value of items and locals: format.rs 206 to 232, 1441 to 1455, 1544 to 1570. Assumes nothing.
use Rattle.std.specs.Prelude.{ℕ, Bool, true, false, cond, List, eqb}
use Rattle.tree.specs.declared.record.Record.{Record}
use Rattle.kinds.specs.declared.Kind.{Kind}
use Rattle.kinds.specs.Facts.{byte_of}
use Rattle.meaning.specs.declared.call.Call.TheVariants.{Ws}
use Rattle.walk.specs.Stream.{Stream}
use Rattle.walk.specs.Flow.{Flow, ◌▸◌, call, write, spaced, pump, expect, eat}
use Rattle.paths.specs.Attribute.{attributes, modifiers}
use Rattle.paths.specs.Path.{path}
use Rattle.bodies.specs.Body.{item_struct, item_enum}
use Rattle.uses.specs.Use.{item_use}
use Rattle.parts.specs.Spaced.{word, between}
use Rattle.parts.specs.Args.{args_of, let_pat}

unfoldable pub fn_head : List Record → Stream → Flow Stream
fn_head rs = expect rs Kind.Fn write ▸ eat rs Kind.Ident spaced ▸ args_of rs ▸ call Ws

unfoldable pub impl_head : List Record → Stream → Flow Stream
impl_head rs = word rs (byte_of Kind.Impl) ▸ expect rs Kind.Path (path rs 64) ▸ call Ws

unfoldable pub mod_head : List Record → Stream → Flow Stream
mod_head rs = word rs (byte_of Kind.Mod) ▸ pump write

-- the word `const` stands in its modifiers
unfoldable pub const_head : List Record → Stream → Flow Stream
const_head rs = pump write ▸ between rs (byte_of Kind.Eq)

-- by the byte of the item's kind; a module's is left. A struct, an enum and a use are whole with it
unfoldable pub item_head : List Record → ℕ → Stream → Flow Stream
item_head rs kind =
    cond (eqb kind (byte_of Kind.ItemStruct)) (item_struct rs)
    (cond (eqb kind (byte_of Kind.ItemEnum)) (item_enum rs)
    (cond (eqb kind (byte_of Kind.ItemFn)) (fn_head rs)
    (cond (eqb kind (byte_of Kind.ItemUse)) (item_use rs)
    (cond (eqb kind (byte_of Kind.ItemImpl)) (impl_head rs)
    (cond (eqb kind (byte_of Kind.ItemConst)) (const_head rs)
    (mod_head rs))))))

-- a local's has attributes and modifiers, a condition's has not
abbrev pub let_head : List Record → Bool → Stream → Flow Stream
let_head rs true = attributes rs ▸ modifiers rs ▸ let_pat rs
let_head rs false = let_pat rs
