-- Attributes on a small tree, computed by antt: no run reaches them before blocks are here. Assumes nothing.
use mathlib.Core.Path.{◌≡◌, refl}
use Prim.Native.Nat.{ℕ}
use mathlib.Core.Bool.{true}
use mathlib.Core.List.{List, [], ◌∷◌}
use Rattle.tree.specs.declared.record.Record.{Record}
use Rattle.tree.specs.Records.{span_of}
use Rattle.tree.specs.Table.{node_of}
use Rattle.tree.specs.Cursor.{siblings, shown, passes, kept, behind}
use Rattle.kinds.specs.Facts.{facts_of, byte_of}
use Rattle.meaning.specs.declared.call.Call.{Call}
use Rattle.meaning.specs.declared.call.Call.TheVariants.{WriteOwned, Nl}
use Rattle.meaning.specs.Plan.{calls_of}
use Rattle.walk.specs.Stream.{Stream, stream, no, records_of, take_if}
use Rattle.walk.specs.Flow.{Flow, ◌▸◌, plain, on_found, pump}
use Rattle.walk.specs.Loop.{turns, loop}
use Rattle.paths.specs.Attribute.{on_lines, attributes, inner_attributes}

record_of : ℕ → ℕ → Record
record_of kind below = record { whole = true; kind = kind; span = span_of 0 0; below = below }

-- a node with two attributes, each of them one token and the second behind a comment, and a token behind them; 82 is an attribute, 83 an inner one
pub tree : ℕ → List Record
tree attr =
    record_of 0x80 7
    ∷ record_of attr 1
    ∷ record_of 0x03 0
    ∷ record_of 0x00 0
    ∷ record_of 0x01 0
    ∷ record_of attr 1
    ∷ record_of 0x03 0
    ∷ record_of 0x03 0
    ∷ []

pub records : ℕ → Stream
records attr = records_of (tree attr) (no 0)

-- each is written whole, with `nl(1)` behind it
pub both : List Call
both = WriteOwned (no 1) ∷ Nl 1 ∷ WriteOwned (no 5) ∷ Nl 1 ∷ []

-- the calls that a step makes at s, and what it leaves there
pub record Does (f : Stream → Flow Stream) (s : Stream) (cs : List Call) (left : List ℕ) : Type 0 where
  pub calls : calls_of (f s).plan ≡ cs
  pub rest : (f s).rest ≡ stream (no 0) left

pub attributes_written : Does (attributes (tree 0x82)) (records 0x82) both (7 ∷ [])
unfolding record_of tree records both node_of siblings shown passes kept behind facts_of byte_of take_if ◌▸◌ plain on_found pump turns loop on_lines attributes
attributes_written = record { calls = refl; rest = refl }

pub inner_written : Does (inner_attributes (tree 0x83)) (records 0x83) both (7 ∷ [])
unfolding record_of tree records both node_of siblings shown passes kept behind facts_of byte_of take_if ◌▸◌ plain on_found pump turns loop on_lines inner_attributes
inner_written = record { calls = refl; rest = refl }

-- neither takes the other's
pub inner_left : Does (attributes (tree 0x83)) (records 0x83) [] (1 ∷ 5 ∷ 7 ∷ [])
unfolding record_of tree records node_of siblings shown passes kept behind facts_of byte_of take_if ◌▸◌ plain on_found pump turns loop on_lines attributes
inner_left = record { calls = refl; rest = refl }

pub outer_left : Does (inner_attributes (tree 0x82)) (records 0x82) [] (1 ∷ 5 ∷ 7 ∷ [])
unfolding record_of tree records node_of siblings shown passes kept behind facts_of byte_of take_if ◌▸◌ plain on_found pump turns loop on_lines inner_attributes
outer_left = record { calls = refl; rest = refl }
