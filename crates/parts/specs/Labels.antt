-- Labels, and all that may stand in front of an expression: format.rs 54 to 62, 560 to 573. Assumes nothing.
use Rattle.std.specs.Prelude.{Bool, ◌||◌, List}
use Rattle.tree.specs.declared.record.Record.{Record}
use Rattle.kinds.specs.declared.Kind.{Kind}
use Rattle.meaning.specs.declared.call.Call.TheVariants.{Ws}
use Rattle.steps.specs.declared.remaining.Mark.TheVariants.{Colon}
use Rattle.walk.specs.Stream.{Stream, next_is}
use Rattle.walk.specs.Flow.{Flow, ◌▸◌, call, write, pump, is}
use Rattle.walk.specs.Loop.{loop}
use Rattle.steps.specs.Remaining.{put_remaining}
use Rattle.paths.specs.Attribute.{modifiers}
use Rattle.patterns.specs.Pattern.{pat_attributes}

-- each with its colon
unfoldable pub expr_labels : List Record → Stream → Flow Stream
expr_labels rs = loop (λ (s : Stream). s) (is rs Kind.Label) (pump write ▸ put_remaining rs Colon ▸ call Ws)

-- one of the three is next
unfoldable pub preceded : List Record → Stream → Bool
preceded rs s = next_is (is rs Kind.Attribute) s || next_is (is rs Kind.Modifiers) s || next_is (is rs Kind.Label) s

-- attributes stay on the expression's line, as a pattern's do
unfoldable pub before_expr : List Record → Stream → Flow Stream
before_expr rs = pat_attributes rs ▸ modifiers rs ▸ expr_labels rs
