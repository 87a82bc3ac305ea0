-- Patterns, and the arguments of a function: format.rs 238 to 385, 507 to 552, 1575 to 1599. Assumes nothing.
use Rattle.std.specs.Prelude.{ℕ, zero, suc, Bool, true, false, not, cond, List}
use Rattle.tree.specs.declared.record.Record.{Record}
use Rattle.tree.specs.declared.record.RecordNo.{RecordNo}
use Rattle.kinds.specs.declared.Kind.{Kind}
use Rattle.meaning.specs.declared.call.Hint.TheVariants.{Infix}
use Rattle.meaning.specs.declared.call.Call.TheVariants.{Comments, Ws}
use Rattle.meaning.specs.declared.answer.Refusal.TheVariants.{TreeDeep, WrongKind}
use Rattle.meaning.specs.Plan.{Plan, nothing, make, refuse, ◌then◌}
use Rattle.steps.specs.declared.remaining.Mark.TheVariants.{Comma, CloseBrace}
use Rattle.walk.specs.Stream.{Stream, next_is}
use Rattle.walk.specs.Flow.{Flow, flow, ◌▸◌, plain, call, write, pump, expect, eat, if_next, either, is, parse}
use Rattle.walk.specs.Loop.{loop}
use Rattle.steps.specs.Remaining.{Remaining, fmt, ignore, says, remaining, put_remaining}
use Rattle.steps.specs.Items.{Place, items, list, listed, suffix}
use Rattle.steps.specs.declared.items.Few.{Few}
use Rattle.steps.specs.declared.items.Few.TheVariants.{Zero, One, Many}
use Rattle.paths.specs.Path.{path}

-- ---- lists of patterns

unfoldable pub pat_or_dots : List Record → ℕ → Bool
pat_or_dots rs = either (is rs Kind.Pat) (is rs Kind.DotDot)

unfoldable pub pat_item : List Record → (RecordNo → Plan) → RecordNo → Plan
pat_item rs pat k = cond (is rs Kind.DotDot k.0) (write k) (pat k)

unfoldable pub pat_array : List Record → (RecordNo → Plan) → Stream → Flow Stream
pat_array rs pat = expect rs Kind.OpenBracket write ▸ list rs (pat_or_dots rs) (pat_item rs pat) ▸ expect rs Kind.CloseBracket write

-- the comma behind a single item stays, where no path stands in front; comments of a tuple without items
abbrev pub tuple_end : Bool → Few → Remaining → Plan
tuple_end trailing Zero comma = ignore comma then make (Comments Infix)
tuple_end true One comma = fmt comma
tuple_end false One comma = ignore comma
tuple_end trailing Many comma = ignore comma

unfoldable pub tupled : Bool → Place → Flow Stream
tupled trailing s = flow (tuple_end trailing s.count s.comma) s.rest

unfoldable pub tuple_rule : List Record → (RecordNo → Plan) → Bool → Stream → Flow Stream
tuple_rule rs pat trailing =
    expect rs Kind.OpenParenthesis write ▸ items rs (pat_or_dots rs) (listed (pat_item rs pat)) suffix ▸ tupled trailing ▸ expect rs Kind.CloseParenthesis write

-- with its path, if it has one
unfoldable pub pat_tuple : List Record → (RecordNo → Plan) → Stream → Flow Stream
pat_tuple rs pat s = (eat rs Kind.Path (path rs 64) ▸ tuple_rule rs pat (not (next_is (is rs Kind.Path) s))) s

-- ---- objects

unfoldable pub object_name : List Record → Stream → Flow Stream
object_name rs = if_next (is rs Kind.AnonymousObjectKey) (expect rs Kind.AnonymousObjectKey write) (expect rs Kind.Path (path rs 64) ▸ call Ws)

unfoldable pub is_key : List Record → ℕ → Bool
is_key rs k = is rs Kind.ObjectKey k

unfoldable pub key_or_dots : List Record → ℕ → Bool
key_or_dots rs = either (is_key rs) (is rs Kind.DotDot)

-- a colon and a pattern behind a key
unfoldable pub colon_pat : List Record → (RecordNo → Plan) → Stream → Flow Stream
colon_pat rs pat = if_next (is rs Kind.Colon) (pump write ▸ call Ws ▸ expect rs Kind.Pat pat) (plain nothing)

unfoldable pub object_item : List Record → (RecordNo → Plan) → Stream → Flow Stream
object_item rs pat = if_next (is_key rs) (pump write ▸ colon_pat rs pat) (expect rs Kind.DotDot write)

unfoldable pub keyed : List Record → (RecordNo → Plan) → Remaining → Stream → Flow Stream
keyed rs pat comma = plain (fmt comma then make Ws) ▸ object_item rs pat

abbrev pub silent : Remaining → Plan
silent comma = nothing

-- behind the last key: a space, or comments where there is none
unfoldable pub object_closing : Remaining → Plan
object_closing comma = ignore comma then cond (says comma) (make Ws) (make (Comments Infix))

unfoldable pub object_end : Place → Flow Stream
object_end s = flow (object_closing s.comma) s.rest

unfoldable pub pat_object : List Record → (RecordNo → Plan) → Stream → Flow Stream
pat_object rs pat = object_name rs ▸ expect rs Kind.OpenBrace write ▸ items rs (key_or_dots rs) (keyed rs pat) silent ▸ object_end ▸ put_remaining rs CloseBrace

-- ---- one pattern

-- attributes in front of a pattern stay on its line
unfoldable pub pat_attributes : List Record → Stream → Flow Stream
pat_attributes rs = loop (λ (s : Stream). s) (is rs Kind.Attribute) (pump write ▸ call Ws)

unfoldable pub pat_lit : List Record → Stream → Flow Stream
pat_lit rs = eat rs Kind.Dash write ▸ pump write

-- the child's kind names the rule; a leaf `..` or `_` is written, another kind is refusal 8
unfoldable pub pat_child : List Record → (RecordNo → Plan) → RecordNo → Plan
pat_child rs pat k =
    cond (is rs Kind.Lit k.0) (parse rs (pat_lit rs) k)
    (cond (is rs Kind.PatIgnore k.0) (write k)
    (cond (is rs Kind.DotDot k.0) (write k)
    (cond (is rs Kind.Path k.0) (path rs 64 k)
    (cond (is rs Kind.PatArray k.0) (parse rs (pat_array rs pat) k)
    (cond (is rs Kind.PatTuple k.0) (parse rs (pat_tuple rs pat) k)
    (cond (is rs Kind.PatObject k.0) (parse rs (pat_object rs pat) k)
    (refuse (WrongKind k))))))))

-- the number bounds how often a pattern may stand in another: 64 is enough for every tree that is opened
unfoldable pub pat : List Record → ℕ → RecordNo → Plan
pat rs zero k = refuse (TreeDeep k)
pat rs (suc d) k = parse rs (pat_attributes rs ▸ pump (pat_child rs (pat rs d))) k

-- ---- the arguments of a function

-- a comma in front of the first is passed over
unfoldable pub no_comma : List Record → Stream → Flow Stream
no_comma rs s = let z = remaining rs Comma s in flow (z.plan then ignore z.token) z.rest

unfoldable pub fn_args : List Record → Stream → Flow Stream
fn_args rs = expect rs Kind.OpenParenthesis write ▸ no_comma rs ▸ list rs (is rs Kind.Pat) (pat rs 64) ▸ expect rs Kind.CloseParenthesis write
