-- Attributes and modifiers: format.rs 64 to 134. Assumes nothing.
use Rattle.std.specs.Prelude.{ℕ, Bool, true, cond, ◌||◌, List}
use Rattle.tree.specs.declared.record.Record.{Record}
use Rattle.tree.specs.declared.record.RecordNo.{RecordNo}
use Rattle.kinds.specs.declared.Kind.{Kind}
use Rattle.meaning.specs.declared.call.Hint.TheVariants.{Infix}
use Rattle.meaning.specs.declared.call.Call.TheVariants.{Comments, Nl, Ws}
use Rattle.meaning.specs.declared.answer.Refusal.TheVariants.{WrongKind}
use Rattle.meaning.specs.Plan.{Plan, nothing, make, refuse, ◌then◌}
use Rattle.walk.specs.Stream.{Stream}
use Rattle.walk.specs.Flow.{Flow, ◌▸◌, call, write, pump, expect, eat, is, parse}
use Rattle.walk.specs.Loop.{loop}
use Rattle.steps.specs.Seen.{each, lastly}
use Rattle.paths.specs.Path.{path}

-- ---- attributes, each on a line of its own

-- those of one kind that are next
unfoldable pub on_lines : List Record → Kind → Stream → Flow Stream
on_lines rs kind = loop (λ (s : Stream). s) (is rs kind) (pump write ▸ call (Nl 1))

unfoldable pub attributes : List Record → Stream → Flow Stream
attributes rs = on_lines rs Kind.Attribute

unfoldable pub inner_attributes : List Record → Stream → Flow Stream
inner_attributes rs = on_lines rs Kind.InnerAttribute

-- ---- modifiers

-- (super), (self), (crate)
unfoldable pub modifier_word : List Record → Stream → Flow Stream
modifier_word rs = expect rs Kind.OpenParenthesis write ▸ call (Comments Infix) ▸ pump write ▸ call (Comments Infix) ▸ expect rs Kind.CloseParenthesis write

-- (in path)
unfoldable pub modifier_in : List Record → Stream → Flow Stream
modifier_in rs = expect rs Kind.OpenParenthesis write ▸ expect rs Kind.In write ▸ call Ws ▸ expect rs Kind.Path (path rs 64) ▸ expect rs Kind.CloseParenthesis write

-- a space, where something stood before
unfoldable pub apart : Bool → Plan
apart any = cond any (make Ws) nothing

unfoldable pub is_word : List Record → ℕ → Bool
is_word rs k = is rs Kind.ModifierSuper k || is rs Kind.ModifierSelf k || is rs Kind.ModifierCrate k

unfoldable pub modifier : List Record → Bool → RecordNo → Plan
modifier rs any k =
    cond (is_word rs k.0) (parse rs (modifier_word rs) k)
    (cond (is rs Kind.ModifierIn k.0) (parse rs (modifier_in rs) k)
    (cond (is rs Kind.Error k.0) (refuse (WrongKind k))
    (apart any then write k)))

abbrev pub next_modifier : List Record → Bool → Stream → Flow Stream
next_modifier rs any = pump (modifier rs any)

-- and a space behind the last
unfoldable pub modifier_list : List Record → Stream → Flow Stream
modifier_list rs = each (λ (k : ℕ). true) (next_modifier rs) ▸ lastly apart

unfoldable pub modifiers : List Record → Stream → Flow Stream
modifiers rs = eat rs Kind.Modifiers (parse rs (modifier_list rs))
