-- Uses: format.rs 1464 to 1542. Assumes nothing.
use Rattle.std.specs.Prelude.{ℕ, zero, suc, Bool, true, false, not, cond, List, [], ◌∷◌}
use Rattle.tree.specs.declared.record.Record.{Record}
use Rattle.tree.specs.declared.record.RecordNo.{RecordNo}
use Rattle.kinds.specs.declared.Kind.{Kind}
use Rattle.meaning.specs.declared.call.Call.TheVariants.{Ws}
use Rattle.meaning.specs.declared.answer.Refusal.TheVariants.{TreeDeep}
use Rattle.meaning.specs.Plan.{Plan, nothing, refuse}
use Rattle.walk.specs.Stream.{Stream}
use Rattle.walk.specs.Flow.{Flow, flow, ◌▸◌, plain, call, write, spaced, ignored, pump, expect, eat, if_next, is, parse}
use Rattle.walk.specs.Loop.{loop}
use Rattle.steps.specs.Items.{more, list}
use Rattle.steps.specs.declared.items.Few.{Few}
use Rattle.steps.specs.declared.items.Few.TheVariants.{Zero, One, Many}

unfoldable pub use_part : List Record → (RecordNo → Plan) → RecordNo → Plan
use_part rs group k = cond (is rs Kind.ItemUseGroup k.0) (group k) (write k)

-- `as` and a name, or `as` alone; what stands behind is left over
unfoldable pub as_name : List Record → Stream → Flow Stream
as_name rs = if_next (is rs Kind.As) (call Ws ▸ pump write ▸ eat rs Kind.Ident spaced) (plain nothing)

-- as far as `as`
unfoldable pub use_parts : List Record → (RecordNo → Plan) → Stream → Flow Stream
use_parts rs group = loop (λ (s : Stream). s) (λ (k : ℕ). not (is rs Kind.As k)) (pump (use_part rs group))

unfoldable pub use_path_rule : List Record → (RecordNo → Plan) → Stream → Flow Stream
use_path_rule rs group = use_parts rs group ▸ as_name rs

-- how many there are: none, one, or more
unfoldable pub how_many : (ℕ → Bool) → List ℕ → Few
how_many want [] = Zero
how_many want (k ∷ ks) = cond (want k) (more (how_many want ks)) (how_many want ks)

abbrev pub is_one : Few → Bool
is_one Zero = false
is_one One = true
is_one Many = false

-- the braces of a group of one path are not written
unfoldable pub braced : Bool → RecordNo → Plan
braced single k = cond single (ignored k) (write k)

unfoldable pub group_rule : List Record → (RecordNo → Plan) → Stream → Flow Stream
group_rule rs path s =
    let brace = braced (is_one (how_many (is rs Kind.ItemUsePath) s.left)) in
    (expect rs Kind.OpenBrace brace ▸ list rs (is rs Kind.ItemUsePath) path ▸ expect rs Kind.CloseBrace brace) s

-- the number bounds how often a group may stand in another: 64 is enough for every tree that is opened
unfoldable pub use_path : List Record → ℕ → Stream → Flow Stream
use_path rs zero s = flow (refuse (TreeDeep s.node)) s
use_path rs (suc d) s = use_path_rule rs (parse rs (group_rule rs (parse rs (use_path rs d)))) s

unfoldable pub use_group : List Record → ℕ → RecordNo → Plan
use_group rs d = parse rs (group_rule rs (parse rs (use_path rs d)))

unfoldable pub item_use : List Record → Stream → Flow Stream
item_use rs = expect rs Kind.Use write ▸ call Ws ▸ use_path rs 64
