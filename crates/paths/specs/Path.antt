-- Paths: format.rs 281 to 319. Assumes nothing.
use Rattle.std.specs.Prelude.{ℕ, zero, suc, true, cond, List}
use Rattle.tree.specs.declared.record.Record.{Record}
use Rattle.tree.specs.declared.record.RecordNo.{RecordNo}
use Rattle.kinds.specs.declared.Kind.{Kind}
use Rattle.meaning.specs.declared.answer.Refusal.TheVariants.{TreeDeep}
use Rattle.meaning.specs.Plan.{Plan, refuse}
use Rattle.walk.specs.Stream.{Stream}
use Rattle.walk.specs.Flow.{Flow, ◌▸◌, write, pump, expect, is, parse}
use Rattle.walk.specs.Loop.{loop}
use Rattle.steps.specs.Items.{list}

-- any node but generics is written whole
unfoldable pub path_part : List Record → (RecordNo → Plan) → RecordNo → Plan
path_part rs generics k = cond (is rs Kind.PathGenerics k.0) (generics k) (write k)

unfoldable pub path_rule : List Record → (RecordNo → Plan) → Stream → Flow Stream
path_rule rs generics = loop (λ (s : Stream). s) (λ (k : ℕ). true) (pump (path_part rs generics))

unfoldable pub generics_rule : List Record → (RecordNo → Plan) → Stream → Flow Stream
generics_rule rs path = expect rs Kind.Lt write ▸ list rs (is rs Kind.Path) path ▸ expect rs Kind.Gt write

-- the number bounds how often a path may stand in another: 64 is enough for every tree that is opened
unfoldable pub path : List Record → ℕ → RecordNo → Plan
path rs zero k = refuse (TreeDeep k)
path rs (suc d) k = parse rs (path_rule rs (parse rs (generics_rule rs (path rs d)))) k

unfoldable pub path_generics : List Record → ℕ → RecordNo → Plan
path_generics rs d = parse rs (generics_rule rs (path rs d))
