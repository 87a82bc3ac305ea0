-- Plans that refuse by record numbers only: each refusal that a plan gives of its own has a record as its place. Assumes nothing.
use Rattle.steps.proofs.Rules.{TreeDeep, WrongKind, Plan, nothing, make, refuse, ◌then◌}
use Rattle.meaning.specs.declared.answer.Refusal.{Refusal}
use Rattle.meaning.specs.declared.answer.Refusal.TheVariants.{SourceLong, SourceIll, TreeBad, NoRoom, QueueFull, IndentOut, NoRule, Finished, NoNode}
use Rattle.meaning.specs.declared.answer.Refusal.TheVariants.{BadCall}

-- the place of the refusal is a record number
abbrev pub ByRecord : Refusal → Type 0
ByRecord SourceLong = ⊥
ByRecord (SourceIll p) = ⊥
ByRecord (TreeBad k) = Unit {0}
ByRecord (NoRoom n) = ⊥
ByRecord (QueueFull k) = Unit {0}
ByRecord (IndentOut n) = ⊥
ByRecord (TreeDeep k) = Unit {0}
ByRecord (WrongKind k) = Unit {0}
ByRecord (NoRule k) = Unit {0}
ByRecord (Finished n) = ⊥
ByRecord (NoNode k) = Unit {0}
ByRecord (BadCall n) = ⊥

-- each refusal of the plan has such a place; what a call refuses is not the plan's
abbrev pub Tame : Plan → Type 0
Tame nothing = Unit {0}
Tame (make c) = Unit {0}
Tame (refuse r) = ByRecord r
Tame (p then q) = Tame p × Tame q
