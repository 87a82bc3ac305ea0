-- What opening finds: 1, 2, then the records in order, 3 before 7 in each. Assumes nothing.
use Rattle.std.specs.Prelude.{ℕ, List, Result, Ok, Err}
use Rattle.text.specs.declared.source.Unfit.{Unfit}
use Rattle.text.specs.declared.source.Unfit.TheVariants as source
use Rattle.text.specs.Source.{Checked}
use Rattle.text.specs.Source as source-check
use Rattle.tree.specs.declared.record.RecordNo.{RecordNo}
use Rattle.opening.specs.declared.levels.Fault.{Fault}
use Rattle.opening.specs.declared.levels.Fault.TheVariants as tree
use Rattle.opening.specs.declared.open.Unopened.{Unopened}
use Rattle.opening.specs.declared.open.Unopened.TheVariants.{SourceLong, SourceIll, TreeBad, TreeDeep}
use Rattle.opening.specs.Check.{Verdict, checked}

-- so many records of a good tree, or what is refused
abbrev pub Opening : Type 0
Opening = Result RecordNo Unopened

abbrev pub of_fault : Fault → Unopened
of_fault (tree.Bad i) = TreeBad i
of_fault (tree.Deep i) = TreeDeep i

abbrev pub of_unfit : Unfit → Unopened
of_unfit source.Long = SourceLong
of_unfit (source.Ill p) = SourceIll p

abbrev pub of_tree : Verdict → Opening
of_tree (Ok n) = Ok n
of_tree (Err e) = Err (of_fault e)

-- the tree counts only where the source is good
abbrev pub of_source : Checked → Verdict → Opening
of_source (Ok u) t = of_tree t
of_source (Err e) t = Err (of_unfit e)

unfoldable pub opened : List ℕ → List ℕ → Opening
opened src list = of_source (source-check.checked src) (checked src list)

-- document 01's number of the refusal, 0 where there is none, and its place
abbrev pub number_of : Opening → ℕ
number_of (Ok n) = 0
number_of (Err SourceLong) = 1
number_of (Err (SourceIll p)) = 2
number_of (Err (TreeBad i)) = 3
number_of (Err (TreeDeep i)) = 7

abbrev pub place_of : Opening → ℕ
place_of (Ok n) = 0
place_of (Err SourceLong) = 65536
place_of (Err (SourceIll p)) = p.0
place_of (Err (TreeBad i)) = i.0
place_of (Err (TreeDeep i)) = i.0
