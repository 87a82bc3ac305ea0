-- An operator sees a number from 1 to 12 for every refusal, and 0 for none. Assumes nothing.
use Rattle.std.specs.Prelude.{Ok}
use mathlib.Core.Path.{◌≡◌, refl}
use Prim.Native.Nat.{ℕ}
use mathlib.Core.List.{List}
use mathlib.Core.Bool.{◌&&◌}
use lib.Dec.{T, leb}
use Rattle.text.specs.declared.source.Unfit.TheVariants as source
use Rattle.text.specs.Source.{Good, Checked}
use Rattle.text.specs.Source as source-check
use Rattle.opening.specs.declared.levels.Fault.TheVariants as tree
use Rattle.opening.specs.Check.{Verdict}
use Rattle.opening.specs.Opening.{Opening}
use Rattle.std.specs.Prelude.{Ok, Err}
use Rattle.opening.specs.declared.open.Unopened.TheVariants as found
use Rattle.opening.specs.Check as tree-check
use Rattle.opening.specs.Opening as tree-open
use Rattle.meaning.specs.declared.answer.Refusal.{Refusal}
use Rattle.meaning.specs.declared.answer.Refusal.TheVariants.{SourceLong, SourceIll, TreeBad, NoRoom, QueueFull, IndentOut, TreeDeep, WrongKind, NoRule, Finished, NoNode, BadCall}
use Rattle.meaning.specs.Opening.{answer_to, opening}
use Rattle.meaning.specs.Numbers.{◌from◌, refusal_seen, seen}

pub one_to_twelve : (r : Refusal) → T (leb 1 (refusal_seen r).number && leb (refusal_seen r).number 12)
one_to_twelve SourceLong = tt
one_to_twelve (SourceIll p) = tt
one_to_twelve (TreeBad i) = tt
one_to_twelve (NoRoom len) = tt
one_to_twelve (QueueFull i) = tt
one_to_twelve (IndentOut indent) = tt
one_to_twelve (TreeDeep i) = tt
one_to_twelve (WrongKind i) = tt
one_to_twelve (NoRule i) = tt
one_to_twelve (Finished len) = tt
one_to_twelve (NoNode k) = tt
one_to_twelve (BadCall p) = tt

pub done_is_zero : (seen (Ok tt)).number ≡ 0
done_is_zero = refl

-- ---- what opening refuses is seen by the numbers and places that `text` and `tree` give for it

-- of a source: 1 at 65,536, and 2
pub source_seen : (c : Checked) (v : Verdict) → (c ≡ Good → ⊥) → seen (answer_to (tree-open.of_source c v)) ≡ source-check.number_of c from source-check.place_of c
source_seen (Ok u) v bad = absurd (bad refl)
source_seen (Err source.Long) v bad = refl
source_seen (Err (source.Ill p)) v bad = refl

-- of a tree: 3 and 7
pub tree_seen : (v : Verdict) → seen (answer_to (tree-open.of_tree v)) ≡ tree-check.number_of v from tree-check.place_of v
tree_seen (Ok n) = refl
tree_seen (Err (tree.Bad i)) = refl
tree_seen (Err (tree.Deep i)) = refl

opening_as : (o : Opening) → seen (answer_to o) ≡ tree-open.number_of o from tree-open.place_of o
opening_as (Ok n) = refl
opening_as (Err found.SourceLong) = refl
opening_as (Err (found.SourceIll p)) = refl
opening_as (Err (found.TreeBad i)) = refl
opening_as (Err (found.TreeDeep i)) = refl

-- so of a source and a tree in bytes
pub opening_seen : (src list : List ℕ) → seen (opening src list) ≡ tree-open.number_of (tree-open.opened src list) from tree-open.place_of (tree-open.opened src list)
opening_seen src list = opening_as (tree-open.opened src list)
