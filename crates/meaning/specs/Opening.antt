-- What opening answers to a source and a tree in bytes, and the script that they are. Assumes nothing.
use Rattle.std.specs.Prelude.{ℕ, List, Ok, Err}
use Rattle.opening.specs.declared.open.Unopened.{Unopened}
use Rattle.opening.specs.declared.open.Unopened.TheVariants as found
use Rattle.opening.specs.Opening.{Opening, opened}
use Rattle.tree.specs.Records.{records}
use Rattle.meaning.specs.declared.answer.Refusal.{Refusal}
use Rattle.meaning.specs.declared.answer.Refusal.TheVariants.{SourceLong, SourceIll, TreeBad, TreeDeep}
use Rattle.meaning.specs.Answer.{Answer}
use Rattle.meaning.specs.State.{Script}

abbrev pub script_in : List ℕ → List ℕ → Script
script_in src list = record { source = src; tree = records list }

-- 1, 2, 3, 7
abbrev pub of_unopened : Unopened → Refusal
of_unopened found.SourceLong = SourceLong
of_unopened (found.SourceIll p) = SourceIll p
of_unopened (found.TreeBad i) = TreeBad i
of_unopened (found.TreeDeep i) = TreeDeep i

abbrev pub answer_to : Opening → Answer
answer_to (Ok n) = Ok tt
answer_to (Err e) = Err (of_unopened e)

abbrev pub opening : List ℕ → List ℕ → Answer
opening src list = answer_to (opened src list)
