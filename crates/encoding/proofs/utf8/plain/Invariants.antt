use Rattle.encoding.specs.Utf8.{all_plain}
use lib.Dec.{ltb}
use lib.ListN.{drop}
use mathlib.Core.Bool.{◌&&◌}
use mathlib.Core.Path.{◌≡◌}
use Rattle.encoding.proofs.utf8.plain.Given as goal

abbrev pub invariant-loop-b : goal.invariant-loop-b
invariant-loop-b l = ltb l.all 0x80 && all_plain (drop l.b-index l.s) ≡ all_plain l.s
