-- `reasons::why::of_object` meets its contract. Assumes nothing.
use Rattle.lent.specs.View.{script_of}
use Rattle.text.proofs.Base.{◌∙◌, ap, sym}
use Rattle.reasons.specs.Why.{of_first}
use Rattle.reasons.proofs.WhyLaws.{by_first}
use Rattle.reasons.proofs.why.of_object.Goals as goal

pub returns-in-Some : goal.returns-in-Some
unfolding of_first
returns-in-Some c = by_first (script_of c.args.src.now c.args.table.now) c.args.k c.children_of.ensures c.peek-f.ensures (c.of_named.ensures ∙ ap (of_first (script_of c.args.src.now c.args.table.now) c.args.k) (sym c.in-Some.is))

pub returns-in-None : goal.returns-in-None
unfolding of_first
returns-in-None c = by_first (script_of c.args.src.now c.args.table.now) c.args.k c.children_of.ensures c.peek-f.ensures (ap (of_first (script_of c.args.src.now c.args.table.now) c.args.k) (sym c.in-None.is))
