-- `reasons::why::why_at` meets its contract. Assumes nothing.
use Rattle.lent.specs.View.{script_of}
use Rattle.kinds.specs.Facts.{byte_of, facts_of}
use Rattle.text.proofs.Base.{arith}
use Rattle.reasons.proofs.WhyLaws.{no_node, a_list, an_object, neither}
use Rattle.reasons.proofs.why.why_at.Goals as goal

pub returns-then-size-k : goal.returns-then-size-k
returns-then-size-k c = no_node (script_of c.args.src.now c.args.table.now) c.args.k (omega (arith, c.size.ensures, c.if-size-k.true))

pub returns-then-is_list : goal.returns-then-is_list
returns-then-is_list c = a_list (script_of c.args.src.now c.args.table.now) c.args.k (omega (arith, c.size.ensures, c.if-size-k.false)) c.kind_at-kind.ensures c.is_list.ensures c.if-is_list.true c.children_of.ensures c.why_loose.ensures

pub returns-then-kind : goal.returns-then-kind
unfolding byte_of facts_of
returns-then-kind c = an_object (script_of c.args.src.now c.args.table.now) c.args.k (omega (arith, c.size.ensures, c.if-size-k.false)) c.kind_at-kind.ensures c.is_list.ensures c.if-is_list.false c.if-kind.true c.of_object.ensures

pub returns : goal.returns
unfolding byte_of facts_of
returns c = neither (script_of c.args.src.now c.args.table.now) c.args.k (omega (arith, c.size.ensures, c.if-size-k.false)) c.kind_at-kind.ensures c.is_list.ensures c.if-is_list.false c.if-kind.false
