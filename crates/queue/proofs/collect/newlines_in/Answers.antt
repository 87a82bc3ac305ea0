-- `queue::collect::newlines_in` meets its contract. Assumes nothing.
use Rattle.text.proofs.Base.{◌∙◌, ◌≡◌, ap, arith}
use Rattle.queue.proofs.{GatherLaws.newlines_fit}
use Rattle.text.specs.{Span.text_of, Lines.newlines}
use Rattle.queue.proofs.collect.newlines_in.Goals as goal

pub overflow_cast-result : goal.overflow_cast-result
overflow_cast-result c =
    let e : c.count_newlines.result ≡ newlines (text_of c.args.src.now c.args.span) = c.count_newlines.ensures
    ∙ ap newlines c.part.ensures in
    omega (arith, newlines_fit c.args.src.now c.args.span)
