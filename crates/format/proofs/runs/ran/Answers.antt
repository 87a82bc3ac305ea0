-- `format::runs::ran` meets its contract. Assumes nothing.
use Rattle.entry.proofs.RunLaws.{serve_ran}
use Rattle.format.specs.Laid.{plan_of}
use Rattle.lent.specs.declared.formatter.Formatter.{Formatter}
use Rattle.meaning.specs.Opening.{script_in}
use Rattle.steps.proofs.Rules.{◌∙◌, ap, rules}
use Rattle.format.proofs.runs.ran.Goals as goal

pub run_in-requires : goal.run_in-requires
run_in-requires c = ap (λ (r : Formatter). r.answer) c.started-fmt.ensures ∙ c.opening.ensures

pub returns : goal.returns
returns c = serve_ran c.args.source.now c.args.tree.now c.args.s c.args.out.now (plan_of (script_in c.args.source.now c.args.tree.now) c.args.w) c.opening.ensures _ c.started-fmt.ensures _ _ _ c.run_in.ensures.out (search (rules, c.run_in.auto)) c.ended.ensures
