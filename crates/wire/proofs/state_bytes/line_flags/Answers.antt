-- `wire::state_bytes::line_flags` meets its contract. Assumes nothing.
use Rattle.std.proofs.Common.{◌+◌, arith, rules, tests}
use mathlib.Core.Path.{◌∙◌}
use Rattle.std.proofs.lemmas.Iterator.{YieldsList-from_range, serves_from_Range}
use Rattle.std.proofs.lemmas.Iterator.Search.{all_from_yields_List}
use Rattle.wire.specs.StateBytes.{is_flag, comment_word}
use Rattle.wire.proofs.StateLaws.{flags_list}
use Rattle.wire.proofs.state_bytes.line_flags.Goals as goal

pub all-requires : goal.all-requires
all-requires c = record { can = tt; finite = tt; callable = serves_from_Range (λ x q k. search (rules, tests)) (λ x low high. search rules) }

pub returns : goal.returns
returns c =
    all_from_yields_List (λ k. is_flag c.args.state.now (comment_word k + 3)) _ _ _ c.all.ensures.ran
    (YieldsList-from_range 0 c.args.n c.args.n (cc) (omega arith)) (λ x b q k. search (rules, tests))
    ∙ flags_list c.args.state.now 0 c.args.n
