-- `parts::args::arm_pat` meets its contract. Assumes nothing.
use Rattle.parts.proofs.args.arm_pat.Goals as goal

pub returns-then-in_match : goal.returns-then-in_match
returns-then-in_match c = rw c.if-in_match.true c.case_pat.ensures

pub returns : goal.returns
returns c = rw c.if-in_match.false c.default_or_pat.ensures
