-- `parts::leads::jump_word` meets its contract. Assumes nothing.
use Rattle.parts.specs.Leads.{jump_word}
use Rattle.steps.proofs.Rules.{◌▹◌, byte_of, facts_of, ne_eqb}
use Rattle.parts.proofs.leads.jump_word.Goals as goal

pub returns-in-210 : goal.returns-in-210
unfolding jump_word byte_of facts_of
returns-in-210 c = rw c.in-210.is (c.token.ensures ▹ c.jump_labels.ensures)

pub returns-in-211 : goal.returns-in-211
unfolding jump_word byte_of facts_of
returns-in-211 c = rw c.in-211.is (c.token-in-211.ensures ▹ c.jump_labels-in-211.ensures)

pub returns-in-212 : goal.returns-in-212
unfolding jump_word byte_of facts_of
returns-in-212 c = rw c.in-212.is c.token-in-212.ensures

pub returns-in_default : goal.returns-in_default
unfolding jump_word byte_of facts_of
returns-in_default c = rw (ne_eqb _ _ c.in_default.in_default-own.rest.0.0.1, ne_eqb _ _ c.in_default.in_default-own.rest.0.1, ne_eqb _ _ c.in_default.in_default-own.rest.1) c.token-in_default.ensures
