-- `loose::reason::is_entry` meets its contract. Assumes nothing.
use Rattle.loose.specs.Reason.{is_entry}
use Rattle.text.proofs.Base.{ne_eqb}
use Rattle.kinds.specs.Facts.{byte_of, facts_of}
use Rattle.loose.proofs.reason.is_entry.Goals as goal

pub returns-then-keys : goal.returns-then-keys
unfolding is_entry byte_of facts_of
returns-then-keys c = rw c.if-keys.true

pub returns-then-kind-eq-EXPR : goal.returns-then-kind-eq-EXPR
unfolding is_entry byte_of facts_of
returns-then-kind-eq-EXPR c = rw (c.if-keys.false, c.if-kind-eq-EXPR.true)

pub returns-else-kind-eq-EXPR : goal.returns-else-kind-eq-EXPR
unfolding is_entry byte_of facts_of
returns-else-kind-eq-EXPR c = rw (c.if-keys.false, ne_eqb _ _ c.if-kind-eq-EXPR.false)
