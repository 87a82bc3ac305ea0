-- A run's rule, by the kind that was asked. Assumes nothing.
use Rattle.steps.proofs.Rules.{◌≡◌, ℕ, RecordNo, node_of, Script, Engine, Makes}
use Rattle.rules.specs.Rules.{rule_of, rule}

pub rule_kind : (x : Script) (k : RecordNo) {n : ℕ} {e e' : Engine} → n ≡ (node_of x.tree k.0).kind → Makes x (rule_of x n k) e e' → Makes x (rule x k) e e'
unfolding rule
rule_kind x k q m = rw (← q) m
