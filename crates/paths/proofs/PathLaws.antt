-- Laws of paths: by the depth that is left, and by a part's kind. Assumes nothing.
use Rattle.lent.specs.declared.formatter.Formatter.{Formatter}
use Rattle.steps.proofs.Rules.{◌≡◌, refl, List, ℕ, zero, suc, ◌-◌, arith, Record, RecordNo, TreeDeep, Script, refuse, Engine, engine, Makes, Refuses}
use Rattle.steps.proofs.Rules.{parse}
use Rattle.paths.specs.Path.{path_rule, path, path_generics}

module _ {x : Script} (rs : List Record) (k : RecordNo) where
  pub path_none : {d : ℕ} {w w' : Formatter} {q b : List ℕ} → d ≡ 0 → Refuses (refuse (TreeDeep k)) w w' → Makes x (path rs d k) (engine w q b) (engine w' q b)
  unfolding path
  path_none e h = rw e (h.ran x _ _)

  pub path_some : (d : ℕ) {e e' : Engine} → (d ≡ 0 → ⊥) → Makes x (parse rs (path_rule rs (path_generics rs (d - 1))) k) e e' → Makes x (path rs d k) e e'
  unfolding path path_generics
  path_some zero e h = absurd (e refl)
  path_some (suc d) e h = let z : suc d - 1 ≡ d = omega arith in rw z at h
