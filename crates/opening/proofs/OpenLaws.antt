-- Opening, by what was found of the source and of the tree. Assumes nothing.
use mathlib.Core.Path.{◌≡◌, sym, ap, ap₂, ◌∙◌}
use Prim.Native.Nat.{ℕ}
use mathlib.Core.List.{List}
use Rattle.std.specs.Prelude.{Ok, Err}
use Rattle.text.specs.declared.source.Unfit.{Unfit}
use Rattle.text.specs.Source.{Checked}
use Rattle.text.specs.Source as source-check
use Rattle.opening.specs.Check.{Verdict, checked}
use Rattle.opening.specs.Opening.{of_tree, of_unfit, of_source, opened}

module _ (src list : List ℕ) where
  pub by_tree : {s : Checked} {t t' : Verdict} → s ≡ source-check.checked src → s ≡ Ok tt → t ≡ checked src list → t ≡ t' → of_tree t' ≡ opened src list
  unfolding opened
  by_tree e g f h = ap₂ of_source (sym g ∙ e) (sym h ∙ f)

  pub by_source : {s : Checked} {f : Unfit} → s ≡ source-check.checked src → s ≡ Err f → Err (of_unfit f) ≡ opened src list
  unfolding opened
  by_source e g = ap (λ (k : Checked). of_source k (checked src list)) (sym g ∙ e)
