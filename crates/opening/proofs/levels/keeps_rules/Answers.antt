-- `opening::levels::keeps_rules` meets its contract: each test in turn. Assumes nothing.
use Rattle.opening.proofs.LevelLaws.{keeps_by}
use Rattle.text.specs.Chars.{in_source}
use mathlib.Core.Bool.{Bool, ◌&&◌}
use lib.Dec.{leb}
use Rattle.tree.specs.Records.{start_of, end_of}
use mathlib.Core.Path.{◌≡◌, ◌∙◌, ap, refl, sym}
use Rattle.opening.proofs.levels.keeps_rules.Goals as goal
use Rattle.opening.proofs.levels.keeps_rules.Goals.{then-r, else-r, then-r-n, else-r-n, then-lo-r, else-lo-r}

pub returns-then-r-hi : goal.returns-then-r-hi
returns-then-r-hi c =
    let a : c.if-r.value ≡ c.args.r.whole && leb c.args.r.below c.args.n.0 = elim c.if-r.branch [ then-r w ↦ w.value-is ∙ rw w.if-r.true | else-r w ↦ w.value-is ∙ rw w.if-r.false ] in
    let b : c.if-r-n.value ≡ c.if-r.value && leb c.args.lo.0 (start_of c.args.r) = elim c.if-r-n.branch [ then-r-n w ↦ w.value-is ∙ rw w.if-r-n.true | else-r-n w ↦ w.value-is ∙ rw w.if-r-n.false ] in
    let d : c.if-lo-r.value ≡ c.if-r-n.value && leb (end_of c.args.r) c.args.hi.0 = elim c.if-lo-r.branch [ then-lo-r w ↦ w.value-is ∙ rw w.if-lo-r.true | else-lo-r w ↦ w.value-is ∙ rw w.if-lo-r.false ] in
    ap (λ (t : Bool). t && c.in_source.result) (sym c.if-r-hi.true) ∙ keeps_by c.args.src.now c.args.lo.0 c.args.hi.0 c.args.n.0 c.args.r a b d c.in_source.ensures

pub returns-else-r-hi : goal.returns-else-r-hi
returns-else-r-hi c =
    let a : c.if-r.value ≡ c.args.r.whole && leb c.args.r.below c.args.n.0 = elim c.if-r.branch [ then-r w ↦ w.value-is ∙ rw w.if-r.true | else-r w ↦ w.value-is ∙ rw w.if-r.false ] in
    let b : c.if-r-n.value ≡ c.if-r.value && leb c.args.lo.0 (start_of c.args.r) = elim c.if-r-n.branch [ then-r-n w ↦ w.value-is ∙ rw w.if-r-n.true | else-r-n w ↦ w.value-is ∙ rw w.if-r-n.false ] in
    let d : c.if-lo-r.value ≡ c.if-r-n.value && leb (end_of c.args.r) c.args.hi.0 = elim c.if-lo-r.branch [ then-lo-r w ↦ w.value-is ∙ rw w.if-lo-r.true | else-lo-r w ↦ w.value-is ∙ rw w.if-lo-r.false ] in
    c.if-r-hi.false ∙ ap (λ (t : Bool). t && in_source c.args.src.now c.args.r.span) (sym c.if-r-hi.false) ∙ keeps_by c.args.src.now c.args.lo.0 c.args.hi.0 c.args.n.0 c.args.r a b d refl
