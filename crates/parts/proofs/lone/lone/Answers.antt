-- `parts::lone::lone` meets its contract. Assumes nothing.
use Rattle.parts.specs.Lone.{lone}
use Rattle.steps.proofs.Rules.{◌∙◌, byte_of, facts_of, inl, inr, kind_is, kind_other, sym}
use Rattle.text.proofs.Base.{le-ltb, lt-ltb}
use Rattle.parts.proofs.lone.lone.Goals as goal

pub returns-then-kind-lt128 : goal.returns-then-kind-lt128
unfolding lone byte_of facts_of
returns-then-kind-lt128 c = let n = c.in_default.in_default-own.rest in kind_other _ _ _ _ c.kind_at-kind.ensures n.0.0.1 (kind_other _ _ _ _ c.kind_at-kind.ensures n.0.1 (kind_other _ _ _ _ c.kind_at-kind.ensures (λ h. n.1 (inl h)) (kind_other _ _ _ _ c.kind_at-kind.ensures (λ h. n.1 (inr h)) (rw (← c.kind_at-kind.ensures, lt-ltb _ _ c.if-kind-lt128.true) c.write_owned.ensures))))

pub returns-in-176 : goal.returns-in-176
unfolding lone byte_of facts_of
returns-in-176 c = kind_is _ _ _ _ c.kind_at-kind.ensures c.in-176.is c.path.ensures

pub returns-in-192 : goal.returns-in-192
unfolding lone byte_of facts_of
returns-in-192 c = rw (sym c.kind_at-kind.ensures ∙ c.in-192.is) c.pat_lit.ensures

pub returns-in-193 : goal.returns-in-193
unfolding lone byte_of facts_of
returns-in-193 c = elim c.in-193.is [ inl h ↦ rw (sym c.kind_at-kind.ensures ∙ h) c.whole.ensures | inr h ↦ rw (sym c.kind_at-kind.ensures ∙ h) c.whole.ensures ]

pub returns-else-kind-lt128 : goal.returns-else-kind-lt128
unfolding lone byte_of facts_of
returns-else-kind-lt128 c = let n = c.in_default.in_default-own.rest in kind_other _ _ _ _ c.kind_at-kind.ensures n.0.0.1 (kind_other _ _ _ _ c.kind_at-kind.ensures n.0.1 (kind_other _ _ _ _ c.kind_at-kind.ensures (λ h. n.1 (inl h)) (kind_other _ _ _ _ c.kind_at-kind.ensures (λ h. n.1 (inr h)) (rw (← c.kind_at-kind.ensures, le-ltb _ _ c.if-kind-lt128.false) (c.refuse.ensures.ran _ _ _)))))
