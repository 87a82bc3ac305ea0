-- The cycle of `patterns::pat`: each member meets its contract. Assumes nothing.
use Rattle.steps.proofs.Rules.{byte_of, facts_of, nothing_made, ◌▹◌, steady, expected, next_so, next_not, pumped, parsed, tree_of, remaining_of, no_item_lem, next_item, item_less, listed_all, sym, ◌∙◌, inl, inr, ne_eqb, kind_is, kind_other, rests_with, next_turn, turn_less, items_done, none_counted, next_counted, counted}
use Rattle.patterns.specs.Pattern.{colon_pat, is_key, object_item, pat as rule, pat_item, pat_array, pat_child, key_or_dots, keyed, silent, pat_object, tuple_rule}
use Rattle.patterns.proofs.PatLaws.{too_deep, deep, keyed_item, object_falls, object_ends, tuple_of, tuple_ends}
use Rattle.steps.specs.declared.remaining.Mark.TheVariants.{Comma}
use Rattle.patterns.proofs.pat.+pat.Goals as goal

pub colon_pat-returns-then-next_is : goal.colon_pat-returns-then-next_is
unfolding colon_pat byte_of facts_of
colon_pat-returns-then-next_is t c = next_so _ _ _ c.next_is.ensures c.if-next_is.true (c.any.ensures ▹ steady c.ws.ensures ▹ expected _ _ _ c.expect-k.ensures c.pat.ensures)

pub colon_pat-returns-else-next_is : goal.colon_pat-returns-else-next_is
unfolding colon_pat byte_of facts_of
colon_pat-returns-else-next_is t c = next_not _ _ _ c.next_is.ensures c.if-next_is.false (steady nothing_made)

pub object_item-returns-then-next_is : goal.object_item-returns-then-next_is
unfolding object_item is_key byte_of facts_of
object_item-returns-then-next_is t c = next_so _ _ _ c.next_is.ensures c.if-next_is.true (c.any.ensures ▹ c.colon_pat.ensures)

pub object_item-returns : goal.object_item-returns
unfolding object_item is_key byte_of facts_of
object_item-returns t c = next_not _ _ _ c.next_is.ensures c.if-next_is.false c.token.ensures

pub pat-returns-then-depth-eq0 : goal.pat-returns-then-depth-eq0
pat-returns-then-depth-eq0 t c = too_deep _ _ c.if-depth-eq0.true c.refuse.ensures

pub pat-returns : goal.pat-returns
pat-returns t c =
    deep _ _ _ c.if-depth-eq0.false (parsed _ _ c.records_of-p.ensures (c.pat_attributes.ensures ▹ pumped _ c.pump-n.ensures c.pat_child.ensures) c.left_over.ensures)

pub pat_array-loop-fmt-init : goal.pat_array-loop-fmt-init
pat_array-loop-fmt-init t c = no_item_lem

pub pat_array-loop-fmt-smaller : goal.pat_array-loop-fmt-smaller
pat_array-loop-fmt-smaller t c =
    item_less _ _ _ c.pat_or_dots.ensures c.loop-fmt-test.true c.before_item.ensures (pumped _ c.pump-n.ensures c.pat_item.ensures) c.behind_item-comma.ensures c.loop-fmt.invariant

pub pat_array-loop-fmt-preserved : goal.pat_array-loop-fmt-preserved
pat_array-loop-fmt-preserved t c =
    next_item _ _ _ c.pat_or_dots.ensures c.loop-fmt-test.true c.before_item.ensures (pumped _ c.pump-n.ensures c.pat_item.ensures) c.behind_item-comma.ensures c.loop-fmt.invariant

pub pat_array-returns : goal.pat_array-returns
unfolding pat_array byte_of facts_of
pat_array-returns t c =
    parsed _ _ c.records_of-p.ensures (c.token.ensures ▹ listed_all _ _ c.pat_or_dots.ensures c.loop-fmt-test.false c.loop-fmt.invariant c.close_list.ensures ▹ c.token-2.ensures) c.left_over.ensures

pub pat_child-returns-in-192 : goal.pat_child-returns-in-192
unfolding pat_child byte_of facts_of
pat_child-returns-in-192 t c = rw (sym c.kind_at-kind.ensures ∙ c.in-192.is) c.pat_lit.ensures

pub pat_child-returns-in-10 : goal.pat_child-returns-in-10
unfolding pat_child byte_of facts_of
pat_child-returns-in-10 t c =
    elim c.in-10.is [ inl h ↦ rw (sym c.kind_at-kind.ensures ∙ h) c.write_owned.ensures | inr h ↦ rw (sym c.kind_at-kind.ensures ∙ h) c.write_owned.ensures ]

pub pat_child-returns-in-176 : goal.pat_child-returns-in-176
unfolding pat_child byte_of facts_of
pat_child-returns-in-176 t c = rw (sym c.kind_at-kind.ensures ∙ c.in-176.is) c.path.ensures

pub pat_child-returns-in-179 : goal.pat_child-returns-in-179
unfolding pat_child byte_of facts_of
pat_child-returns-in-179 t c = rw (sym c.kind_at-kind.ensures ∙ c.in-179.is) c.pat_array.ensures

pub pat_child-returns-in-180 : goal.pat_child-returns-in-180
unfolding pat_child byte_of facts_of
pat_child-returns-in-180 t c = rw (sym c.kind_at-kind.ensures ∙ c.in-180.is) c.pat_tuple.ensures

pub pat_child-returns-in-181 : goal.pat_child-returns-in-181
unfolding pat_child byte_of facts_of
pat_child-returns-in-181 t c = rw (sym c.kind_at-kind.ensures ∙ c.in-181.is) c.pat_object.ensures

pub pat_child-returns-in_default : goal.pat_child-returns-in_default
unfolding pat_child byte_of facts_of
pat_child-returns-in_default t c =
    let n = c.in_default.in_default-own.rest in rw (← c.kind_at-kind.ensures, ne_eqb _ _ n.0.0.0.0.0.1, ne_eqb _ _ (λ h. n.0.0.0.0.1 (inl h)), ne_eqb _ _ (λ h. n.0.0.0.0.1 (inr h)), ne_eqb _ _ n.0.0.0.1, ne_eqb _ _ n.0.0.1, ne_eqb _ _ n.0.1, ne_eqb _ _ n.1) (c.refuse.ensures.ran _ _ _)

pub pat_item-returns-then-kind_at-eq-DOTDOT : goal.pat_item-returns-then-kind_at-eq-DOTDOT
unfolding pat_item byte_of facts_of
pat_item-returns-then-kind_at-eq-DOTDOT t c = kind_is _ _ _ _ c.kind_at.ensures c.if-kind_at-eq-DOTDOT.true c.write_owned.ensures

pub pat_item-returns : goal.pat_item-returns
unfolding pat_item byte_of facts_of
pat_item-returns t c = kind_other _ _ _ _ c.kind_at.ensures c.if-kind_at-eq-DOTDOT.false c.pat.ensures

pub pat_object-loop-fmt-init : goal.pat_object-loop-fmt-init
pat_object-loop-fmt-init t c = no_item_lem

pub pat_object-loop-fmt-smaller : goal.pat_object-loop-fmt-smaller
pat_object-loop-fmt-smaller t c =
    let rs = tree_of c.args.table.now in let pat = rule rs c.args.depth in let comma = remaining_of Comma c.loop-fmt.comma in
    turn_less rs (key_or_dots rs) (keyed rs pat) silent (object_falls rs pat) {c = comma} c.key_or_dots.ensures c.loop-fmt-test.true (keyed_item rs pat comma c.put.ensures c.ws.ensures c.object_item.ensures) (rests_with silent c.take_remaining-comma.ensures nothing_made)

pub pat_object-loop-fmt-preserved : goal.pat_object-loop-fmt-preserved
pat_object-loop-fmt-preserved t c =
    let rs = tree_of c.args.table.now in let pat = rule rs c.args.depth in let comma = remaining_of Comma c.loop-fmt.comma in
    next_turn rs (key_or_dots rs) (keyed rs pat) silent (object_falls rs pat) c.key_or_dots.ensures c.loop-fmt-test.true (keyed_item rs pat comma c.put.ensures c.ws.ensures c.object_item.ensures) (rests_with silent c.take_remaining-comma.ensures nothing_made) c.loop-fmt.invariant

pub pat_object-returns : goal.pat_object-returns
unfolding pat_object byte_of facts_of
pat_object-returns t c =
    parsed _ _ c.records_of-p.ensures (c.object_name.ensures ▹ c.token.ensures ▹ items_done _ _ _ c.key_or_dots.ensures c.loop-fmt-test.false c.loop-fmt.invariant.going ▹ object_ends c.close_object.ensures ▹ c.put_remaining.ensures) c.left_over.ensures

pub pat_tuple-loop-fmt-init : goal.pat_tuple-loop-fmt-init
pat_tuple-loop-fmt-init t c = none_counted

pub pat_tuple-loop-fmt-smaller : goal.pat_tuple-loop-fmt-smaller
pat_tuple-loop-fmt-smaller t c =
    item_less _ _ _ c.pat_or_dots.ensures c.loop-fmt-test.true c.before_item.ensures (pumped _ c.pump-n.ensures c.pat_item.ensures) c.behind_item-comma.ensures (counted c.loop-fmt.invariant)

pub pat_tuple-loop-fmt-preserved : goal.pat_tuple-loop-fmt-preserved
pat_tuple-loop-fmt-preserved t c =
    next_counted _ _ _ c.pat_or_dots.ensures c.loop-fmt-test.true c.before_item.ensures (pumped _ c.pump-n.ensures c.pat_item.ensures) c.behind_item-comma.ensures c.more-count.ensures c.loop-fmt.invariant

pub pat_tuple-returns : goal.pat_tuple-returns
unfolding tuple_rule byte_of facts_of
pat_tuple-returns t c =
    parsed _ _ c.records_of-p.ensures (tuple_of _ _ c.next_is-trailing.ensures (c.path_if.ensures ▹ c.token.ensures ▹ items_done _ _ _ c.pat_or_dots.ensures c.loop-fmt-test.false c.loop-fmt.invariant ▹ tuple_ends _ c.close_tuple.ensures ▹ c.token-2.ensures)) c.left_over.ensures
