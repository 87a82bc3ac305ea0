-- What the proofs of rules are written with, in one place: names of the libraries, of the engine and of the steps. Assumes nothing.
pub use Rattle.text.proofs.Base.{◌≡◌, refl, sym, ap, subst, ◌∙◌, Bool, true, false, not, cond, ◌||◌, List, [], ◌∷◌, ◌⊎◌, inl, inr, ℕ, zero, suc, ◌+◌, ◌-◌, ◌*◌, ◌≤◌, ◌<◌, arith, length, eqb, leb, ltb, ne_eqb, rules}
pub use Rattle.tree.specs.declared.record.Record.{Record}
pub use Rattle.tree.specs.declared.record.RecordNo.{RecordNo}
pub use Rattle.tree.specs.Table.{node_of, tree_of}
pub use Rattle.kinds.specs.declared.Kind.{Kind}
unfoldable pub use Rattle.kinds.specs.Facts.{byte_of, facts_of}
pub use Rattle.meaning.specs.declared.call.Hint.TheVariants.{Prefix, Suffix, Infix, Line}
pub use Rattle.meaning.specs.declared.call.Call.TheVariants.{Comments, Indent, Nl, Ws}
pub use Rattle.meaning.specs.declared.answer.Refusal.TheVariants.{TreeDeep, WrongKind}
pub use Rattle.meaning.specs.State.{Script}
pub use Rattle.meaning.specs.Plan.{Plan, nothing, make, refuse, ◌then◌}
pub use Rattle.lent.specs.View.{script_of}
pub use Rattle.lent.specs.Loans.{Engine, engine, Makes, Refuses}
pub use Rattle.lent.proofs.MadeLaws.{keeps, nothing_made}
pub use Rattle.walk.specs.Stream.{Stream, stream, is_byte, next_in, next_is, records_of, take_in, take_any, stream_at, Ate}
unfoldable pub use Rattle.walk.specs.Stream.{take_if}
pub use Rattle.walk.specs.Flow.{Flow, flow, call, write, spaced, ignored, expect, eat, is, Goes}
unfoldable pub use Rattle.walk.specs.Flow.{◌▸◌, plain, pump, expect_byte, if_next, either, parse}
unfoldable pub use Rattle.steps.specs.Remaining.{fmt, ignore, says, put_remaining, remaining_of}
pub use Rattle.steps.specs.Remaining.{Remaining}
pub use Rattle.steps.specs.Items.{more, Place, place, suffix}
unfoldable pub use Rattle.steps.specs.Items.{turn, listed, list}
pub use Rattle.walk.proofs.StreamLaws.{next_at, next_none}
pub use Rattle.walk.proofs.FlowLaws.{◌▹◌, steady, kept_length, got, pumped, expected, eaten, eaten_not, parsed}
pub use Rattle.walk.proofs.LoopLaws.{Falls, Going, starts, goes_on, done, falls}
pub use Rattle.steps.proofs.TakeLaws.{Takes, Leaves, pump_takes, pump_leaves, expect_takes, expect_leaves, put_leaves, plain_leaves, next_leaves, ◌takes_then◌, ◌leaves_then◌, plain_takes, taking_falls, pump_falls, pump_then_falls}
pub use Rattle.steps.proofs.SeenLaws.{Seeing, Each, none_seen, next_seen, seen_less, all_seen, last_done}
pub use Rattle.steps.proofs.RestLaws.{rests_with, rest_then}
pub use Rattle.steps.proofs.ItemLaws.{Counting, Listing, none_counted, no_item_lem, next_turn, turn_less, turn_falls, next_item, item_less, next_counted, counted, items_done, listed_all}
pub use Rattle.walk.proofs.RuleLaws.{if_so, if_not, step_so, step_not, next_so, next_not, kind_is, kind_other, either_first, either_second}
