-- Demand 3 holds behind every history, and the state that it leaves passes the checks on what is lent. Assumes nothing.
use mathlib.Core.Path.{◌≡◌, refl, sym, ap, ◌∙◌}
use Prim.Native.Nat.{ℕ, zero-le}
use mathlib.Core.List.{List}
use lib.ListN.{length}
use Rattle.text.specs.Delete.{delete}
use Rattle.text.proofs.Laws.{good_source}
use Rattle.meaning.specs.Answer.{Answer}
use Rattle.meaning.specs.State.{Script}
use Rattle.meaning.specs.World.{opened, capacity}
use Rattle.meaning.specs.History.{Event, after, went}
use Rattle.meaning.specs.Demand3.{Opens, Demand3}
use Rattle.meaning.proofs.Clean.{clean_merged, no_note}
use Rattle.meaning.proofs.Steps.{Sound, sound_fresh, sound_from, clean_from, none_waits_from}
use Rattle.meaning.proofs.Rows.{row_from}
use Rattle.meaning.proofs.Histories.{Traced, history_traced}

module _ (opening : Answer) (x : Script) (o : Opens x) (buf : List ℕ) (es : List Event) where
  trace : Traced x (opened buf) (went opening x (opened buf) es) (after opening x (opened buf) es)
  trace = history_traced opening x es (opened buf) zero-le

  pub demand3 : Demand3 x (went opening x (opened buf) es) (after opening x (opened buf) es)
  demand3 =
      let t = trace in
      let well-formed = (good_source x.source o.source_good).well in
      let r = row_from x (length buf) t.steps refl in
      let clean = clean_from x (length buf) o.spans_inside (well-formed) t.steps no_note in
      record {
        row = r.row;
        waiting = r.waiting;
        output_merges = ap delete t.output_is ∙ clean_merged clean ∙ sym r.bytes;
        texts_once = rw t.calls_are at r.texts_are;
        comments_kept = rw t.calls_are at r.comments_are;
        waiting_is_queue = r.waits;
        none_early = r.early;
        none_waits = λ f. none_waits_from x (length buf) t.steps refl (rw t.calls_are f);
      }

  pub sound : Sound x.source (length buf) (after opening x (opened buf) es).state
  sound = sound_from x (length buf) o.spans_inside trace.steps (sound_fresh x.source (length buf))

  pub same_size : capacity (after opening x (opened buf) es) ≡ length buf
  same_size = trace.size
