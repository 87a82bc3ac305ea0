-- A release where one comment waits: the passes, each of one turn. Assumes nothing.
use Rattle.text.proofs.Base.{◌≡◌, refl, List, [], ◌∷◌, ◌++◌, Bool, true, false, ℕ, ◌+◌, ◌-◌, ◌≤◌, arith, length, ltb}
use lib.Seq.{sets}
use Rattle.meaning.specs.{declared.answer.Refusal.TheVariants.NoRoom}
use Rattle.meaning.specs.{State.Comment}
use Rattle.lent.specs.{declared.formatter.Formatter.Formatter, Run.answered, Run.let_out_run, declared.room.Gap.Gap}
use Rattle.queue.specs.{declared.release.Way.Way}
use Rattle.lent.specs.{View.ring_at, View.queue_of}
use Rattle.std.specs.Prelude.{Some, Ok, Err}
use Rattle.lent.specs.{View.gap_bytes, View.Laid}
use Rattle.queue.specs.{Passes.stop_of, Passes.front_of, Passes.back_of, Passes.bytes_from, Passes.Measured}
use Rattle.queue.specs.{Parts.LetsOut}
use Rattle.lent.proofs.{TabLaws.tab_all, TabLaws.tab_none, RingLaws.ring_next}
use Rattle.queue.proofs.{PassLaws.fit, PassLaws.Put, PassLaws.Measuring, PassLaws.going_stop}
use Rattle.queue.proofs.{PassLaws.measure_start, PassLaws.measure_turn, PassLaws.measure_over, PassLaws.measure_end}
use Rattle.queue.proofs.{PassLaws.write_start, PassLaws.write_turn, PassLaws.write_end, ReleaseLaws.release_none, ReleaseLaws.release_past}
use Rattle.queue.proofs.{ReleaseLaws.release_over, ReleaseLaws.release_room, ReleaseLaws.release_done}

module _ (src : List ℕ) (w : Way) (q : List ℕ) (run : Formatter) (b : List ℕ) (open-yet : run.answer ≡ Ok tt) (one : run.count ≡ 1) (inside : run.len ≤ length b) {c : Comment} (ec : c ≡ ring_at q (run.head + 0)) where
  first : queue_of q (run.head + 0) (run.count - 0) ≡ c ∷ queue_of q (run.head + (0 + 1)) (run.count - (0 + 1))
  first = ring_next q run.head run.count 0 c (omega arith) ec

  last : queue_of q (run.head + (0 + 1)) (run.count - (0 + 1)) ≡ []
  last = tab_none (ring_at q) run.head run.count 1 (omega arith)

  pub one_stops : stop_of w c ≡ true → LetsOut src w q run b run b
  one_stops h = release_none src w q run b (rw (← tab_all (ring_at q) run.head run.count, first) (going_stop w c _ h)) inside

  module _ (goes : stop_of w c ≡ false) {front : Bool} (ef : front ≡ front_of w) {g : Gap} {t : List ℕ} (p : Put src w run.indent front run.len c g t) where
    begun : Measuring src w run.indent (length b) run.len (queue_of q run.head run.count) run.len front 0 (queue_of q (run.head + 0) (run.count - 0))
    begun = measure_start src w run.indent ef (tab_all (ring_at q) run.head run.count) inside

    -- it does not fit
    pub one_past : {o : Formatter} → ltb (length b) (run.len + (g.lines + g.spaces) + length t) ≡ true → o ≡ answered run (Err (NoRoom run.len)) → LetsOut src w q run b o b
    one_past h e = release_past src w q run b open-yet (measure_over src w run.indent first goes p h begun) e

    module _ (k : Gap) (fits : run.len + (g.lines + g.spaces) + length t ≤ length b) (ek : gap_bytes k ≡ back_of w 1) where
      to : ℕ
      to = run.len + (g.lines + g.spaces) + length t

      measured : Measured src w run.indent run.len (length b) (queue_of q run.head run.count) (Some (fit 1 to))
      unfolding to
      measured = measure_end src w run.indent last refl (measure_turn src w run.indent first goes p fits begun)

      -- the space behind it does not
      pub one_over : {o : Formatter} → ltb (length b) (run.len + (g.lines + g.spaces) + length t + (k.lines + k.spaces) + 0) ≡ true → o ≡ answered run (Err (NoRoom run.len)) → LetsOut src w q run b o b
      unfolding to
      one_over h e = release_over src w q run b open-yet 1 to k measured ek h e

      pub one_few : 1 ≤ run.count
      one_few = omega arith

      room : run.len + length (bytes_from src w run.indent (front_of w) run.len (queue_of q run.head run.count)) ≤ length b
      unfolding to
      room = rw one (release_room src w q run b open-yet 1 to k measured ek fits)

      written : {b1 : List ℕ} → b1 ≡ sets b run.len (gap_bytes g ++ t) → b1 ≡ sets b run.len (bytes_from src w run.indent (front_of w) run.len (queue_of q run.head run.count))
      written h = write_end src w run.indent last (write_turn src w run.indent first p (write_start src w run.indent ef (tab_all (ring_at q) run.head run.count) room) h)

      pub one_done : {o : Formatter} {b1 b2 : List ℕ} {i end : ℕ} → Laid b run.len g t i b1 → i + (k.lines + k.spaces) + 0 ≤ length b → Laid b1 i k [] end b2 → o ≡ let_out_run run 1 end → LetsOut src w q run b o b2
      unfolding to
      one_done {b1 = b1} {b2 = b2} {end = end} l m r e =
          release_done src w q run b open-yet 1 to k measured ek (omega (arith, l.end)) (rw one at (written l.bytes)) (rw (← l.end) r) e
