-- Loops that ask whether there was an item, under way. Assumes nothing.
use Rattle.text.proofs.Base.{◌≡◌, refl, Bool, true, false, ℕ, ◌<◌, length}
use Rattle.meaning.specs.{State.Script, Plan.Plan}
use Rattle.lent.specs.Loans.{Engine, Makes}
use Rattle.lent.proofs.MadeLaws as made
use Rattle.steps.specs.{Seen.Seen, Seen.seen, Seen.none_yet, Seen.another, Seen.each}
use Rattle.walk.specs.{Stream.Stream, Stream.next_is, Flow.Flow, Flow.Goes}
use Rattle.steps.specs.{Seen.lastly}
use Rattle.walk.proofs.{FlowLaws.◌▹◌, LoopLaws.Falls, LoopLaws.Going, LoopLaws.starts, LoopLaws.goes_on, LoopLaws.done, LoopLaws.falls}
use Rattle.steps.proofs.{TakeLaws.Takes}

abbrev pub Seeing : Script → (ℕ → Bool) → (Bool → Stream → Flow Stream) → Stream → Engine → Stream → Engine → Bool → Type 0
Seeing x want f s₀ e₀ s e any = Going x (λ (s : Seen). s.rest) want (another f) (seen s₀ false) e₀ (seen s any) e

-- an item takes a record
pub record Each (want : ℕ → Bool) (f : Bool → Stream → Flow Stream) : Type 0 where
  pub takes : (any : Bool) → Takes want (f any)

one_more : {x : Script} (f : Bool → Stream → Flow Stream) (any : Bool) {s s' : Stream} {e e' : Engine} → Goes x (f any) s e e' s' → Goes x (another f) (seen s any) e e' (seen s' true)
unfolding another
one_more f any h = rw h.at (record { ran = h.ran; at = refl })

each_falls : {want : ℕ → Bool} {f : Bool → Stream → Flow Stream} → Each want f → Falls (λ (s : Seen). s.rest) want (another f)
unfolding another
each_falls t = record { less = λ s h. (t.takes s.any).less s.rest h }

pub none_seen : {x : Script} {want : ℕ → Bool} (f : Bool → Stream → Flow Stream) {s : Stream} {e : Engine} → Seeing x want f s e s e false
none_seen f = starts

module _ {x : Script} (want : ℕ → Bool) (f : Bool → Stream → Flow Stream) (any : Bool) {s s' : Stream} {e e' : Engine} {t : Bool} (fall : Each want f) (q : t ≡ next_is want s) (h : t ≡ true) (a : Goes x (f any) s e e' s') where
  pub next_seen : {s₀ : Stream} {e₀ : Engine} → Seeing x want f s₀ e₀ s e any → Seeing x want f s₀ e₀ s' e' true
  next_seen g = goes_on (each_falls fall) q h (one_more f any a) g

  pub seen_less : length s'.left < length s.left
  seen_less = falls (each_falls fall) q h (one_more f any a)

pub all_seen : {x : Script} {want : ℕ → Bool} (f : Bool → Stream → Flow Stream) {any : Bool} {s₀ s : Stream} {e₀ e : Engine} {t : Bool} → t ≡ next_is want s → t ≡ false → Seeing x want f s₀ e₀ s e any → Goes x (each want f) s₀ e₀ e (seen s any)
unfolding each none_yet
all_seen f q h g = record { ran = made.nothing_made; at = refl } ▹ done q h g

pub last_done : {x : Script} (g : Bool → Plan) {any : Bool} {s : Stream} {e e' : Engine} → Makes x (g any) e e' → Goes x (lastly g) (seen s any) e e' s
unfolding lastly
last_done g a = record { ran = a; at = refl }
