-- Laws of statements one by one, and of the body around them. Assumes nothing.
use Rattle.lent.specs.declared.formatter.Formatter.{Formatter}
use Rattle.steps.proofs.Rules.{◌≡◌, refl, sym, ap, ◌∙◌, Bool, true, false, List, ℕ, ◌<◌, length, RecordNo, node_of, Line, Comments, Script, make, ◌then◌, Engine, Makes}
use Rattle.steps.proofs.Rules.{nothing_made, Stream, next_is, take_any, ◌▸◌, plain, pump, Goes, ◌▹◌, Falls, Going, starts, goes_on, done, falls, pump_takes, ◌takes_then◌}
use Rattle.lent.proofs.MadeLaws as made
use Rattle.walk.specs.Flow.{Got}
use Rattle.walk.specs.Loop.{loop}
use Rattle.gaps.specs.Statements.{gap, semicolon, is_spread, enter, leave}
use Rattle.gaps.proofs.Laws.{semi_leaves}
use Rattle.exprs.specs.Rule.{Below}
use Rattle.exprs.specs.Block.{Said, said, stmt, statement, kind_in, first, another, last, stmts, body}
use Rattle.exprs.proofs.TakenLaws.{taken_is}

-- the lines before it, and the statement by its kind
pub statement_of : {x : Script} (lay : Below) (last : ℕ) {kind : ℕ} (k : RecordNo) {a b c d : Engine} → kind ≡ (node_of x.tree k.0).kind → Makes x (gap last kind) a b → Makes x (make (Comments Line)) b c → Makes x (stmt lay kind k) c d
    → Makes x (statement x lay last k) a d
unfolding statement
statement_of lay last k q g m y = rw (← q) (made.◌▹◌ g (made.◌▹◌ m y))

module _ (x : Script) (lay : Below) where
  abbrev pub Saying : Stream → Engine → Stream → Engine → ℕ → Type 0
  Saying s₀ e₀ s e last = Going x (λ (s : Said). s.rest) (λ (k : ℕ). true) (another x lay) (said s₀ 0) e₀ (said s last) e

  stmts_fall : Falls (λ (s : Said). s.rest) (λ (k : ℕ). true) (another x lay)
  unfolding another
  stmts_fall = record { less = λ s h. (pump_takes (λ (k : ℕ). true) (statement x lay s.last) takes_then semi_leaves x.tree (kind_in x lay s.rest.left)).less s.rest h }

  module _ {s s₁ s' : Stream} {w w' : Formatter} {k : RecordNo} (last : ℕ) {kind : ℕ} {t : Bool} {e e' : Engine} (q : t ≡ next_is (λ (k : ℕ). true) s) (h : t ≡ true) (g : Got (take_any s) s w w' k s₁) (r : kind ≡ (node_of x.tree k.0).kind) (y : Goes x (pump (statement x lay last) ▸ semicolon x.tree kind) s e e' s') where
    one_more : Goes x (another x lay) (said s last) e e' (said s' kind)
    unfolding another
    one_more =
        let z : kind_in x lay s.left ≡ kind = taken_is (kind_in x lay) (λ (k : RecordNo). (node_of x.tree k.0).kind) (λ k ks. refl) (λ (k : ℕ). true) q h g ∙ sym r in
        record { ran = rw z y.ran; at = rw z (ap (λ (s : Stream). said s kind) y.at) }

    pub next_said : {s₀ : Stream} {e₀ : Engine} → Saying s₀ e₀ s e last → Saying s₀ e₀ s' e' kind
    next_said v = goes_on stmts_fall q h one_more v

    pub said_less : length s'.left < length s.left
    said_less = falls stmts_fall q h one_more

  pub none_said : {s : Stream} {e : Engine} → Saying s e s e 0
  none_said = starts

  pub all_said : {s₀ s : Stream} {e₀ e : Engine} {n : ℕ} {t : Bool} → t ≡ next_is (λ (k : ℕ). true) s → t ≡ false → Saying s₀ e₀ s e n → Goes x (first x lay ▸ loop (λ (s : Said). s.rest) (λ (k : ℕ). true) (another x lay) ▸ last x lay) s₀ e₀ e s
  unfolding first last
  all_said q h v = record { ran = nothing_made; at = refl } ▹ done q h v ▹ record { ran = nothing_made; at = refl }

-- whether it is spread over lines
pub body_of : {x : Script} (lay : Below) (compact : Bool) {s s' : Stream} {e e' : Engine} {t : Bool} → t ≡ is_spread compact s → Goes x (plain (enter t) ▸ stmts x lay ▸ plain (leave t)) s e e' s' → Goes x (body x lay compact) s e e' s'
unfolding body
body_of lay compact q y = record { ran = rw (← q) y.ran; at = rw (← q) y.at }
