-- Laws of statements and their blocks: the lines between two, and the semicolon. Assumes nothing.
use Rattle.lent.specs.declared.formatter.Formatter.{Formatter}
use Rattle.steps.proofs.Rules.{◌≡◌, Bool, true, false, List, ℕ, ne_eqb, Record, Suffix, Comments, Nl, Script}
use Rattle.steps.proofs.Rules.{make, ◌then◌, Engine, engine, Makes, rest_then, nothing_made, Remaining, Stream, Goes}
use Rattle.kinds.specs.declared.class.Class.{Class}
use Rattle.kinds.specs.Facts.{class_of, needs_semi}
use Rattle.kinds.specs.Kinds.{kind_of}
use Rattle.lent.proofs.MadeLaws as made
use Rattle.steps.specs.declared.remaining.Mark.TheVariants.{SemiColon}
use Rattle.steps.specs.Remaining.{is_present, write_if, Rests}
use Rattle.gaps.specs.Statements.{lines_of, gap, before_semi, semicolon}

-- ---- lines between two statements

pub gap_first : {x : Script} {e : Engine} {last : ℕ} (kind : ℕ) → last ≡ 0 → Makes x (gap last kind) e e
unfolding gap
gap_first kind h = rw h nothing_made

pub gap_lines : {x : Script} {e e' : Engine} (last kind : ℕ) {c d : Class} {n : ℕ} → (last ≡ 0 → ⊥) → c ≡ class_of (kind_of last) → d ≡ class_of (kind_of kind) → n ≡ lines_of c d
    → Makes x (make (Nl n)) e e' → Makes x (gap last kind) e e'
unfolding gap
gap_lines last kind z f g l m = rw (ne_eqb last 0 z, ← f, ← g, ← l) m

-- ---- the semicolon

module _ {x : Script} (semi : Remaining) {e e' : Engine} where
  pub semi_needed : {t : Bool} → t ≡ true → Makes x (make (Comments Suffix)) e e' → Makes x (before_semi t semi) e e'
  unfolding before_semi
  semi_needed h m = rw h m

  module _ {t u : Bool} (h : t ≡ false) (q : u ≡ is_present semi) where
    pub semi_there : u ≡ true → Makes x (make (Comments Suffix)) e e' → Makes x (before_semi t semi) e e'
    unfolding before_semi
    semi_there g m = rw (h, ← q, g) m

pub semi_none : {x : Script} {e : Engine} (semi : Remaining) {t u : Bool} → t ≡ false → u ≡ is_present semi → u ≡ false → Makes x (before_semi t semi) e e
unfolding before_semi
semi_none semi h q g = rw (h, ← q, g) nothing_made

-- it is taken, then comments and the token
pub semi_of : {x : Script} (rs : List Record) (kind : ℕ) {t : Bool} {s s' : Stream} {w w' : Formatter} {q b : List ℕ} {r : Remaining} {e e' : Engine} → t ≡ needs_semi (kind_of kind) → Rests rs SemiColon s w w' r s'
    → Makes x (before_semi t r) (engine w' q b) e → Makes x (write_if t r) e e' → Goes x (semicolon rs kind) s (engine w q b) e' s'
unfolding semicolon
semi_of rs kind g a m n = rest_then (λ (r : Remaining). before_semi (needs_semi (kind_of kind)) r then write_if (needs_semi (kind_of kind)) r) a (rw (← g) (made.◌▹◌ m n))
