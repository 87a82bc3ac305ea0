-- Laws of the stream: what the next record is, and what taking it leaves. Assumes nothing.
use mathlib.Core.Path.{ap₂}
use Rattle.std.specs.Prelude.{Option, Some, None, is_some, unwrap_or}
use Rattle.text.proofs.Base.{◌≡◌, refl, sym, ap, ◌∙◌, Bool, true, false, cond, List, [], ◌∷◌, ℕ, arith}
use Rattle.text.proofs.Base.{eqb}
use Rattle.tree.specs.{declared.record.Record.Record, declared.record.RecordNo.RecordNo, Table.node_of}
use Rattle.tree.specs.declared.cursor.Cursor.{Cursor}
use Rattle.tree.specs.Cursor.{shown, kept, behind, cursor_of, children_of, peek_of, head_of}
use Rattle.tree.proofs.Laws.{peek_at, peek_none}
use Rattle.kinds.specs.{declared.Kind.Kind, Facts.byte_of}
use Rattle.meaning.specs.{declared.answer.Refusal.TheVariants.WrongKind, Plan.Plan, Plan.nothing, Plan.refuse}
use Rattle.walk.specs.declared.stream.Stream as code
use Rattle.walk.specs.Stream.{is_byte, Stream, stream, records_of, next_in, next_is, met_in, met, take_in, take_if, take_any}
use Rattle.walk.specs.Stream.{left_from, stream_at, passed, Peeked, Ate}
use Rattle.walk.specs.Flow.{is, left_in, left_over}

-- ---- the next record, and what is kept behind it

-- what is kept from a cursor on, by the first record that is
kept_so : (rs : List Record) (c : Cursor) {k : Option RecordNo} → k ≡ peek_of rs c → left_from rs c.end k ≡ kept rs (shown rs c)
kept_so rs c {k = Some k} e = sym (peek_at {rs = rs} {c = c} (sym e)).list
kept_so rs c {k = None} e = sym (peek_none rs c (sym e))

pub records_in : (rs : List Record) (k : RecordNo) {c : Cursor} {o : Option RecordNo} → c ≡ children_of rs k.0 → o ≡ peek_of rs c → stream_at rs (record { node = k; next = o; end = c.end }) ≡ records_of rs k
unfolding stream_at
records_in rs k {c} q g = ap (stream k) (kept_so rs c g ∙ ap (λ (c : Cursor). kept rs (shown rs c)) q)

pub node_is : (rs : List Record) (p : code.Stream) → p.node ≡ (stream_at rs p).node
unfolding stream_at
node_is rs p = refl

pub next_here : (rs : List Record) (p : code.Stream) → Peeked (stream_at rs p) p.next
unfolding stream_at
next_here rs p = record { found = go p.next }
  where
    go : (o : Option RecordNo) → o ≡ head_of (left_from rs p.end o)
    go (Some k) = refl
    go None = refl

-- the next record is looked for behind record k
pub passed_over : (rs : List Record) (p : code.Stream) (k : ℕ) {b : RecordNo} {f : Option RecordNo} → b.0 ≡ behind rs k → f ≡ peek_of rs (cursor_of b.0 p.end.0) → stream_at rs (record p { next = f }) ≡ passed rs p k
unfolding stream_at
passed_over rs p k {b} q g = ap (stream p.node) (kept_so rs (cursor_of b.0 p.end.0) g ∙ rw q)

-- ---- the next record

abbrev wanted : (ℕ → Bool) → Option RecordNo → Bool
wanted want (Some k) = want k.0
wanted want None = false

abbrev or_node : RecordNo → Option RecordNo → RecordNo
or_node node (Some k) = k
or_node node None = node

abbrev left_of : Option RecordNo → Plan
left_of (Some k) = refuse (WrongKind k)
left_of None = nothing

-- what an `if let` leaves where it is not met
pub none_is : {o : Option RecordNo} → ((k : RecordNo) → o ≡ Some k → ⊥) → o ≡ None
none_is {o} h = go o h
  where
    go : (o : Option RecordNo) → ((k : RecordNo) → o ≡ Some k → ⊥) → o ≡ None
    go (Some k) h = absurd (h k refl)
    go None h = refl

module _ {s : Stream} {o : Option RecordNo} (e : Peeked s o) where
  next_by : (want : ℕ → Bool) → wanted want o ≡ next_is want s
  next_by want = ap (wanted want) e.found ∙ go s.left
    where
      go : (l : List ℕ) → wanted want (head_of l) ≡ next_in want l
      go [] = refl
      go (j ∷ js) = refl

  pub met_by : or_node s.node o ≡ met s
  met_by = ap (or_node s.node) e.found ∙ go s.left
    where
      go : (l : List ℕ) → or_node s.node (head_of l) ≡ met_in s.node l
      go [] = refl
      go (j ∷ js) = refl

  pub left_by : left_over s ≡ left_of o
  left_by = go s.left ∙ ap left_of (sym e.found)
    where
      go : (l : List ℕ) → left_in l ≡ left_of (head_of l)
      go [] = refl
      go (j ∷ js) = refl

  pub next_at : (want : ℕ → Bool) {k : RecordNo} {u : Bool} → o ≡ Some k → u ≡ want k.0 → u ≡ next_is want s
  next_at want h v = v ∙ ap (wanted want) (sym h) ∙ next_by want

  pub next_none : (want : ℕ → Bool) → o ≡ None → false ≡ next_is want s
  next_none want h = ap (wanted want) (sym h) ∙ next_by want

  pub any_next : is_some o ≡ next_is (λ k. true) s
  any_next = same o ∙ next_by (λ k. true)
    where
      same : (o : Option RecordNo) → is_some o ≡ wanted (λ k. true) o
      same (Some k) = refl
      same None = refl

  pub met_is : unwrap_or o s.node ≡ met s
  met_is = same o ∙ met_by
    where
      same : (o : Option RecordNo) → unwrap_or o s.node ≡ or_node s.node o
      same (Some k) = refl
      same None = refl

  pub left_at : {k : RecordNo} → o ≡ Some k → left_over s ≡ left_in (k.0 ∷ [])
  left_at h = left_by ∙ ap left_of h

  pub left_none : o ≡ None → left_over s ≡ left_in []
  left_none h = left_by ∙ ap left_of h

-- ---- taking it

module _ (want : ℕ → Bool) (s : Stream) where
  none_found : next_is want s ≡ false → None ≡ (take_if want s).found
  unfolding take_if
  none_found h = go s.left h
    where
      go : (l : List ℕ) → next_in want l ≡ false → None ≡ (take_in want s.node l).found
      go [] w = refl
      go (k ∷ ks) w = rw w

  none_taken : next_is want s ≡ false → s ≡ (take_if want s).rest
  unfolding take_if
  none_taken h = go s.left h
    where
      go : (l : List ℕ) → next_in want l ≡ false → stream s.node l ≡ (take_in want s.node l).rest
      go [] w = refl
      go (k ∷ ks) w = rw w

  pub took_not : {u : Bool} → u ≡ next_is want s → u ≡ false → Ate (take_if want s) None s
  took_not e h = record { found = none_found (sym e ∙ h); rest = none_taken (sym e ∙ h) }

  pub took_if : {u : Bool} {k : Option RecordNo} {s' : Stream} → u ≡ next_is want s → u ≡ true → Ate (take_any s) k s' → Ate (take_if want s) k s'
  unfolding take_if
  took_if {u} {k} {s'} e h a = go s.left (sym e ∙ h) a
    where
      go : (l : List ℕ) → next_in want l ≡ true → Ate (take_in (λ k. true) s.node l) k s' → Ate (take_in want s.node l) k s'
      go [] w a = let z : ◌≡◌ {A = ℕ} 0 1 = cc in absurd (omega arith)
      go (j ∷ js) w a = rw w a

  -- nothing was found, and nothing is taken
  pub none_stays : (take_if want s).found ≡ None → (take_if want s).rest ≡ s
  unfolding take_if
  none_stays e = go s.left e
    where
      go : (l : List ℕ) → (take_in want s.node l).found ≡ None → (take_in want s.node l).rest ≡ stream s.node l
      go [] e = refl
      go (k ∷ ks) e = at (want k) e
        where
          at : (t : Bool) → (cond t (take_in (λ k. true) s.node (k ∷ ks)) (take_in (λ k. false) s.node (k ∷ ks))).found ≡ None → (cond t (take_in (λ k. true) s.node (k ∷ ks)) (take_in (λ k. false) s.node (k ∷ ks))).rest ≡ stream s.node (k ∷ ks)
          at true e = let z : ◌≡◌ {A = ℕ} 0 1 = cc in absurd (omega arith)
          at false e = refl

module _ (rs : List Record) (p : code.Stream) {o : Option RecordNo} (e : Peeked (stream_at rs p) o) where
  pub took_next : {k : RecordNo} {s' : Stream} → o ≡ Some k → s' ≡ passed rs p k.0 → Ate (take_any (stream_at rs p)) (Some k) s'
  unfolding take_if stream_at
  took_next {k} {s'} h g = go p.next (sym h ∙ e.found)
    where
      go : (n : Option RecordNo) → Some k ≡ head_of (left_from rs p.end n) → Ate (take_in (λ k. true) p.node (left_from rs p.end n)) (Some k) s'
      go (Some j) y = let z : k ≡ j = cc in record { found = y; rest = rw (← z) g }
      go None y = let z : ◌≡◌ {A = ℕ} 0 1 = cc in absurd (omega arith)

  pub took_none : o ≡ None → Ate (take_any (stream_at rs p)) None (stream_at rs p)
  took_none h = took_not (λ k. true) (stream_at rs p) (next_none e (λ k. true) h) refl

pub kind_byte : (rs : List Record) (kind k : ℕ) {n b : ℕ} → n ≡ (node_of rs k).kind → b ≡ kind → eqb n b ≡ is_byte rs kind k
kind_byte rs kind k e q = ap₂ eqb e q
