-- Laws of lists and objects: what decides, and that a turn takes a record. Assumes nothing.
use Rattle.std.specs.Prelude.{Option, unwrap_or}
use Rattle.steps.proofs.Rules.{◌≡◌, refl, sym, ap, ◌∙◌, Bool, true, false, cond, List, [], ◌∷◌, ℕ, ◌≤◌, length, arith, Record, RecordNo, Kind, Line, Comments, Ws, Script, Makes, ◌▹◌}
use Rattle.steps.proofs.Rules.{nothing, make, Engine, Stream, records_of, ◌▸◌, write, pump, expect_byte, expect, is, Goes, Remaining, Place, turn}
use Rattle.steps.proofs.Rules.{Falls, Leaves, pump_takes, pump_leaves, plain_leaves, next_leaves, taking_falls, ◌takes_then◌, ◌leaves_then◌, turn_falls}
use Rattle.tree.specs.{declared.cursor.Cursor.Cursor, Cursor.head_of, Cursor.behind, Cursor.children_of}
use Rattle.walk.specs.Stream.{no, Peeked}
use Rattle.patterns.specs.Pattern.{object_name, silent}
use Rattle.loose.specs.Reason.{reason, is_loose}
use Rattle.lent.proofs.MadeLaws as made
use Rattle.gaps.specs.Lines.{end_entry, key_line, next_key}
use Rattle.gaps.proofs.Laws.{entry_leaves, key_takes, next_takes}
use Rattle.parts.specs.Spaced.{is_expr}
use Rattle.exprs.specs.Rule.{Rule, Below}
use Rattle.exprs.specs.List.{loose_entry, loose, compact, exprs, pair, keyed, rows, row, behind_name, object}

-- ---- a turn takes a record

module _ (x : Script) (lay : Below) where
  pub loose_falls : Falls (λ (s : Stream). s) (is_expr x.tree) (pump (loose_entry x lay) ▸ end_entry x.tree)
  loose_falls = taking_falls (pump_takes (is_expr x.tree) (loose_entry x lay) takes_then entry_leaves x.tree)

  pair_leaves : Leaves (pair x lay)
  unfolding pair
  pair_leaves = next_leaves (is x.tree Kind.Colon) (pump_leaves write leaves_then plain_leaves (make Ws) leaves_then pump_leaves (lay Rule.Expr)) (plain_leaves nothing)

  pub rows_fall : Falls (λ (s : Stream). s) (is x.tree Kind.ObjectKey) (key_line ▸ pair x lay ▸ end_entry x.tree)
  rows_fall = taking_falls (key_takes (is x.tree Kind.ObjectKey) takes_then pair_leaves leaves_then entry_leaves x.tree)

  pub row_falls : Falls (λ (s : Place). s.rest) (is x.tree Kind.ObjectKey) (turn x.tree (keyed x lay) silent)
  unfolding keyed
  row_falls = turn_falls x.tree silent (λ c. next_takes (is x.tree Kind.ObjectKey) c takes_then pair_leaves)

-- ---- the reason

module _ {x : Script} (lay : Below) {k : RecordNo} {s s' : Stream} {e e' : Engine} (h : s ≡ records_of x.tree k) {t : Bool} where
  pub exprs_of : (opening closing : ℕ) {c : Cursor} → c ≡ children_of x.tree k.0 → t ≡ is_loose (reason x false k c.at.0)
      → Goes x (expect_byte x.tree opening write ▸ cond t (loose x lay) (compact x lay) ▸ expect_byte x.tree closing write) s e e' s' → Goes x (exprs x lay opening closing) s e e' s'
  unfolding exprs
  exprs_of opening closing {c} q w y =
      let z : is_loose (reason x false s.node (children_of x.tree s.node.0).at.0) ≡ t =
      ap (λ (z : Stream). is_loose (reason x false z.node (children_of x.tree z.node.0).at.0)) h ∙ sym (w ∙ ap (λ (c : Cursor). is_loose (reason x false k c.at.0)) q) in
      record { ran = rw z y.ran; at = rw z y.at }

  pub object_of : {from : ℕ} → from ≡ behind_name x.tree s.left → t ≡ is_loose (reason x true k from)
      → Goes x (object_name x.tree ▸ expect x.tree Kind.OpenBrace write ▸ cond t (rows x lay) (row x lay)) s e e' s' → Goes x (object x lay) s e e' s'
  unfolding object
  object_of {from} q w y =
      let z : is_loose (reason x true s.node (behind_name x.tree s.left)) ≡ t =
      ap (λ (z : Stream). is_loose (reason x true z.node (behind_name x.tree s.left))) h ∙ sym (w ∙ ap (λ (from : ℕ). is_loose (reason x true k from)) q) in
      record { ran = rw z y.ran; at = rw z y.at }

behind_past : (rs : List Record) (k : ℕ) → length rs ≤ k → behind rs k ≡ length rs
unfolding behind
behind_past rs k h = omega arith

-- where there is no name, nothing stands behind it
pub behind_name_lem : (x : Script) {s : Stream} {o : Option RecordNo} {k : RecordNo} {n : ℕ} → length x.tree ≤ 8192 → Peeked s o → k ≡ unwrap_or o (no 8192) → n ≡ behind x.tree k.0 → n ≡ behind_name x.tree s.left
behind_name_lem x {s} {o} {k} few p q e = e ∙ ap (λ (k : RecordNo). behind x.tree k.0) (q ∙ ap (λ (o : Option RecordNo). unwrap_or o (no 8192)) p.found) ∙ go s.left
  where
    go : (l : List ℕ) → behind x.tree (unwrap_or (head_of l) (no 8192)).0 ≡ behind_name x.tree l
    go [] = behind_past x.tree 8192 few
    go (j ∷ js) = refl

-- ---- entries

pub loose_entry_lem : {x : Script} (lay : Below) (k : RecordNo) {a b c : Engine} → Makes x (make (Comments Line)) a b → Makes x (lay Rule.Expr k) b c → Makes x (loose_entry x lay k) a c
unfolding loose_entry
loose_entry_lem lay k m n = made.◌▹◌ m n

pub keyed_item : (x : Script) (lay : Below) (comma : Remaining) {s s₁ s' : Stream} {a b c : Engine} → Goes x (next_key comma) s a b s₁ → Goes x (pair x lay) s₁ b c s' → Goes x (keyed x lay comma) s a c s'
unfolding keyed
keyed_item x lay comma f g = f ▹ g
