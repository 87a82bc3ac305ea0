-- Each reason is true of its node by document 01's rule, and there is one exactly if that rule says so. Assumes nothing.
use Rattle.text.proofs.Base.{◌≡◌, refl, sym, Bool, true, false, cond, ◌||◌, List, [], ◌∷◌, ℕ, suc, ◌+◌, ◌≤◌, arith, length, eqb, leb}
use Rattle.std.specs.Prelude.{Option, Some, None, Ok, Err}
use borrow.Author.Tests.{le-leb, lt-leb, eqb-true, eqb-false}
use Rattle.tree.specs.declared.record.Record.{Record}
use Rattle.tree.specs.declared.record.RecordNo.{RecordNo}
use Rattle.tree.specs.Table.{node_of}
use Rattle.tree.specs.Cursor.{behind, children_of, peek_of}
use Rattle.kinds.specs.declared.Kind.{Kind}
use Rattle.kinds.specs.Facts.{byte_of}
use Rattle.width.specs.Count.{place_in}
use Rattle.meaning.specs.declared.answer.Refusal.TheVariants.{WrongKind, NoRule, NoNode}
use Rattle.meaning.specs.State.{Script}
use Rattle.meaning.specs.Opening.{script_in}
use Rattle.loose.specs.declared.reason.Reason.{Reason}
use Rattle.loose.specs.declared.reason.Reason.TheVariants.{Wide, Comment, Sixth}
use Rattle.loose.specs.Reason.{is_entry, crowd, children_from, reason, is_loose}
use Rattle.reasons.specs.Why.{is_list, is_name, of_named, of_first, of_object, of_kind, why_at, why}
use Rattle.white.proofs.Bools.{or_true}
use Rattle.reasons.proofs.Laws.{why_opened}
use Rattle.reasons.specs.Rule.{too_wide, is_note, noted, entries, goes_loose, Among, True, TrueOf}
use Rattle.reasons.specs.Rule.True.{wide, note, sixth, fits}
use Rattle.reasons.specs.Rule.TrueOf.{of_list, of_object_lem}

-- ---- loose or not

module _ (rs : List Record) (keys : Bool) where
  crowd_loose : (n : ℕ) (ks : List ℕ) → n ≤ 5 → is_loose (crowd rs keys n ks) ≡ noted rs ks || leb 6 (n + entries rs keys ks)
  unfolding crowd noted entries
  crowd_loose n [] h = sym (lt-leb 6 (n + 0) (omega arith))
  crowd_loose n (k ∷ ks) h = go (λ (l : suc n ≤ 5). crowd_loose (suc n) ks l) (crowd_loose n ks h) (is_note rs k) (is_entry keys (node_of rs k).kind) (eqb n 5) refl
    where
      go : (suc n ≤ 5 → is_loose (crowd rs keys (suc n) ks) ≡ noted rs ks || leb 6 (suc n + entries rs keys ks))
          → is_loose (crowd rs keys n ks) ≡ noted rs ks || leb 6 (n + entries rs keys ks) → (a b t : Bool) → eqb n 5 ≡ t
          → is_loose (cond a (Some (Comment (record { 0 = k }))) (cond b (cond t (Some (Sixth (record { 0 = k }))) (crowd rs keys (suc n) ks)) (crowd rs keys n ks)))
          ≡ (a || noted rs ks) || leb 6 (n + cond b (suc (entries rs keys ks)) (entries rs keys ks))
      go f g true b t e = refl
      go f g false true true e =
          let z : leb 6 (n + suc (entries rs keys ks)) ≡ true = le-leb 6 (n + suc (entries rs keys ks)) (omega (arith, eqb-true n 5 e)) in rw z (sym (or_true (noted rs ks)))
      go f g false true false e =
          let z : n + suc (entries rs keys ks) ≡ suc n + entries rs keys ks = omega arith in rw z (f (omega (arith, eqb-false n 5 e)))
      go f g false false t e = g

-- there is a reason exactly if document 01's rule says loose
pub loose_by_rule : (x : Script) (keys : Bool) (k : RecordNo) (from : ℕ) → is_loose (reason x keys k from) ≡ goes_loose x keys k from
unfolding reason goes_loose
loose_by_rule x keys k from = go (too_wide x k)
  where
    go : (w : Bool) → is_loose (cond w (Some (Wide (place_in x.source (node_of x.tree k.0).span 80))) (crowd x.tree keys 0 (children_from x.tree k from)))
        ≡ w || (noted x.tree (children_from x.tree k from) || leb 6 (entries x.tree keys (children_from x.tree k from)))
    go true = refl
    go false =
        let z : 0 + entries x.tree keys (children_from x.tree k from) ≡ entries x.tree keys (children_from x.tree k from) = omega arith in
        rw z at (crowd_loose x.tree keys 0 (children_from x.tree k from) (omega arith))

-- ---- true of the node

-- what the crowd says of these records, with n entries before them
data Says (rs : List Record) (keys : Bool) (n : ℕ) (ks : List ℕ) : Option Reason → Type 0 where
  said_note : {c : RecordNo} {m : ℕ} → Among rs keys ks c.0 m → n + m ≤ 5 → is_note rs c.0 ≡ true → Says rs keys n ks (Some (Comment c))
  said_sixth : {c : RecordNo} {m : ℕ} → Among rs keys ks c.0 m → n + m ≡ 5 → is_entry keys (node_of rs c.0).kind ≡ true → is_note rs c.0 ≡ false
      → Says rs keys n ks (Some (Sixth c))
  said_none : Says rs keys n ks None

module _ (rs : List Record) (keys : Bool) where
  -- met at once, or behind record k
  met_here : (k : ℕ) (ks : List ℕ) → Among rs keys (k ∷ ks) k 0
  unfolding noted entries
  met_here k ks = record { before = []; after = ks; cut = refl; no_note = refl; count = refl }

  met_behind : (k : ℕ) {ks : List ℕ} {c m m' : ℕ} → is_note rs k ≡ false → cond (is_entry keys (node_of rs k).kind) (suc m) m ≡ m' → Among rs keys ks c m → Among rs keys (k ∷ ks) c m'
  unfolding noted entries
  met_behind k e f g = record { before = k ∷ g.before; after = g.after; cut = rw g.cut; no_note = rw e g.no_note; count = rw g.count f }

  an_entry : {n k : ℕ} {ks : List ℕ} {r : Option Reason} → is_note rs k ≡ false → is_entry keys (node_of rs k).kind ≡ true → Says rs keys (suc n) ks r → Says rs keys n (k ∷ ks) r
  an_entry {n} {k} e f (said_note {c} {m} g h i) = said_note {m = suc m} (met_behind k e (rw f) g) (omega arith) i
  an_entry {n} {k} e f (said_sixth {c} {m} g h i j) = said_sixth {m = suc m} (met_behind k e (rw f) g) (omega arith) i j
  an_entry e f said_none = said_none

  no_entry : {n k : ℕ} {ks : List ℕ} {r : Option Reason} → is_note rs k ≡ false → is_entry keys (node_of rs k).kind ≡ false → Says rs keys n ks r → Says rs keys n (k ∷ ks) r
  no_entry {n} {k} e f (said_note {c} {m} g h i) = said_note {m = m} (met_behind k e (rw f) g) h i
  no_entry {n} {k} e f (said_sixth {c} {m} g h i j) = said_sixth {m = m} (met_behind k e (rw f) g) h i j
  no_entry e f said_none = said_none

  crowd_says : (n : ℕ) (ks : List ℕ) → n ≤ 5 → Says rs keys n ks (crowd rs keys n ks)
  unfolding crowd
  crowd_says n [] h = said_none
  crowd_says n (k ∷ ks) h = go (λ (l : suc n ≤ 5). crowd_says (suc n) ks l) (crowd_says n ks h) (is_note rs k) refl (is_entry keys (node_of rs k).kind) refl (eqb n 5) refl
    where
      go : (suc n ≤ 5 → Says rs keys (suc n) ks (crowd rs keys (suc n) ks)) → Says rs keys n ks (crowd rs keys n ks) → (a : Bool) → is_note rs k ≡ a → (b : Bool) → is_entry keys (node_of rs k).kind ≡ b → (t : Bool) → eqb n 5 ≡ t
          → Says rs keys n (k ∷ ks) (cond a (Some (Comment (record { 0 = k }))) (cond b (cond t (Some (Sixth (record { 0 = k }))) (crowd rs keys (suc n) ks)) (crowd rs keys n ks)))
      go f g true ea b eb t et = said_note (met_here k ks) (omega arith) ea
      go f g false ea true eb true et = said_sixth (met_here k ks) (omega (arith, eqb-true n 5 et)) eb ea
      go f g false ea true eb false et = an_entry ea eb (f (omega (arith, eqb-false n 5 et)))
      go f g false ea false eb t et = no_entry ea eb g

pub reason_true : (x : Script) (keys : Bool) (k : RecordNo) (from : ℕ) → True x keys k from (reason x keys k from)
unfolding reason
reason_true x keys k from = go (too_wide x k) refl
  where
    by : (r : Option Reason) → too_wide x k ≡ false → reason x keys k from ≡ r → Says x.tree keys 0 (children_from x.tree k from) r → True x keys k from r
    by (Some (Wide _)) w e x5 = elim x5 [ ]
    by (Some (Comment c)) w e (said_note g h i) = note w g (omega arith) i
    by (Some (Sixth c)) w e (said_sixth {m = m} g h i j) = let z : m ≡ 5 = omega arith in sixth w (rw z at g) i j
    by None w e said_none = fits (rw e at (sym (loose_by_rule x keys k from)))

    go : (w : Bool) → too_wide x k ≡ w → True x keys k from (cond w (Some (Wide (place_in x.source (node_of x.tree k.0).span 80))) (crowd x.tree keys 0 (children_from x.tree k from)))
    go true e = wide e
    go false e = by (crowd x.tree keys 0 (children_from x.tree k from)) e (rw e) (crowd_says x.tree keys 0 (children_from x.tree k from) (omega arith))

-- ---- what is told of a node is true of it

module _ (x : Script) (k : RecordNo) {r : Option Reason} where
  object_true : eqb (node_of x.tree k.0).kind (byte_of Kind.ExprObject) ≡ true → of_object x k ≡ Ok r → TrueOf x k r
  unfolding of_object of_first of_named
  object_true o = go (peek_of x.tree (children_of x.tree k.0)) refl
    where
      named : (name : RecordNo) → peek_of x.tree (children_of x.tree k.0) ≡ Some name → (t : Bool) → is_name (node_of x.tree name.0).kind ≡ t
          → cond t (Ok (reason x true k (behind x.tree name.0))) (Err (WrongKind name)) ≡ Ok r → TrueOf x k r
      named name p true t e = let z : reason x true k (behind x.tree name.0) ≡ r = cc in of_object_lem o p t (rw z at (reason_true x true k (behind x.tree name.0)))
      named name p false t e = let z : ◌≡◌ {A = ℕ} 0 1 = cc in absurd (omega arith)

      go : (f : Option RecordNo) → peek_of x.tree (children_of x.tree k.0) ≡ f → of_first x k f ≡ Ok r → TrueOf x k r
      go (Some name) p e = named name p (is_name (node_of x.tree name.0).kind) refl e
      go None p e = let z : ◌≡◌ {A = ℕ} 0 1 = cc in absurd (omega arith)

  pub told_true : why_at x k ≡ Ok r → TrueOf x k r
  unfolding why_at of_kind
  told_true = go (leb (length x.tree) k.0) (is_list (node_of x.tree k.0).kind) refl (eqb (node_of x.tree k.0).kind (byte_of Kind.ExprObject)) refl
    where
      first : ℕ
      first = (children_of x.tree k.0).at.0

      go : (past list : Bool) → is_list (node_of x.tree k.0).kind ≡ list → (keys : Bool) → eqb (node_of x.tree k.0).kind (byte_of Kind.ExprObject) ≡ keys
          → cond past (Err (NoNode k)) (cond list (Ok (reason x false k first)) (cond keys (of_object x k) (Err (NoRule k)))) ≡ Ok r → TrueOf x k r
      go true list l keys o e = let z : ◌≡◌ {A = ℕ} 0 1 = cc in absurd (omega arith)
      go false true l keys o e = let z : reason x false k first ≡ r = cc in of_list l (rw z at (reason_true x false k first))
      go false false l true o e = object_true o e
      go false false l false o e = let z : ◌≡◌ {A = ℕ} 0 1 = cc in absurd (omega arith)

-- over any bytes: a reason is told of opened ones alone
pub why_true : (src list : List ℕ) (k : RecordNo) {r : Option Reason} → why src list k ≡ Ok r → TrueOf (script_in src list) k r
why_true src list k e = told_true (script_in src list) k (why_opened src list k e)
