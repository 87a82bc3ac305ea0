-- What callers may rely on: the number of what is told, and where it is a reason. Assumes nothing.
use Rattle.text.proofs.Base.{◌≡◌, refl, Bool, true, false, cond, List, ℕ, ◌*◌, ◌≤◌, ◌<◌, arith, length, eqb, leb}
use Rattle.std.specs.Prelude.{Option, Some, None, Ok, Err}
use Rattle.tree.specs.declared.record.RecordNo.{RecordNo}
use Rattle.tree.specs.Table.{node_of}
use Rattle.tree.specs.Cursor.{children_of, peek_of}
use Rattle.kinds.specs.declared.Kind.{Kind}
use Rattle.kinds.specs.Facts.{byte_of}
use Rattle.opening.specs.Opening.{Opening}
use Rattle.opening.specs.declared.open.Unopened.TheVariants as found
use Rattle.opening.specs.Opening.{opened}
use Rattle.meaning.specs.declared.answer.Refusal.{Refusal}
use Rattle.meaning.specs.declared.answer.Refusal.TheVariants.{SourceLong, SourceIll, TreeBad, NoRoom, QueueFull, IndentOut, TreeDeep, WrongKind, NoRule, Finished, NoNode, BadCall}
use Rattle.meaning.specs.Numbers.{refusal_seen}
use Rattle.meaning.specs.Opening.{answer_to, script_in}
use Rattle.meaning.specs.State.{Script}
use Rattle.loose.specs.declared.reason.Reason.{Reason}
use Rattle.loose.specs.declared.reason.Reason.TheVariants.{Wide, Comment, Sixth}
use Rattle.loose.specs.Reason.{is_loose}
use Rattle.reasons.specs.Why.{Why, is_list, is_name, of_named, of_first, of_object, of_kind, why_at, on_opened, why}
use Rattle.reasons.specs.Numbers.{why_seen, packed, word_of, InOne}

-- ---- the place is the word that the code names: none of these refusals names a count

record Placed (w : Why) : Type 0 where
  is : (why_seen w).place ≡ word_of w

cond_placed : (t : Bool) {v w : Why} → Placed v → Placed w → Placed (cond t v w)
cond_placed true p q = p
cond_placed false p q = q

module _ (x : Script) (k : RecordNo) where
  first_placed : (f : Option RecordNo) → Placed (of_first x k f)
  unfolding of_first of_named
  first_placed (Some name) = cond_placed (is_name (node_of x.tree name.0).kind) (record { is = refl }) (record { is = refl })
  first_placed None = record { is = refl }

  at_placed : Placed (why_at x k)
  unfolding why_at of_kind of_object
  at_placed =
      cond_placed (leb (length x.tree) k.0) (record { is = refl })
      (cond_placed (is_list (node_of x.tree k.0).kind) (record { is = refl })
      (cond_placed (eqb (node_of x.tree k.0).kind (byte_of Kind.ExprObject)) (first_placed (peek_of x.tree (children_of x.tree k.0))) (record { is = refl })))

on_placed : (o : Opening) {w : Why} → Placed w → Placed (on_opened (answer_to o) w)
on_placed (Ok n) p = p
on_placed (Err found.SourceLong) p = record { is = refl }
on_placed (Err (found.SourceIll i)) p = record { is = refl }
on_placed (Err (found.TreeBad i)) p = record { is = refl }
on_placed (Err (found.TreeDeep i)) p = record { is = refl }

why_placed : (src list : List ℕ) (k : RecordNo) → Placed (why src list k)
unfolding why
why_placed src list k = on_placed (opened src list) (at_placed (script_in src list) k)

-- what the code makes of it is the number and the place
module _ (src list : List ℕ) (k : RecordNo) {n : ℕ} (h : InOne (why src list k) n) where
  pub told_number : n ≡ packed (why src list k)
  unfolding packed
  told_number = rw (why_placed src list k).is h.is

  pub told_fits : (why_seen (why src list k)).place < 0x100000000
  told_fits = rw (why_placed src list k).is h.fits

-- ---- refusals and reasons are told apart

refusal_low : (r : Refusal) → (1 ≤ (refusal_seen r).number) × ((refusal_seen r).number ≤ 12)
refusal_low SourceLong = (omega arith, omega arith)
refusal_low (SourceIll p) = (omega arith, omega arith)
refusal_low (TreeBad i) = (omega arith, omega arith)
refusal_low (NoRoom n) = (omega arith, omega arith)
refusal_low (QueueFull i) = (omega arith, omega arith)
refusal_low (IndentOut n) = (omega arith, omega arith)
refusal_low (TreeDeep i) = (omega arith, omega arith)
refusal_low (WrongKind i) = (omega arith, omega arith)
refusal_low (NoRule i) = (omega arith, omega arith)
refusal_low (Finished n) = (omega arith, omega arith)
refusal_low (NoNode k) = (omega arith, omega arith)
refusal_low (BadCall p) = (omega arith, omega arith)

-- a number is that of a reason, of which the list is loose or compact
pub record Reasoned (w : Why) (loose : Bool) : Type 0 where
  pub reason : Option Reason
  pub is : w ≡ Ok reason
  pub so : is_loose reason ≡ loose

module _ {n : ℕ} where
  -- 0 is said of a compact list alone
  pub none_compact : (w : Why) → n ≡ packed w → n ≡ 0 → Reasoned w false
  unfolding packed
  none_compact (Err r) e z = absurd (omega (arith, (refusal_low r).0))
  none_compact (Ok (Some (Wide p))) e z = absurd (omega arith)
  none_compact (Ok (Some (Comment k))) e z = absurd (omega arith)
  none_compact (Ok (Some (Sixth k))) e z = absurd (omega arith)
  none_compact (Ok None) e z = record { reason = None; is = refl; so = refl }

  -- from 101 on it is a loose list
  pub reason_loose : (w : Why) → n ≡ packed w → (why_seen w).place < 0x100000000 → 101 * 0x100000000 ≤ n → Reasoned w true
  unfolding packed
  reason_loose (Err r) e f h = absurd (omega (arith, (refusal_low r).1))
  reason_loose (Ok (Some (Wide p))) e f h = record { reason = Some (Wide p); is = refl; so = refl }
  reason_loose (Ok (Some (Comment k))) e f h = record { reason = Some (Comment k); is = refl; so = refl }
  reason_loose (Ok (Some (Sixth k))) e f h = record { reason = Some (Sixth k); is = refl; so = refl }
  reason_loose (Ok None) e f h = absurd (omega arith)

-- a reason is given over an opened tree alone
pub why_opened : (src list : List ℕ) (k : RecordNo) {r : Option Reason} → why src list k ≡ Ok r → why_at (script_in src list) k ≡ Ok r
unfolding why
why_opened src list k {r} = go (opened src list)
  where
    go : (o : Opening) → on_opened (answer_to o) (why_at (script_in src list) k) ≡ Ok r → why_at (script_in src list) k ≡ Ok r
    go (Ok n) e = e
    go (Err found.SourceLong) e = let z : ◌≡◌ {A = ℕ} 0 1 = cc in absurd (omega arith)
    go (Err (found.SourceIll i)) e = let z : ◌≡◌ {A = ℕ} 0 1 = cc in absurd (omega arith)
    go (Err (found.TreeBad i)) e = let z : ◌≡◌ {A = ℕ} 0 1 = cc in absurd (omega arith)
    go (Err (found.TreeDeep i)) e = let z : ◌≡◌ {A = ℕ} 0 1 = cc in absurd (omega arith)
