-- What callers may rely on, one law each: nobody above unfolds a definition of this crate. Assumes nothing.
use mathlib.Core.Path.{◌≡◌, refl, ap, ◌∙◌}
use mathlib.Core.Logic.{⊎_elim}
use mathlib.Core.Bool.{Bool, true, false, cond}
use mathlib.Core.List.{List, [], ◌++◌}
use Prim.Native.Nat.{ℕ, ◌-◌, ◌≤◌}
use native.Mathlib.Nat.{le_of_lt, min-eq_left, min-eq_right, min-le_left, max-eq_left, max-eq_right, max-le, le-max_left}
use native.Mathlib.Omega.{arith}
use lib.Dec.{leb, ltb}
use lib.ListN.{length, replicate, length-take, length-drop}
use borrow.Author.Tests.{leb-true, le-leb, ltb-false}
use Rattle.text.specs.declared.span.Span.{Span}
use Rattle.std.specs.Prelude.{Ok, Err}
use Rattle.text.specs.declared.source.Unfit.TheVariants.{Long}
use Rattle.text.specs.Span.{text_of, joined}
use Rattle.encoding.specs.Utf8.{Formed, Well, formed}
use Rattle.text.specs.Source.{Good, of_formed, checked}
use Rattle.text.specs.Chars.{edge, starts, in_source}
use Rattle.text.specs.Lines.{newlines}
use Rattle.text.specs.Trim.{trim}
use Rattle.text.specs.Delete.{delete, Blank, Blanks}
use Rattle.white.proofs.Bools.{and_l, and_r, le_or_lt}
use Rattle.text.proofs.CharLaws as chars-laws
use Rattle.text.proofs.LineLaws as lines-laws
use Rattle.text.proofs.FormedLaws as formed-laws
use Rattle.text.proofs.EndLaws as end-laws
use Rattle.text.proofs.DeleteLaws as delete-laws

-- ---- a source that opening let in

pub record GoodSource (s : List ℕ) : Type 0 where
  pub short : length s ≤ 65536
  pub well : formed s ≡ Well

pub good_source : (s : List ℕ) → checked s ≡ Good → GoodSource s
unfolding checked
good_source s e = go (ltb 65536 (length s)) (formed s) refl refl e
  where
    go : (t : Bool) (f : Formed) → ltb 65536 (length s) ≡ t → formed s ≡ f → cond t (Err Long) (of_formed f) ≡ Good → GoodSource s
    go true f l w e = let z : ◌≡◌ {A = ℕ} 0 1 = cc in absurd (omega arith)
    go false (Ok u) l w e = record { short = ltb-false 65536 (length s) l; well = w }
    go false (Err i) l w e = let z : ◌≡◌ {A = ℕ} 0 1 = cc in absurd (omega arith)

-- ---- boundaries

-- in a well-formed text a byte's own test says where characters start
pub starts_edge : (p : ℕ) (s : List ℕ) → formed s ≡ Well → starts p s ≡ edge p s
starts_edge p s w = chars-laws.starts_edge p 0 s w

pub record InSource (s : List ℕ) (a : Span) : Type 0 where
  pub order : a.start.0 ≤ a.end.0
  pub inside : a.end.0 ≤ length s
  pub start_on : starts a.start.0 s ≡ true
  pub end_on : starts a.end.0 s ≡ true

pub in_source_lem : (s : List ℕ) (a : Span) → in_source s a ≡ true → InSource s a
unfolding in_source
in_source_lem s a e =
    let f = and_r (leb a.start.0 a.end.0) _ e in
    let g = and_r (leb a.end.0 (length s)) _ f in
    record {
      order = leb-true _ _ (and_l (leb a.start.0 a.end.0) _ e);
      inside = leb-true _ _ (and_l (leb a.end.0 (length s)) _ f);
      start_on = and_l (starts a.start.0 s) _ g;
      end_on = and_r (starts a.start.0 s) _ g;
    }

pub is_in_source : (s : List ℕ) (a : Span) → InSource s a → in_source s a ≡ true
unfolding in_source
is_in_source s a h = rw (le-leb _ _ h.order, le-leb _ _ h.inside, h.start_on, h.end_on)

-- ---- spans

pub text_length : (s : List ℕ) (a : Span) → InSource s a → length (text_of s a) ≡ a.end.0 - a.start.0
text_length s a h = length-take _ _ ∙ min-eq_left (omega (arith, length-drop a.start.0 s, h))

pub text_formed : (s : List ℕ) (a : Span) → formed s ≡ Well → InSource s a → formed (text_of s a) ≡ Well
text_formed s a w h = formed-laws.between_formed s a.start.0 a.end.0 w h.order h.start_on h.end_on

pub joined_in : (s : List ℕ) (a b : Span) → InSource s a → InSource s b → InSource s (joined a b)
joined_in s a b h k = record {
  order = omega (arith, min-le_left a.start.0 b.start.0, le-max_left a.end.0 b.end.0, h);
  inside = max-le h.inside k.inside;
  start_on = ⊎_elim (λ l. on (min-eq_left l) h.start_on) (λ l. on (min-eq_right (le_of_lt l)) k.start_on) (le_or_lt a.start.0 b.start.0);
  end_on = ⊎_elim (λ l. on (max-eq_right l) k.end_on) (λ l. on (max-eq_left (le_of_lt l)) h.end_on) (le_or_lt a.end.0 b.end.0);
}
  where
    on : {p q : ℕ} → p ≡ q → starts q s ≡ true → starts p s ≡ true
    on e o = ap (λ (p : ℕ). starts p s) e ∙ o

-- ---- newlines and trimming

pub newlines_le : (s : List ℕ) → newlines s ≤ length s
newlines_le s = lines-laws.newlines_le s

pub trim_le : (s : List ℕ) → length (trim s) ≤ length s
trim_le s = end-laws.trim_le s

pub trim_formed : (s : List ℕ) → formed s ≡ Well → formed (trim s) ≡ Well
trim_formed s w = delete-laws.trim_formed s w

-- ---- White_Space deleted

pub formed_append : (xs ys : List ℕ) → formed xs ≡ Well → formed ys ≡ Well → formed (xs ++ ys) ≡ Well
formed_append xs ys e f = formed-laws.formed_append xs ys e f

-- it distributes over joining at a character boundary
pub delete_append : (xs ys : List ℕ) → formed xs ≡ Well → delete (xs ++ ys) ≡ delete xs ++ delete ys
delete_append xs ys w = delete-laws.delete_append xs ys w

-- a trimmed text loses nothing else
pub delete_trim : (s : List ℕ) → formed s ≡ Well → delete (trim s) ≡ delete s
delete_trim s w = delete-laws.delete_trim s w

-- gaps of spaces and newlines vanish
pub blanks_delete : {bs : List ℕ} → Blanks bs → delete bs ≡ []
blanks_delete h = delete-laws.blanks_delete h

pub blanks_formed : {bs : List ℕ} → Blanks bs → formed bs ≡ Well
blanks_formed h = delete-laws.blanks_formed h 0

pub blanks_append : {xs ys : List ℕ} → Blanks xs → Blanks ys → Blanks (xs ++ ys)
blanks_append h k = delete-laws.blanks_append h k

pub blanks_replicate : (n : ℕ) {b : ℕ} → Blank b → Blanks (replicate n b)
blanks_replicate n h = delete-laws.blanks_replicate n h
