-- White_Space deleted: it goes piece by piece, where a piece is well-formed. Assumes nothing.
use mathlib.Core.Path.{◌≡◌, refl, sym, ap, ◌∙◌}
use mathlib.Core.Bool.{Bool, true, false, not}
use mathlib.Core.List.{List, [], ◌∷◌, ◌++◌, append-nil}
use Prim.Native.Nat.{ℕ, zero, suc, pred, ◌≤◌, ◌<◌, zero-le}
use native.Mathlib.Nat.{le_of_suc-le-suc, not-suc-le-zero}
use native.Mathlib.Omega.{arith}
use lib.ListN.{length, replicate}
use Rattle.encoding.specs.Utf8.{Well, char_len, formed_from, formed}
use Rattle.white.specs.White.{mem, whites, is_white}
use Rattle.text.specs.Chars.{code}
use Rattle.text.specs.Delete.{onto, dark_at, delete_from, delete, Blank, is_space, is_newline, Blanks, no_blank, a_blank}
use Rattle.encoding.proofs.RowLaws.{char_le, char_append}
use Rattle.encoding.proofs.WalkLaws.{plain_char}
use Rattle.text.proofs.CharLaws.{well_lead, code_append}
use Rattle.text.specs.Trim.{trim}
use Rattle.text.proofs.FormedLaws.{behind_le, formed_front}
use Rattle.text.proofs.TrimLaws.{OneWhite, trim_white}
use Rattle.text.proofs.EndLaws.{Trims, kept, cut, trims}

-- ---- joining

onto_append : (t : Bool) (b : ℕ) (xs ys : List ℕ) → onto t b (xs ++ ys) ≡ onto t b xs ++ ys
onto_append true b xs ys = refl
onto_append false b xs ys = refl

keep_any : (t : Bool) (s : List ℕ) → delete_from t 0 s ≡ delete s
unfolding delete_from
keep_any t [] = refl
keep_any t (b ∷ bs) = refl

dark_append : (x : ℕ) (xs ys : List ℕ) → (char_len (x ∷ xs) ≡ 0 → ⊥) → dark_at (x ∷ (xs ++ ys)) ≡ dark_at (x ∷ xs)
dark_append x xs ys ne = rw (char_append x xs ys ne) (ap (λ (c : ℕ). not (is_white c)) (code_append (char_len (x ∷ xs)) (x ∷ xs) ys (omega arith) (char_le (x ∷ xs))))

from_append : (t : Bool) (k p : ℕ) (xs ys : List ℕ) → k ≤ length xs → formed_from k p xs ≡ Well → delete_from t k (xs ++ ys) ≡ delete_from t k xs ++ delete ys
unfolding delete_from formed_from
from_append t zero p [] ys h e = keep_any t ys
from_append t (suc k) p [] ys h e = absurd (not-suc-le-zero h)
from_append t (suc k) p (x ∷ xs) ys h e = ap (onto t x) (from_append t k (suc p) xs ys (le_of_suc-le-suc h) e) ∙ onto_append t x (delete_from t k xs) (delete ys)
from_append t zero p (x ∷ xs) ys h e =
    let r = well_lead (char_len (x ∷ xs)) p _ e in
    let d = dark_at (x ∷ xs) in
    rw (dark_append x xs ys r.0, char_append x xs ys r.0) (ap (onto d x) (from_append d (pred (char_len (x ∷ xs))) (suc p) xs ys (behind_le x xs) r.1) ∙ onto_append d x (delete_from d (pred (char_len (x ∷ xs))) xs) (delete ys))

pub delete_append : (xs ys : List ℕ) → formed xs ≡ Well → delete (xs ++ ys) ≡ delete xs ++ delete ys
delete_append xs ys e = from_append true 0 0 xs ys zero-le e

-- ---- blanks

record Vanishes (b : ℕ) : Type 0 where
  plain : b < 0x80
  white : is_white b ≡ true

vanishes : {b : ℕ} → Blank b → Vanishes b
unfolding is_white whites mem
vanishes is_space = record { plain = omega arith; white = refl }
vanishes is_newline = record { plain = omega arith; white = refl }

delete_blank : (b : ℕ) (bs : List ℕ) → Vanishes b → delete (b ∷ bs) ≡ delete bs
unfolding delete_from code
delete_blank b bs v = rw (plain_char b bs v.plain, v.white) (keep_any false bs)

pub blanks_delete : {bs : List ℕ} → Blanks bs → delete bs ≡ []
unfolding delete_from
blanks_delete no_blank = refl
blanks_delete (a_blank {b} {bs} h r) = delete_blank b bs (vanishes h) ∙ blanks_delete r

pub blanks_formed : {bs : List ℕ} → Blanks bs → (p : ℕ) → formed_from 0 p bs ≡ Well
unfolding formed_from
blanks_formed no_blank p = refl
blanks_formed (a_blank {b} {bs} h r) p = rw (plain_char b bs (vanishes h).plain) (blanks_formed r (suc p))

pub blanks_append : {xs ys : List ℕ} → Blanks xs → Blanks ys → Blanks (xs ++ ys)
blanks_append no_blank r = r
blanks_append (a_blank b q) r = a_blank b (blanks_append q r)

pub blanks_replicate : (n : ℕ) {b : ℕ} → Blank b → Blanks (replicate n b)
blanks_replicate zero h = no_blank
blanks_replicate (suc n) h = a_blank h (blanks_replicate n h)

-- ---- trimming takes what is deleted

all_deleted : (bs : List ℕ) → delete_from false (length bs) bs ≡ []
unfolding delete_from
all_deleted [] = refl
all_deleted (b ∷ bs) = all_deleted bs

one_deleted : (y : ℕ) (ys : List ℕ) → char_len (y ∷ ys) ≡ length (y ∷ ys) → is_white (code (length (y ∷ ys)) (y ∷ ys)) ≡ true → delete (y ∷ ys) ≡ []
unfolding delete_from
one_deleted y ys e w = rw (e, w, all_deleted ys)

white_deleted : (c : List ℕ) → OneWhite c → delete c ≡ []
white_deleted c o = rw o.is (one_deleted o.lead o.rest (rw o.is at o.whole) (rw o.is at o.white))

front_formed : (xs c : List ℕ) → OneWhite c → formed (xs ++ c) ≡ Well → formed xs ≡ Well
front_formed xs c o w = formed_front xs o.lead o.rest o.starts (rw o.is at w)

trims_formed : {s : List ℕ} → Trims s → formed s ≡ Well → formed (trim s) ≡ Well
trims_formed (kept e) w = ap formed e ∙ w
trims_formed (cut {s} xs c o e t) w = ap formed (ap trim e ∙ trim_white xs c o) ∙ trims_formed t (front_formed xs c o (ap formed (sym e) ∙ w))

pub trim_formed : (s : List ℕ) → formed s ≡ Well → formed (trim s) ≡ Well
trim_formed s w = trims_formed (trims s) w

trims_delete : {s : List ℕ} → Trims s → formed s ≡ Well → delete (trim s) ≡ delete s
trims_delete (kept e) w = ap delete e
trims_delete (cut {s} xs c o e t) w =
    let front = front_formed xs c o (ap formed (sym e) ∙ w) in
    ap delete (ap trim e ∙ trim_white xs c o) ∙ trims_delete t front
    ∙ sym (ap delete e ∙ delete_append xs c front ∙ ap (delete xs ++◌) (white_deleted c o) ∙ append-nil _)

pub delete_trim : (s : List ℕ) → formed s ≡ Well → delete (trim s) ≡ delete s
delete_trim s w = trims_delete (trims s) w
