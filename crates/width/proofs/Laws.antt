-- What callers may rely on. Assumes nothing.
use mathlib.Core.Path.{◌≡◌, refl, sym, ap, ◌∙◌}
use mathlib.Core.Bool.{Bool, true, false, cond}
use mathlib.Core.List.{List, [], ◌∷◌}
use Prim.Native.Nat.{ℕ, zero, suc, pred, ◌+◌, min, ◌≤◌}
use native.Mathlib.Numerals.{add-one}
use native.Mathlib.Omega.{arith}
use lib.Dec.{ltb, eqb}
use lib.ListN.{length}
use borrow.Author.Tests.{ltb-true, ltb-false, eq-eqb, ne_eqb}
use Rattle.encoding.specs.Utf8.{char_len}
use Rattle.white.specs.White.{is_white}
use Rattle.text.specs.declared.span.Span.{Span}
use Rattle.text.specs.Span.{text_of}
use Rattle.text.specs.Chars.{chars_from, chars}
use Rattle.width.specs.Count.{dark, counted, width_of, is_wide}

-- the smaller of limit + 1 and d is limit + 1 exactly where d passes the limit
reached : (limit d : ℕ) → eqb (min (suc limit) d) (suc limit) ≡ ltb limit d
reached limit d = go (ltb limit d) refl
  where
    go : (t : Bool) → ltb limit d ≡ t → eqb (min (suc limit) d) (suc limit) ≡ t
    go true h = eq-eqb (min (suc limit) d) (suc limit) (omega (arith, ltb-true limit d h))
    go false h = ne_eqb (min (suc limit) d) (suc limit) (λ e. omega (arith, e, ltb-false limit d h))

-- wide is what document 01 asks: the span has more characters outside White_Space than the limit
pub more : (src : List ℕ) (span : Span) (limit : ℕ) → is_wide src span limit ≡ ltb limit (dark (chars (text_of src span)))
unfolding counted width_of
more src span limit = reached limit (dark (chars (text_of src span)))

-- the count is the width of the span that the text was taken of
pub width_of_lem : (src : List ℕ) (span : Span) (limit : ℕ) {text : List ℕ} {m : ℕ} → text ≡ text_of src span → m ≡ counted limit text → m ≡ width_of src span limit
unfolding width_of
width_of_lem src span limit e h = h ∙ ap (counted limit) e

-- the code's test of it
pub wide_at : (src : List ℕ) (span : Span) (limit : ℕ) {m : ℕ} → m ≡ width_of src span limit → eqb m (limit + 1) ≡ is_wide src span limit
wide_at src span limit e = rw (add-one, e)

-- ---- few bytes have few characters

dark_few : (cs : List ℕ) → dark cs ≤ length cs
unfolding dark
dark_few [] = omega arith
dark_few (c ∷ cs) = go (is_white c) (dark_few cs)
  where
    go : (w : Bool) → dark cs ≤ length cs → cond w (dark cs) (suc (dark cs)) ≤ suc (length cs)
    go true h = omega (arith, h)
    go false h = omega (arith, h)

chars_few : (k : ℕ) (s : List ℕ) → length (chars_from k s) ≤ length s
unfolding chars_from
chars_few k [] = omega arith
chars_few (suc k) (b ∷ bs) = omega (arith, chars_few k bs)
chars_few zero (b ∷ bs) = omega (arith, chars_few (pred (char_len (b ∷ bs))) bs)

pub few_bytes : (src : List ℕ) (span : Span) (limit : ℕ) → length (text_of src span) ≤ limit → false ≡ is_wide src span limit
unfolding counted width_of
few_bytes src span limit h =
    let text = text_of src span in
    sym (ne_eqb (min (suc limit) (dark (chars text))) (suc limit) (λ e. omega (arith, e, h, dark_few (chars text), chars_few 0 text)))
