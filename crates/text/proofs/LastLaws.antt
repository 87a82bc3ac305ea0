-- What the last byte and the last character tell of the White_Space that ends a text, as the code asks. Assumes nothing.
use mathlib.Core.Path.{◌≡◌, refl, sym, ap, ◌∙◌}
use mathlib.Core.Bool.{Bool, true, false, cond, ◌&&◌, false≢true}
use mathlib.Core.List.{List, [], ◌∷◌}
use Prim.Native.Nat.{ℕ, zero, suc, ◌+◌, ◌-◌, ◌≤◌, ◌<◌}
use native.Mathlib.Omega.{arith}
use lib.Dec.{leb, ltb, eqb}
use lib.ListN.{length, drop, get_or, length-drop, drop_of_length-le}
use lib.Seq.{drop-cons, get_or-drop}
use borrow.Author.Tests.{lt-leb, leb-true, ltb-true, eqb-true, eq-eqb, ne_eqb}
use Rattle.encoding.specs.Utf8.{Row, cont, in_range, table, all_in, len_by, char_len}
use Rattle.white.specs.White.{mem, whites, is_white, white_byte}
use Rattle.text.specs.declared.chars.Char.{Char}
use Rattle.text.specs.Chars.{code, step_of, char_at}
use Rattle.text.specs.Trim.{ends3000, ends_white, white_end}
use Rattle.white.proofs.Bools.{and_l, and_r, and_false}
use Rattle.white.proofs.WhiteLaws.{white_byte_lem}
use Rattle.encoding.proofs.RowLaws.{char_le}
use Rattle.encoding.proofs.WalkLaws.{plain_char}
use Rattle.text.proofs.CharLaws.{conts, seq}
use Rattle.text.proofs.TrimLaws.{OneWhite}
use Rattle.text.proofs.EndLaws.{ends_one}

-- ---- the last n bytes, more than one

pub ends_short : (n : ℕ) (s : List ℕ) → length s < n → false ≡ ends_white n s
unfolding ends_white
ends_short n s h = let z : length s - n ≡ 0 = omega arith in rw (z, ne_eqb (char_len s) n (λ e. omega (arith, e, char_le s)))

step_is : (m n : ℕ) → 1 < n → step_of m ≡ n → m ≡ n
step_is zero n h e = absurd (omega arith)
step_is (suc m) n h e = e

is_step : (m n : ℕ) → 1 < n → m ≡ n → step_of m ≡ n
is_step zero n h e = absurd (omega arith)
is_step (suc m) n h e = e

pub ends_char : (n : ℕ) (s : List ℕ) (c : Char) → 1 < n → c ≡ char_at (drop (length s - n) s) → c.len ≡ n → is_white c.code ≡ ends_white n s
unfolding ends_white
ends_char n s c h e l =
    let m = step_is (char_len (drop (length s - n) s)) n h (sym (ap (λ (d : Char). d.len) e) ∙ l) in
    rw (eq-eqb (char_len (drop (length s - n) s)) n m) (ap (λ (d : Char). is_white d.code) e ∙ ap (λ (k : ℕ). is_white (code k (drop (length s - n) s))) m)

pub ends_other : (n : ℕ) (s : List ℕ) (c : Char) → 1 < n → c ≡ char_at (drop (length s - n) s) → (c.len ≡ n → ⊥) → false ≡ ends_white n s
unfolding ends_white
ends_other n s c h e ne =
    rw (ne_eqb (char_len (drop (length s - n) s)) n (λ q. ne (ap (λ (d : Char). d.len) e ∙ is_step (char_len (drop (length s - n) s)) n h q)))

-- ---- the last byte

abbrev pub last_of : List ℕ → ℕ
last_of s = get_or s (length s - 1) 0

at_last : (s : List ℕ) → 0 < length s → drop (length s - 1) s ≡ last_of s ∷ []
at_last s h = drop-cons s (length s - 1) 0 (omega arith) ∙ ap (last_of s ∷◌) (drop_of_length-le s {i = suc (length s - 1)} (omega arith))

plain_end : (s : List ℕ) → 0 < length s → last_of s < 0x80 → ends_white 1 s ≡ is_white (last_of s)
unfolding ends_white code
plain_end s h l = rw (at_last s h, plain_char (last_of s) [] l)

-- a byte over 7F is no character by itself: every other row asks for a byte behind it
abbrev all_long : List Row → Bool
all_long [] = true
all_long (row ∷ rows) = ltb 0 (length row.behind) && all_long rows

none_alone : (rows : List Row) (b : ℕ) → all_long rows ≡ true → len_by rows b [] ≡ 0
unfolding len_by all_in
none_alone [] b e = refl
none_alone (row ∷ rows) b e = go (in_range row.lead b) row.behind (and_l (ltb 0 (length row.behind)) (all_long rows) e) (none_alone rows b (and_r (ltb 0 (length row.behind)) (all_long rows) e))
  where
    go : (t : Bool) (rs : List _) → ltb 0 (length rs) ≡ true → len_by rows b [] ≡ 0 → cond t (cond (all_in rs []) (suc (length rs)) 0) (len_by rows b []) ≡ 0
    go false rs l r = r
    go true [] l r = absurd (false≢true l)
    go true (q ∷ rs) l r = refl

pass_row : (row : Row) (rows : List Row) (b : ℕ) → in_range row.lead b ≡ false → len_by (row ∷ rows) b [] ≡ len_by rows b []
unfolding len_by
pass_row row rows b e = rw e

high_alone : (b : ℕ) → 0x80 ≤ b → char_len (b ∷ []) ≡ 0
unfolding char_len table
high_alone b l = pass_row _ _ b (rw (lt-leb b 0x7F l, and_false)) ∙ none_alone _ b refl

high_end : (s : List ℕ) → 0 < length s → 0x80 ≤ last_of s → ends_white 1 s ≡ false
unfolding ends_white
high_end s h l = rw (at_last s h, high_alone (last_of s) l)

-- a character of several bytes ends in one over 7F
conts_last : (bs : List ℕ) → conts (length bs) bs ≡ true → 0 < length bs → 0x80 ≤ get_or bs (length bs - 1) 0
conts_last [] e h = absurd (omega arith)
conts_last (b ∷ []) e h = leb-true 0x80 b (and_l (leb 0x80 b) (leb b 0xBF) (and_l (in_range cont b) true e))
conts_last (b ∷ c ∷ bs) e h =
    let z : length (b ∷ c ∷ bs) - 1 ≡ suc (length (c ∷ bs) - 1) = omega arith in
    rw z (conts_last (c ∷ bs) (and_r (in_range cont b) (conts (length (c ∷ bs)) (c ∷ bs)) e) (omega arith))

wide_last : (c : List ℕ) → OneWhite c → 1 < length c → 0x80 ≤ last_of c
wide_last c o h = rw o.is (go o.lead o.rest (rw o.is at o.whole) (rw o.is at h))
  where
    go : (y : ℕ) (ys : List ℕ) → char_len (y ∷ ys) ≡ length (y ∷ ys) → 1 < length (y ∷ ys) → 0x80 ≤ last_of (y ∷ ys)
    go y ys e h =
        let z : length (y ∷ ys) - 1 ≡ suc (length ys - 1) = omega arith in
        rw z (conts_last ys (rw e at (seq y ys (λ z. absurd (omega arith))).rest) (omega arith))

plain_only : (n : ℕ) (s : List ℕ) → last_of s < 0x80 → ends_white (suc (suc n)) s ≡ false
plain_only n s l = go (ends_white (suc (suc n)) s) refl
  where
    go : (t : Bool) → ends_white (suc (suc n)) s ≡ t → t ≡ false
    go false e = refl
    go true e =
        let o = ends_one (suc n) s e in
        let i = length s - suc (suc n) in
        let d = length-drop i s in
        let at : i + (length (drop i s) - 1) ≡ length s - 1 = omega (arith, o.0, d) in
        absurd (omega (arith, l, wide_last (drop i s) o.1 (omega (arith, o.0, d)), get_or-drop i s (length (drop i s) - 1) 0 ∙ ap (λ (k : ℕ). get_or s k 0) at))

-- U+3000 is White_Space, of three bytes
three_last : (s : List ℕ) → 3 ≤ length s → drop (length s - 3) s ≡ get_or s (length s - 3) 0 ∷ get_or s (length s - 2) 0 ∷ last_of s ∷ []
three_last s h =
    let p : suc (length s - 3) ≡ length s - 2 = omega arith in
    let q : suc (length s - 2) ≡ length s - 1 = omega arith in
    drop-cons s (length s - 3) 0 (omega arith)
    ∙ ap (get_or s (length s - 3) 0 ∷◌) (rw p (drop-cons s (length s - 2) 0 (omega arith) ∙ ap (get_or s (length s - 2) 0 ∷◌) (rw q (at_last s (omega arith)))))

pub ends_3000 : (s : List ℕ) → ends3000 s ≡ true → ends_white 3 s ≡ true
unfolding ends_white table all_in len_by char_len code is_white mem whites
ends_3000 s e =
    let f = and_r (leb 3 (length s)) _ e in
    let g = and_r (eqb (last_of s) 0x80) _ f in
    let x = eqb-true (get_or s (length s - 3) 0) 0xE3 (and_r (eqb (get_or s (length s - 2) 0) 0x80) _ g) in
    let y = eqb-true (get_or s (length s - 2) 0) 0x80 (and_l (eqb (get_or s (length s - 2) 0) 0x80) _ g) in
    let z = eqb-true (last_of s) 0x80 (and_l (eqb (last_of s) 0x80) _ f) in
    rw (three_last s (leb-true 3 (length s) (and_l (leb 3 (length s)) _ e)), x, y, z)

-- ---- by these the code answers

pub end_white : (s : List ℕ) → 0 < length s → white_byte (last_of s) ≡ true → 1 ≡ white_end s
unfolding white_end
end_white s h w =
    let l = ltb-true (last_of s) 0x80 (and_l (ltb (last_of s) 0x80) (is_white (last_of s)) w) in
    rw (plain_end s h l, sym (white_byte_lem (last_of s) l) ∙ w)

pub end_plain : (s : List ℕ) → 0 < length s → white_byte (last_of s) ≡ false → last_of s < 0x80 → 0 ≡ white_end s
unfolding white_end
end_plain s h w l = rw (plain_end s h l, sym (white_byte_lem (last_of s) l) ∙ w, plain_only 0 s l, plain_only 1 s l)

pub end_three : (s : List ℕ) → 0 < length s → 0x80 ≤ last_of s → ends_white 3 s ≡ true → 3 ≡ white_end s
unfolding white_end
end_three s h l w = rw (high_end s h l, w)

pub end_two : (s : List ℕ) → 0 < length s → 0x80 ≤ last_of s → ends_white 3 s ≡ false → ends_white 2 s ≡ true → 2 ≡ white_end s
unfolding white_end
end_two s h l v w = rw (high_end s h l, v, w)

pub end_high : (s : List ℕ) → 0 < length s → 0x80 ≤ last_of s → ends_white 3 s ≡ false → ends_white 2 s ≡ false → 0 ≡ white_end s
unfolding white_end
end_high s h l v w = rw (high_end s h l, v, w)
