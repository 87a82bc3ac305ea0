-- Characters of a text: the next one, and its boundaries. Assumes nothing.
use mathlib.Core.Path.{◌≡◌, refl, sym, ap, ap₂, ◌∙◌}
use mathlib.Core.Bool.{Bool, true, false, cond, not, ◌&&◌, ◌||◌, false≢true}
use mathlib.Core.List.{List, [], ◌∷◌, ◌++◌}
use Prim.Native.Nat.{ℕ, zero, suc, pred, ◌+◌, ◌*◌, ◌%◌, ◌≤◌, ◌<◌}
use native.Mathlib.Nat.{add-zero}
use native.Mathlib.Omega.{arith}
use lib.Dec.{leb, ltb, eqb, eqb-suc-zero, eqb-suc-suc}
use lib.ListN.{length, drop, get_or, drop_of_length-le, get_or-append}
use lib.Seq.{drop-cons, drop-drop, get_or-drop}
use borrow.Author.Tests.{le-leb, lt-leb, leb-true, ltb-true, ltb-false, lt-ltb}
use Rattle.text.specs.declared.chars.Char.{Char}
use Rattle.encoding.specs.Utf8.{Formed, Well, Range, Row, cont, in_range, table, all_in, len_by, char_len, at_lead, formed_from}
use Rattle.text.specs.Chars.{edge_from, edge, starts, code, chars_from, step_of, char_at}
use Rattle.white.proofs.Bools.{and_l, and_r}
use Rattle.encoding.proofs.RowLaws.{char_fits}
use Rattle.encoding.proofs.WalkLaws.{plain_char}

-- ---- the next character

chars_skip : (k : ℕ) (s : List ℕ) → chars_from k s ≡ chars_from 0 (drop k s)
unfolding chars_from
chars_skip zero s = refl
chars_skip (suc k) [] = refl
chars_skip (suc k) (b ∷ bs) = chars_skip k bs

step_pred : (i n : ℕ) → suc i + pred n ≡ i + step_of n
step_pred i zero = omega arith
step_pred i (suc n) = omega arith

pub step_fits : (s : List ℕ) (i : ℕ) → i < length s → i + step_of (char_len (drop i s)) ≤ length s
step_fits s i h = go (char_len (drop i s)) (char_fits s i h)
  where
    go : (n : ℕ) → i + n ≤ length s → i + step_of n ≤ length s
    go zero e = omega arith
    go (suc n) e = e

pub step_pos : (n : ℕ) → 0 < step_of n
step_pos zero = omega arith
step_pos (suc n) = omega arith

pub chars_next : (s : List ℕ) (i : ℕ) → i < length s → chars_from 0 (drop i s) ≡ (char_at (drop i s)).code ∷ chars_from 0 (drop (i + (char_at (drop i s)).len) s)
unfolding chars_from
chars_next s i h = rw (drop-cons s i 0 h) (ap (λ (l : List ℕ). code (char_len (get_or s i 0 ∷ drop (suc i) s)) (get_or s i 0 ∷ drop (suc i) s) ∷ l) (chars_skip (pred (char_len (get_or s i 0 ∷ drop (suc i) s))) (drop (suc i) s) ∙ rw (drop-drop, step_pred)))

pub chars_none : (s : List ℕ) (i : ℕ) → length s ≤ i → chars_from 0 (drop i s) ≡ []
unfolding chars_from
chars_none s i h = rw (drop_of_length-le s h)

pub code_at : (n i : ℕ) (s : List ℕ) → code n (drop i s) ≡
    cond (ltb n 2) (get_or s i 0)
    (cond (ltb n 3) (get_or s i 0 % 32 * 64 + get_or s (i + 1) 0 % 64)
    (cond (ltb n 4) (get_or s i 0 % 16 * 4096 + get_or s (i + 1) 0 % 64 * 64 + get_or s (i + 2) 0 % 64)
    (get_or s i 0 % 8 * 262144 + get_or s (i + 1) 0 % 64 * 4096 + get_or s (i + 2) 0 % 64 * 64 + get_or s (i + 3) 0 % 64)))
unfolding code
code_at n i s = simp (get_or-drop, add-zero)

-- what stands behind a character makes no difference to its code point
pub code_append : (n : ℕ) (xs ys : List ℕ) → 0 < length xs → n ≤ length xs → code n (xs ++ ys) ≡ code n xs
unfolding code
code_append n xs ys h l = go (ltb n 2) (ltb n 3) (ltb n 4) refl refl refl
  where
    same : (i : ℕ) → i < length xs → get_or (xs ++ ys) i 0 ≡ get_or xs i 0
    same i m = get_or-append xs ys 0 i m

    Code : (t u v : Bool) → List ℕ → ℕ
    Code t u v s =
        cond t (get_or s 0 0)
        (cond u (get_or s 0 0 % 32 * 64 + get_or s 1 0 % 64)
        (cond v (get_or s 0 0 % 16 * 4096 + get_or s 1 0 % 64 * 64 + get_or s 2 0 % 64)
        (get_or s 0 0 % 8 * 262144 + get_or s 1 0 % 64 * 4096 + get_or s 2 0 % 64 * 64 + get_or s 3 0 % 64)))

    go : (t u v : Bool) → ltb n 2 ≡ t → ltb n 3 ≡ u → ltb n 4 ≡ v → Code t u v (xs ++ ys) ≡ Code t u v xs
    go true u v p q r = same 0 h
    go false true v p q r = rw (same 0 h, same 1 (omega (arith, ltb-false n 2 p)))
    go false false true p q r = rw (same 0 h, same 1 (omega (arith, ltb-false n 3 q)), same 2 (omega (arith, ltb-false n 3 q)))
    go false false false p q r = let m = ltb-false n 4 r in rw (same 0 h, same 1 (omega arith), same 2 (omega arith), same 3 (omega arith))

-- a byte by itself, of code point b and length 1
abbrev single : ℕ → Char
single b = record { code = b; len = 1 }

alone : (s : List ℕ) (i n : ℕ) → char_len (drop i s) ≡ n → n < 2 → single (get_or s i 0) ≡ char_at (drop i s)
alone s i n e h = rw e (ap₂ char (sym (code_at n i s ∙ rw (lt-ltb n 2 h))) (go n h))
  where
    char : ℕ → ℕ → Char
    char c l = record { code = c; len = l }

    go : (n : ℕ) → n < 2 → 1 ≡ step_of n
    go zero h = refl
    go (suc zero) h = refl
    go (suc (suc n)) h = absurd (omega arith)

pub char_plain : (s : List ℕ) (i : ℕ) → i < length s → get_or s i 0 < 0x80 → single (get_or s i 0) ≡ char_at (drop i s)
char_plain s i h l = alone s i 1 (rw (drop-cons s i 0 h) (plain_char (get_or s i 0) (drop (suc i) s) l)) (omega arith)

pub char_ill : (s : List ℕ) (i n : ℕ) → n ≡ char_len (drop i s) → n ≡ 0 → single (get_or s i 0) ≡ char_at (drop i s)
char_ill s i n e z = alone s i n (sym e) (omega arith)

pub char_wide : (s : List ℕ) (i n c : ℕ) → n ≡ char_len (drop i s) → (n ≡ 0 → ⊥) → c ≡ code n (drop i s) → ◌≡◌ {A = Char} (record { code = c; len = n }) (char_at (drop i s))
char_wide s i zero c e ne q = absurd (ne refl)
char_wide s i (suc n) c e ne q = rw (q, ← e)

-- ---- boundaries: a byte's own test agrees with decoding where the text is well-formed

abbrev pub conts : ℕ → List ℕ → Bool
conts zero bs = true
conts (suc n) [] = false
conts (suc n) (b ∷ bs) = in_range cont b && conts n bs

abbrev all_sub : List Range → Bool
all_sub [] = true
all_sub (r ∷ rs) = (leb 0x80 r.lo && leb r.hi 0xBF) && all_sub rs

abbrev rows_ok : List Row → Bool
rows_ok [] = true
rows_ok (row ∷ rows) = ((ltb row.lead.hi 0x80 || ltb 0xBF row.lead.lo) && all_sub row.behind) && rows_ok rows

in_cont : (r : Range) (b : ℕ) → leb 0x80 r.lo && leb r.hi 0xBF ≡ true → in_range r b ≡ true → in_range cont b ≡ true
in_cont r b e h =
    let lo : 0x80 ≤ b = omega (arith, leb-true 0x80 r.lo (and_l (leb 0x80 r.lo) (leb r.hi 0xBF) e), leb-true r.lo b (and_l (leb r.lo b) (leb b r.hi) h)) in
    let hi : b ≤ 0xBF = omega (arith, leb-true r.hi 0xBF (and_r (leb 0x80 r.lo) (leb r.hi 0xBF) e), leb-true b r.hi (and_r (leb r.lo b) (leb b r.hi) h)) in
    rw (le-leb 0x80 b lo, le-leb b 0xBF hi)

not_cont : (r : Range) (b : ℕ) → ltb r.hi 0x80 || ltb 0xBF r.lo ≡ true → in_range r b ≡ true → in_range cont b ≡ false
not_cont r b e h = go (ltb r.hi 0x80) refl e
  where
    go : (t : Bool) → ltb r.hi 0x80 ≡ t → t || ltb 0xBF r.lo ≡ true → in_range cont b ≡ false
    go true q e = let l : b < 0x80 = omega (arith, ltb-true r.hi 0x80 q, leb-true b r.hi (and_r (leb r.lo b) (leb b r.hi) h)) in rw (lt-leb 0x80 b l)
    go false q e =
        let l : 0xBF < b = omega (arith, ltb-true 0xBF r.lo e, leb-true r.lo b (and_l (leb r.lo b) (leb b r.hi) h)) in
        rw (le-leb 0x80 b (omega arith), lt-leb b 0xBF l)

sub_conts : (rs : List Range) (bs : List ℕ) → all_sub rs ≡ true → all_in rs bs ≡ true → conts (length rs) bs ≡ true
unfolding all_in
sub_conts [] bs s e = refl
sub_conts (r ∷ rs) [] s e = absurd (false≢true e)
sub_conts (r ∷ rs) (b ∷ bs) s e =
    rw (in_cont r b (and_l (leb 0x80 r.lo && leb r.hi 0xBF) (all_sub rs) s) (and_l (in_range r b) (all_in rs bs) e)) (sub_conts rs bs (and_r (leb 0x80 r.lo && leb r.hi 0xBF) (all_sub rs) s) (and_r (in_range r b) (all_in rs bs) e))

-- a sequence is a byte that goes on nothing, and bytes that go on
pub record Seq (b n : ℕ) (bs : List ℕ) : Type 0 where
  pub head : in_range cont b ≡ false
  pub rest : conts (pred n) bs ≡ true

seq_by : (rows : List Row) (b : ℕ) (bs : List ℕ) → rows_ok rows ≡ true → (len_by rows b bs ≡ 0 → ⊥) → Seq b (len_by rows b bs) bs
unfolding len_by
seq_by [] b bs o ne = absurd (ne refl)
seq_by (row ∷ rows) b bs o ne = go (in_range row.lead b) (all_in row.behind bs) refl refl ne (seq_by rows b bs (and_r Ok (rows_ok rows) o))
  where
    Ok : Bool
    Ok = (ltb row.lead.hi 0x80 || ltb 0xBF row.lead.lo) && all_sub row.behind

    Len : Bool → Bool → ℕ
    Len t u = cond t (cond u (suc (length row.behind)) 0) (len_by rows b bs)

    go : (t u : Bool) → in_range row.lead b ≡ t → all_in row.behind bs ≡ u → (Len t u ≡ 0 → ⊥) → ((len_by rows b bs ≡ 0 → ⊥) → Seq b (len_by rows b bs) bs) → Seq b (Len t u) bs
    go true true p q ne r = record {
      head = not_cont row.lead b (and_l (ltb row.lead.hi 0x80 || ltb 0xBF row.lead.lo) (all_sub row.behind) (and_l Ok (rows_ok rows) o)) p;
      rest = sub_conts row.behind bs (and_r (ltb row.lead.hi 0x80 || ltb 0xBF row.lead.lo) (all_sub row.behind) (and_l Ok (rows_ok rows) o)) q;
    }
    go true false p q ne r = absurd (ne refl)
    go false u p q ne r = r ne

pub seq : (b : ℕ) (bs : List ℕ) → (char_len (b ∷ bs) ≡ 0 → ⊥) → Seq b (char_len (b ∷ bs)) bs
unfolding char_len table
seq b bs ne = seq_by table b bs refl ne

-- a well-formed text goes on well-formed behind its first sequence
pub well_lead : (n p : ℕ) (r : Formed) → at_lead n p r ≡ Well → (n ≡ 0 → ⊥) × (r ≡ Well)
well_lead zero p r e = let z : ◌≡◌ {A = ℕ} 0 1 = cc in absurd (omega arith)
well_lead (suc n) p r e = (omega arith, e)

starts_from : (k p q : ℕ) (s : List ℕ) → formed_from k q s ≡ Well → conts k s ≡ true → starts p s ≡ edge_from k p s
unfolding formed_from edge_from starts
starts_from k zero q [] g h = refl
starts_from k (suc p) q [] g h = refl
starts_from zero zero q (b ∷ bs) g h = rw (seq b bs (well_lead (char_len (b ∷ bs)) q _ g).0).head
starts_from (suc k) zero q (b ∷ bs) g h = rw (and_l (in_range cont b) (conts k bs) h)
starts_from (suc k) (suc p) q (b ∷ bs) g h = starts_from k p (suc q) bs g (and_r (in_range cont b) (conts k bs) h)
starts_from zero (suc p) q (b ∷ bs) g h =
    let r = well_lead (char_len (b ∷ bs)) q _ g in
    starts_from (pred (char_len (b ∷ bs))) p (suc q) bs r.1 (seq b bs r.0).rest

pub starts_edge : (p q : ℕ) (s : List ℕ) → formed_from 0 q s ≡ Well → starts p s ≡ edge p s
starts_edge p q s g = starts_from 0 p q s g refl

-- `starts` at a place
pub starts_in : (p : ℕ) (s : List ℕ) → p < length s → starts p s ≡ not (in_range cont (get_or s p 0))
unfolding starts
starts_in p [] h = absurd (omega arith)
starts_in zero (b ∷ bs) h = refl
starts_in (suc p) (b ∷ bs) h = starts_in p bs (omega arith)

pub starts_out : (p : ℕ) (s : List ℕ) → length s ≤ p → eqb p (length s) ≡ starts p s
unfolding starts
starts_out zero [] h = refl
starts_out (suc p) [] h = eqb-suc-zero p
starts_out zero (b ∷ bs) h = absurd (omega arith)
starts_out (suc p) (b ∷ bs) h = eqb-suc-suc p (length bs) ∙ starts_out p bs (omega arith)
