-- UTF-8 by Unicode's table 3-7, well-formed byte sequences. Assumes nothing.
use Rattle.std.specs.Prelude.{◌≡◌, ℕ, zero, suc, pred, ◌<◌, Bool, true, false, cond, ◌&&◌, ◌||◌, List, [], ◌∷◌, ◌++◌, length, take, drop, leb, ltb, eqb, ⊤, Result, Ok, Err}
use Rattle.encoding.specs.declared.utf8.IllFormed.{IllFormed}

-- ---- the table

pub record Range : Type 0 where
  pub lo : ℕ
  pub hi : ℕ

abbrev pub ◌⋯◌ : ℕ → ℕ → Range
a ⋯ b = record { lo = a; hi = b }

infix 80 ◌⋯◌
abbrev pub in_range : Range → ℕ → Bool
in_range r b = leb r.lo b && leb b r.hi

-- a row: what the first byte may be, and what each of the bytes behind it
pub record Row : Type 0 where
  pub lead : Range
  pub behind : List Range

abbrev pub ◌then◌ : Range → List Range → Row
r then rs = record { lead = r; behind = rs }

infix 40 ◌then◌
-- a byte that goes on a sequence
abbrev pub cont : Range
cont = 0x80 ⋯ 0xBF

unfoldable pub table : List Row
table =
    (0x00 ⋯ 0x7F then [])
    ∷ (0xC2 ⋯ 0xDF then cont ∷ [])
    ∷ (0xE0 ⋯ 0xE0 then 0xA0 ⋯ 0xBF ∷ cont ∷ [])
    ∷ (0xE1 ⋯ 0xEC then cont ∷ cont ∷ [])
    ∷ (0xED ⋯ 0xED then 0x80 ⋯ 0x9F ∷ cont ∷ [])
    ∷ (0xEE ⋯ 0xEF then cont ∷ cont ∷ [])
    ∷ (0xF0 ⋯ 0xF0 then 0x90 ⋯ 0xBF ∷ cont ∷ cont ∷ [])
    ∷ (0xF1 ⋯ 0xF3 then cont ∷ cont ∷ cont ∷ [])
    ∷ (0xF4 ⋯ 0xF4 then 0x80 ⋯ 0x8F ∷ cont ∷ cont ∷ [])
    ∷ []

-- ---- well-formed texts

-- the bytes begin with one of each range
unfoldable pub all_in : List Range → List ℕ → Bool
all_in [] bs = true
all_in (r ∷ rs) [] = false
all_in (r ∷ rs) (b ∷ bs) = in_range r b && all_in rs bs

-- the bytes are what the row gives, no more and no fewer
unfoldable pub is_row : Row → List ℕ → Bool
is_row row [] = false
is_row row (b ∷ bs) = in_range row.lead b && (all_in row.behind bs && eqb (length bs) (length row.behind))

-- the bytes are a well-formed sequence: some row gives them
unfoldable pub is_sequence : List Row → List ℕ → Bool
is_sequence [] s = false
is_sequence (row ∷ rows) s = is_row row s || is_sequence rows s

-- a text is well-formed if it can be cut into well-formed sequences
pub data WellFormed : List ℕ → Type 0 where
  none : WellFormed []
  more : (s : List ℕ) {t : List ℕ} → is_sequence table s ≡ true → WellFormed t → WellFormed (s ++ t)

-- at place p stands the first ill-formed sequence: what is before it is well-formed, and no well-formed sequence begins there
pub record FirstIll (s : List ℕ) (p : ℕ) : Type 0 where
  pub inside : p < length s
  pub before : WellFormed (take p s)
  pub here : (n : ℕ) → is_sequence table (take n (drop p s)) ≡ false

-- ---- the same, computed

-- how long the sequence is at the byte b with bs behind it, by the row that b leads: 0 where no row gives one
unfoldable pub len_by : List Row → ℕ → List ℕ → ℕ
len_by [] b bs = 0
len_by (row ∷ rows) b bs = cond (in_range row.lead b) (cond (all_in row.behind bs) (suc (length row.behind)) 0) (len_by rows b bs)

unfoldable pub char_len : List ℕ → ℕ
char_len [] = 0
char_len (b ∷ bs) = len_by table b bs

-- the second byte, by a first byte of E0 to F4: behind four of them not every byte may stand that goes on a sequence
abbrev pub second : ℕ → Range
second b = cond (eqb b 0xE0) 0xA0 (cond (eqb b 0xF0) 0x90 0x80) ⋯ cond (eqb b 0xED) 0x9F (cond (eqb b 0xF4) 0x8F 0xBF)

-- the two answers: well-formed, or an ill-formed sequence at place p
abbrev pub Formed : Type 0
Formed = Result ⊤ IllFormed

abbrev pub Well : Formed
Well = Ok tt

abbrev pub Ill : ℕ → Formed
Ill p = Err (record { at = p })

-- at place p begins a sequence of n bytes, or an ill-formed one where n is 0
abbrev pub at_lead : ℕ → ℕ → Formed → Formed
at_lead zero p rest = Ill p
at_lead (suc n) p rest = rest

-- p is the place of the first of the bytes, and the next k bytes end a sequence
unfoldable pub formed_from : ℕ → ℕ → List ℕ → Formed
formed_from k p [] = Well
formed_from (suc k) p (b ∷ bs) = formed_from k (suc p) bs
formed_from zero p (b ∷ bs) = at_lead (char_len (b ∷ bs)) p (formed_from (pred (char_len (b ∷ bs))) (suc p) bs)

-- well-formed, or the first byte of the first ill-formed sequence
abbrev pub formed : List ℕ → Formed
formed s = formed_from 0 0 s

-- no byte is over 7F
unfoldable pub all_plain : List ℕ → Bool
all_plain [] = true
all_plain (b ∷ bs) = ltb b 0x80 && all_plain bs
