-- Call records, kind by kind. Assumes nothing.
use Rattle.text.proofs.Base.{◌≡◌, refl, ap, ◌∙◌, List, [], ◌∷◌, ℕ, zero, suc, ◌+◌, ◌*◌, ◌≤◌, arith, length, drop, get_or, ne_eqb}
use mathlib.Core.Option.{Option, none, some}
use Rattle.tree.specs.{declared.record.RecordNo.RecordNo, Records.four}
use Rattle.meaning.specs.declared.call.Call.{Call}
use Rattle.meaning.specs.CallRecord.{Body, a_number, listed, a_byte, nothing, at, read_body, read_as, of_kind, decode}
use Rattle.entry.specs.Served.{numbered}

pub at_none : (cs : List Call) (n : ℕ) → length cs ≤ n → none ≡ at cs n
at_none [] n h = refl
at_none (c ∷ cs) zero h = absurd (omega arith)
at_none (c ∷ cs) (suc n) h = at_none cs n (omega arith)

-- no call has no body by another kind, or one byte, or a number
pub bare_none : (kind : ℕ) → (kind ≡ 8 → ⊥) → (kind ≡ 10 → ⊥) → (kind ≡ 11 → ⊥) → none ≡ decode (kind ∷ [])
unfolding decode
bare_none zero h8 h10 h11 = refl
bare_none (suc zero) h8 h10 h11 = refl
bare_none (suc (suc zero)) h8 h10 h11 = refl
bare_none (suc (suc (suc zero))) h8 h10 h11 = refl
bare_none (suc (suc (suc (suc zero)))) h8 h10 h11 = refl
bare_none (suc (suc (suc (suc (suc zero))))) h8 h10 h11 = refl
bare_none (suc (suc (suc (suc (suc (suc zero)))))) h8 h10 h11 = refl
bare_none (suc (suc (suc (suc (suc (suc (suc zero))))))) h8 h10 h11 = refl
bare_none (suc (suc (suc (suc (suc (suc (suc (suc zero)))))))) h8 h10 h11 = absurd (h8 refl)
bare_none (suc (suc (suc (suc (suc (suc (suc (suc (suc zero))))))))) h8 h10 h11 = refl
bare_none (suc (suc (suc (suc (suc (suc (suc (suc (suc (suc zero)))))))))) h8 h10 h11 = absurd (h10 refl)
bare_none (suc (suc (suc (suc (suc (suc (suc (suc (suc (suc (suc zero))))))))))) h8 h10 h11 = absurd (h11 refl)
bare_none (suc (suc (suc (suc (suc (suc (suc (suc (suc (suc (suc (suc k)))))))))))) h8 h10 h11 = refl

pub short_none : (kind b : ℕ) → (kind ≡ 4 → ⊥) → (kind ≡ 5 → ⊥) → (kind ≡ 6 → ⊥) → (kind ≡ 7 → ⊥) → (kind ≡ 9 → ⊥) → none ≡ decode (kind ∷ b ∷ [])
unfolding decode
short_none zero b h4 h5 h6 h7 h9 = refl
short_none (suc zero) b h4 h5 h6 h7 h9 = refl
short_none (suc (suc zero)) b h4 h5 h6 h7 h9 = refl
short_none (suc (suc (suc zero))) b h4 h5 h6 h7 h9 = refl
short_none (suc (suc (suc (suc zero)))) b h4 h5 h6 h7 h9 = absurd (h4 refl)
short_none (suc (suc (suc (suc (suc zero))))) b h4 h5 h6 h7 h9 = absurd (h5 refl)
short_none (suc (suc (suc (suc (suc (suc zero)))))) b h4 h5 h6 h7 h9 = absurd (h6 refl)
short_none (suc (suc (suc (suc (suc (suc (suc zero))))))) b h4 h5 h6 h7 h9 = absurd (h7 refl)
short_none (suc (suc (suc (suc (suc (suc (suc (suc zero)))))))) b h4 h5 h6 h7 h9 = refl
short_none (suc (suc (suc (suc (suc (suc (suc (suc (suc zero))))))))) b h4 h5 h6 h7 h9 = absurd (h9 refl)
short_none (suc (suc (suc (suc (suc (suc (suc (suc (suc (suc zero)))))))))) b h4 h5 h6 h7 h9 = refl
short_none (suc (suc (suc (suc (suc (suc (suc (suc (suc (suc (suc zero))))))))))) b h4 h5 h6 h7 h9 = refl
short_none (suc (suc (suc (suc (suc (suc (suc (suc (suc (suc (suc (suc k)))))))))))) b h4 h5 h6 h7 h9 = refl

pub numbered_none : (kind : ℕ) (k : RecordNo) → (kind ≡ 1 → ⊥) → (kind ≡ 2 → ⊥) → (kind ≡ 3 → ⊥) → none ≡ numbered kind k
unfolding numbered
numbered_none zero i h1 h2 h3 = refl
numbered_none (suc zero) i h1 h2 h3 = absurd (h1 refl)
numbered_none (suc (suc zero)) i h1 h2 h3 = absurd (h2 refl)
numbered_none (suc (suc (suc zero))) i h1 h2 h3 = absurd (h3 refl)
numbered_none (suc (suc (suc (suc k)))) i h1 h2 h3 = refl

-- two bytes or more, and not four
long_body : (body : Body) (b c : ℕ) (bs : List ℕ) → (length (b ∷ c ∷ bs) ≡ 4 → ⊥) → none ≡ read_body body (b ∷ c ∷ bs)
long_body (a_number f) b c bs h = rw (ne_eqb (length (b ∷ c ∷ bs)) 4 h)
long_body (listed cs) b c bs h = refl
long_body (a_byte f) b c bs h = refl
long_body (nothing o) b c bs h = refl

long_as : (o : Option Body) (b c : ℕ) (bs : List ℕ) → (length (b ∷ c ∷ bs) ≡ 4 → ⊥) → none ≡ read_as o (b ∷ c ∷ bs)
long_as none b c bs h = refl
long_as (some body) b c bs h = long_body body b c bs h

-- no number of bytes that a kind has
pub long_none : (bs : List ℕ) → (length bs ≡ 1 → ⊥) → (length bs ≡ 2 → ⊥) → (length bs ≡ 5 → ⊥) → none ≡ decode bs
unfolding decode
long_none [] h1 h2 h5 = refl
long_none (k ∷ []) h1 h2 h5 = absurd (h1 refl)
long_none (k ∷ b ∷ []) h1 h2 h5 = absurd (h2 refl)
long_none (k ∷ b ∷ c ∷ bs) h1 h2 h5 = long_as (of_kind k) b c bs (λ e. h5 (omega arith))

-- the bytes as the code reads them
pub one_byte : (bs : List ℕ) → length bs ≡ 1 → bs ≡ get_or bs 0 0 ∷ []
one_byte [] h = absurd (omega arith)
one_byte (a ∷ []) h = refl
one_byte (a ∷ b ∷ bs) h = absurd (omega arith)

pub two_bytes : (bs : List ℕ) → length bs ≡ 2 → bs ≡ get_or bs 0 0 ∷ get_or bs 1 0 ∷ []
two_bytes [] h = absurd (omega arith)
two_bytes (a ∷ []) h = absurd (omega arith)
two_bytes (a ∷ b ∷ []) h = refl
two_bytes (a ∷ b ∷ c ∷ bs) h = absurd (omega arith)

five_at : (kind a b c d : ℕ) → numbered kind (record { 0 = four (a ∷ b ∷ c ∷ d ∷ []) }) ≡ decode (kind ∷ a ∷ b ∷ c ∷ d ∷ [])
unfolding decode numbered
five_at zero a b c d = refl
five_at (suc zero) a b c d = refl
five_at (suc (suc zero)) a b c d = refl
five_at (suc (suc (suc zero))) a b c d = refl
five_at (suc (suc (suc (suc zero)))) a b c d = refl
five_at (suc (suc (suc (suc (suc zero))))) a b c d = refl
five_at (suc (suc (suc (suc (suc (suc zero)))))) a b c d = refl
five_at (suc (suc (suc (suc (suc (suc (suc zero))))))) a b c d = refl
five_at (suc (suc (suc (suc (suc (suc (suc (suc zero)))))))) a b c d = refl
five_at (suc (suc (suc (suc (suc (suc (suc (suc (suc zero))))))))) a b c d = refl
five_at (suc (suc (suc (suc (suc (suc (suc (suc (suc (suc zero)))))))))) a b c d = refl
five_at (suc (suc (suc (suc (suc (suc (suc (suc (suc (suc (suc zero))))))))))) a b c d = refl
five_at (suc (suc (suc (suc (suc (suc (suc (suc (suc (suc (suc (suc k)))))))))))) a b c d = refl

pub five_bytes : (bs : List ℕ) (k : RecordNo) → length bs ≡ 5 → k.0 ≡ four (drop 1 bs) → numbered (get_or bs 0 0) k ≡ decode bs
five_bytes [] k h e = absurd (omega arith)
five_bytes (x ∷ []) k h e = absurd (omega arith)
five_bytes (x ∷ a ∷ []) k h e = absurd (omega arith)
five_bytes (x ∷ a ∷ b ∷ []) k h e = absurd (omega arith)
five_bytes (x ∷ a ∷ b ∷ c ∷ []) k h e = absurd (omega arith)
five_bytes (x ∷ a ∷ b ∷ c ∷ d ∷ []) k h e = ap (λ (n : ℕ). numbered x (record { 0 = n })) e ∙ five_at x a b c d
five_bytes (x ∷ a ∷ b ∷ c ∷ d ∷ f ∷ bs) k h e = absurd (omega arith)

-- four bytes behind the kind
pub four_at : (bs : List ℕ) → four (drop 1 bs) ≡ get_or bs 1 0 + get_or bs 2 0 * 0x100 + get_or bs 3 0 * 0x10000 + get_or bs 4 0 * 0x1000000
unfolding four
four_at [] = refl
four_at (b ∷ bs) = refl
