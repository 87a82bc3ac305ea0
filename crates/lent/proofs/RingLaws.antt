-- The ring: a comment is pushed, and the head moves on. Assumes nothing.
use Rattle.text.proofs.Base.{◌≡◌, refl, sym, ap, ◌∙◌, Bool, true, false, List, [], ◌∷◌, ◌++◌, ℕ, ◌+◌, ◌-◌, ◌%◌, ◌<◌, arith}
use Rattle.text.proofs.Base.{length, get_or, eqb}
use lib.ListN.{set, length-set}
use lib.Seq.{get_or-set_same, get_or-set_other}
use Rattle.tree.specs.Records.{span_of}
use Rattle.meaning.specs.State.{Comment}
use Rattle.lent.specs.View.{slot_of, flag_of, comment_from, ring_at, queue_of, stored}
use Rattle.lent.proofs.TabLaws.{tab_snoc, tab_same, tab_next}

-- four words stored in a row
abbrev two : List ℕ → ℕ → ℕ → ℕ → List ℕ
two q p a b = set (set q p a) (p + 1) b

abbrev three : List ℕ → ℕ → ℕ → ℕ → ℕ → List ℕ
three q p a b c = set (two q p a b) (p + 2) c

abbrev four : List ℕ → ℕ → ℕ → ℕ → ℕ → ℕ → List ℕ
four q p a b c d = set (three q p a b c) (p + 3) d

other : (q : List ℕ) (p x a b c d : ℕ) → (x ≡ p → ⊥) → (x ≡ p + 1 → ⊥) → (x ≡ p + 2 → ⊥) → (x ≡ p + 3 → ⊥) → get_or (four q p a b c d) x 0 ≡ get_or q x 0
other q p x a b c d h0 h1 h2 h3 =
    get_or-set_other (three q p a b c) (p + 3) x d 0 h3 ∙ get_or-set_other (two q p a b) (p + 2) x c 0 h2 ∙ get_or-set_other (set q p a) (p + 1) x b 0 h1 ∙ get_or-set_other q p x a 0 h0

module _ (q : List ℕ) (p a b c d : ℕ) (fits : p + 3 < length q) where
  at0 : get_or (four q p a b c d) p 0 ≡ a
  at0 =
      get_or-set_other (three q p a b c) (p + 3) p d 0 (λ e. omega arith)
      ∙ get_or-set_other (two q p a b) (p + 2) p c 0 (λ e. omega arith)
      ∙ get_or-set_other (set q p a) (p + 1) p b 0 (λ e. omega arith)
      ∙ get_or-set_same q p a 0 (omega arith)

  at1 : get_or (four q p a b c d) (p + 1) 0 ≡ b
  at1 =
      get_or-set_other (three q p a b c) (p + 3) (p + 1) d 0 (λ e. omega arith)
      ∙ get_or-set_other (two q p a b) (p + 2) (p + 1) c 0 (λ e. omega arith)
      ∙ get_or-set_same (set q p a) (p + 1) b 0 (simp length-set (omega arith))

  at2 : get_or (four q p a b c d) (p + 2) 0 ≡ c
  at2 = get_or-set_other (three q p a b c) (p + 3) (p + 2) d 0 (λ e. omega arith) ∙ get_or-set_same (two q p a b) (p + 2) c 0 (simp length-set (omega arith))

  at3 : get_or (four q p a b c d) (p + 3) 0 ≡ d
  at3 = get_or-set_same (three q p a b c) (p + 3) d 0 (simp length-set (omega arith))

  there : comment_from (four q p a b c d) p ≡ record { span = span_of a b; before = c; line = eqb d 1 }
  there = λ i. record { span = span_of (at0 i) (at1 i); before = at2 i; line = eqb (at3 i) 1 }

kept_other : (q : List ℕ) (p x a b c d : ℕ) → ((j k : ℕ) → j < 4 → k < 4 → x + j ≡ p + k → ⊥) → comment_from (four q p a b c d) x ≡ comment_from q x
kept_other q p x a b c d h =
    let e : (j : ℕ) → j < 4 → get_or (four q p a b c d) (x + j) 0 ≡ get_or q (x + j) 0 = λ j l. other q p (x + j) a b c d (λ e. h j 0 l (omega arith) (omega arith)) (λ e. h j 1 l (omega arith) e) (λ e. h j 2 l (omega arith) e) (λ e. h j 3 l (omega arith) e) in
    let e0 : get_or (four q p a b c d) x 0 ≡ get_or q x 0 = other q p x a b c d (λ e. h 0 0 (omega arith) (omega arith) (omega arith)) (λ e. h 0 1 (omega arith) (omega arith) (omega arith)) (λ e. h 0 2 (omega arith) (omega arith) (omega arith)) (λ e. h 0 3 (omega arith) (omega arith) (omega arith)) in
    λ i. record { span = span_of (e0 i) (e 1 (omega arith) i); before = e 2 (omega arith) i; line = eqb (e 3 (omega arith) i) 1 }

flag_is : (line : Bool) → eqb (flag_of line) 1 ≡ line
flag_is true = refl
flag_is false = refl

-- the words of the comment c stand behind the last of n comments
pub push_law : (q : List ℕ) (h n p : ℕ) (c : Comment) → length q ≡ 1024 → n < 256 → p ≡ slot_of (h + n) → queue_of (stored q p c) h (n + 1) ≡ queue_of q h n ++ (c ∷ [])
push_law q h n p c l r ep =
    let e : ring_at (stored q (slot_of (h + n)) c) (h + n) ≡ c = there q (slot_of (h + n)) c.span.start.0 c.span.end.0 c.before (flag_of c.line) (omega arith) ∙ rw (flag_is c.line) in
    let s : queue_of (stored q (slot_of (h + n)) c) h n ≡ queue_of q h n = tab_same _ (ring_at q) h h n (λ k z. kept_other q (slot_of (h + n)) (slot_of (h + k)) _ _ _ _ (λ j j' a b u. omega arith)) in
    rw ep (tab_snoc _ h n ∙ rw (e, s))

-- a head counts by its remainder
pub head_mod : (q : List ℕ) (h n : ℕ) → queue_of q (h % 256) n ≡ queue_of q h n
head_mod q h n = tab_same (ring_at q) (ring_at q) (h % 256) h n (λ k z. let e : (h % 256 + k) % 256 ≡ (h + k) % 256 = omega arith in rw e)

-- the rest of the queue, by the comment that was read
pub ring_next : (q : List ℕ) (h n i : ℕ) (c : Comment) → i < n → c ≡ ring_at q (h + i) → queue_of q (h + i) (n - i) ≡ c ∷ queue_of q (h + (i + 1)) (n - (i + 1))
ring_next q h n i c l e = tab_next (ring_at q) h n i l ∙ ap (λ (x : Comment). x ∷ queue_of q (h + (i + 1)) (n - (i + 1))) (sym e)
