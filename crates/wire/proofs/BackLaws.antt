-- What was written of a state reads back as that state, and can be lent again. Assumes nothing.
use mathlib.Core.Path.{◌≡◌, refl, ap, ◌∙◌}
use mathlib.Core.Bool.{Bool, true, false}
use mathlib.Core.List.{List, [], ◌∷◌, ◌++◌}
use Prim.Native.Nat.{ℕ, zero, suc, ◌+◌, ◌-◌, ◌*◌, ◌≤◌, ◌<◌, min}
use native.Mathlib.Nat.{add-zero, min-eq_left}
use native.Mathlib.Omega.{arith}
use lib.ListN.{length, get_or, replicate, length-append, length-replicate}
use lib.Seq.{take_all, get_or-append-add}
use lib.Dec.{eqb, ltb}
use borrow.Author.Tests.{le-leb}
use Rattle.tree.specs.Records.{span_of}
use Rattle.meaning.specs.State.{Comment, State}
use Rattle.lent.specs.View.{tab, flag_of, comment_from, slot_words, slots_of}
use Rattle.wire.specs.Words.{word_at}
use Rattle.wire.specs.StateBytes.{is_flag, comment_word, line_flags, shaped, comment_at, state_in, state_words, bytes_of}
use Rattle.wire.proofs.WordLaws.{bytes_length, word_back}

-- ---- flags

flag_is : (b : Bool) → eqb (flag_of b) 1 ≡ b
flag_is true = refl
flag_is false = refl

flag_small : (b : Bool) → ltb (flag_of b) 2 ≡ true
flag_small true = refl
flag_small false = refl

-- ---- the queue's words

words_long : (cs : List Comment) → length (slot_words cs) ≡ length cs * 4
unfolding slot_words
words_long [] = refl
words_long (c ∷ cs) = let e : length (slot_words cs) ≡ length cs * 4 = words_long cs in omega arith

slot_skip : (a b c d : ℕ) (ws : List ℕ) (k : ℕ) → comment_from (a ∷ b ∷ c ∷ d ∷ ws) (suc k * 4) ≡ comment_from ws (k * 4)
slot_skip a b c d ws k =
    let e₀ : suc k * 4 ≡ suc (suc (suc (suc (k * 4)))) = omega arith in
    let e₁ : suc k * 4 + 1 ≡ suc (suc (suc (suc (k * 4 + 1)))) = omega arith in
    let e₂ : suc k * 4 + 2 ≡ suc (suc (suc (suc (k * 4 + 2)))) = omega arith in
    let e₃ : suc k * 4 + 3 ≡ suc (suc (suc (suc (k * 4 + 3)))) = omega arith in
    rw (e₁, e₂, e₃, e₀)

slot_reads : (cs : List Comment) (zs : List ℕ) (k : ℕ) (d : Comment) → k < length cs → comment_from (slot_words cs ++ zs) (k * 4) ≡ get_or cs k d
unfolding slot_words
slot_reads [] zs k d l = absurd (omega arith)
slot_reads (c ∷ cs) zs zero d l = rw (flag_is c.line)
slot_reads (c ∷ cs) zs (suc k) d l = slot_skip _ _ _ _ (slot_words cs ++ zs) k ∙ slot_reads cs zs k d (omega arith)

slot_flag : (cs : List Comment) (zs : List ℕ) (k : ℕ) (d : Comment) → k < length cs → get_or (slot_words cs ++ zs) (k * 4 + 3) 0 ≡ flag_of (get_or cs k d).line
unfolding slot_words
slot_flag [] zs k d l = absurd (omega arith)
slot_flag (c ∷ cs) zs zero d l = refl
slot_flag (c ∷ cs) zs (suc k) d l = let e : suc k * 4 + 3 ≡ suc (suc (suc (suc (k * 4 + 3)))) = omega arith in rw e (slot_flag cs zs k d (omega arith))

tab_reads : {A : Type 0} (f : ℕ → A) (i : ℕ) (q : List A) (d : A) → ((k : ℕ) → k < length q → f (i + k) ≡ get_or q k d) → tab f i (length q) ≡ q
unfolding tab
tab_reads f i [] d h = refl
tab_reads {A} f i (a ∷ q) d h =
    let e : f i ≡ a = simp add-zero at (h 0 (omega arith)) in
    let r : tab f (suc i) (length q) ≡ q = tab_reads f (suc i) q d (λ k l. let p : suc i + k ≡ i + suc k = omega arith in rw p (h (suc k) (omega arith))) in
    rw (e, r)

-- ---- a state all of whose numbers are words

pub record Words (s : State) : Type 0 where
  pub fit : (i : ℕ) → get_or (state_words s) i 0 < 0x100000000
  pub few : length s.queue ≤ 256

-- the first eight words
abbrev head_of : State → List ℕ
head_of s = s.len ∷ s.lines ∷ flag_of s.use_lines ∷ flag_of s.ws ∷ s.indent ∷ flag_of s.finished ∷ length s.queue ∷ 0 ∷ []

-- any comment, for places behind the last
abbrev no_comment : Comment
no_comment = record { span = span_of 0 0; before = 0; line = false }

module _ (s : State) (h : Words s) where
  slots_are : slots_of s.queue ≡ slot_words s.queue ++ replicate (1024 - length s.queue * 4) 0
  unfolding slots_of
  slots_are = rw (take_all 256 s.queue h.few)

  slots_long : length (slots_of s.queue) ≡ 1024
  slots_long =
      let z : length {A = ℕ} (replicate (1024 - length s.queue * 4) 0) ≡ 1024 - length s.queue * 4 = length-replicate {A = ℕ} (1024 - length s.queue * 4) 0 in
      ap length slots_are ∙ length-append (slot_words s.queue) (replicate (1024 - length s.queue * 4) 0) ∙ omega (arith, words_long s.queue, h.few)

  all_long : length (state_words s) ≡ 1032
  all_long = omega (arith, slots_long)

  word_at_lem : (i : ℕ) → i < 1032 → word_at (bytes_of s) i ≡ get_or (state_words s) i 0
  unfolding bytes_of
  word_at_lem i l = word_back (state_words s) i (h.fit i) (omega (arith, all_long))

  slot_at : (m : ℕ) → m < 1024 → word_at (bytes_of s) (8 + m) ≡ get_or (slots_of s.queue) m 0
  slot_at m l = word_at_lem (8 + m) (omega arith) ∙ get_or-append-add (head_of s) (slots_of s.queue) m 0

  comment_at_lem : (k : ℕ) → k < length s.queue → comment_at (bytes_of s) k ≡ get_or s.queue k no_comment
  comment_at_lem k l =
      let a : (j : ℕ) → j < 4 → word_at (bytes_of s) (8 + (k * 4 + j)) ≡ get_or (slots_of s.queue) (k * 4 + j) 0 = λ j b. slot_at (k * 4 + j) (omega (arith, h.few)) in
      let e₁ : 8 + k * 4 + 1 ≡ 8 + (k * 4 + 1) = omega arith in
      let e₂ : 8 + k * 4 + 2 ≡ 8 + (k * 4 + 2) = omega arith in
      let e₃ : 8 + k * 4 + 3 ≡ 8 + (k * 4 + 3) = omega arith in
      rw (e₁, e₂, e₃, slot_at (k * 4) (omega (arith, h.few)), a 1 (omega arith), a 2 (omega arith), a 3 (omega arith), slots_are) (slot_reads s.queue _ k no_comment l)

  queue_at : tab (comment_at (bytes_of s)) 0 (length s.queue) ≡ s.queue
  queue_at = tab_reads (comment_at (bytes_of s)) 0 s.queue no_comment (λ k l. let p : 0 + k ≡ k = omega arith in rw p (comment_at_lem k l))

  pub reads_back : state_in (bytes_of s) ≡ s
  unfolding state_in
  reads_back =
      let w₀ : word_at (bytes_of s) 0 ≡ s.len = word_at_lem 0 (omega arith) in
      let w₁ : word_at (bytes_of s) 1 ≡ s.lines = word_at_lem 1 (omega arith) in
      let w₂ : word_at (bytes_of s) 2 ≡ flag_of s.use_lines = word_at_lem 2 (omega arith) in
      let w₃ : word_at (bytes_of s) 3 ≡ flag_of s.ws = word_at_lem 3 (omega arith) in
      let w₄ : word_at (bytes_of s) 4 ≡ s.indent = word_at_lem 4 (omega arith) in
      let w₅ : word_at (bytes_of s) 5 ≡ flag_of s.finished = word_at_lem 5 (omega arith) in
      let w₆ : word_at (bytes_of s) 6 ≡ length s.queue = word_at_lem 6 (omega arith) in
      rw (w₀, w₁, w₂, w₃, w₄, w₅, w₆, queue_at, flag_is s.use_lines, flag_is s.ws, flag_is s.finished)

  -- ---- the shape

  line_flag : (k : ℕ) → k < length s.queue → is_flag (bytes_of s) (comment_word k + 3) ≡ true
  line_flag k l =
      let e : 8 + k * 4 + 3 ≡ 8 + (k * 4 + 3) = omega arith in
      let w : word_at (bytes_of s) (8 + k * 4 + 3) ≡ flag_of (get_or s.queue k no_comment).line =
      rw e (slot_at (k * 4 + 3) (omega (arith, h.few)) ∙ rw slots_are (slot_flag s.queue _ k no_comment l)) in
      rw w (flag_small (get_or s.queue k no_comment).line)

  line_flags_lem : (k n : ℕ) → k + n ≤ length s.queue → line_flags (bytes_of s) k n ≡ true
  unfolding line_flags
  line_flags_lem k zero l = refl
  line_flags_lem k (suc n) l = rw (line_flag k (omega arith)) (line_flags_lem (suc k) n (omega arith))

  bytes_sized : length (bytes_of s) ≡ 4128
  unfolding bytes_of
  bytes_sized = bytes_length (state_words s) ∙ ap (◌* 4) all_long

  pub shaped_back : (cap : ℕ) → cap ≤ 0xFFFFFFFF → shaped (bytes_of s) cap ≡ true
  unfolding shaped
  shaped_back cap c =
      let w₂ : word_at (bytes_of s) 2 ≡ flag_of s.use_lines = word_at_lem 2 (omega arith) in
      let w₃ : word_at (bytes_of s) 3 ≡ flag_of s.ws = word_at_lem 3 (omega arith) in
      let w₅ : word_at (bytes_of s) 5 ≡ flag_of s.finished = word_at_lem 5 (omega arith) in
      let w₆ : word_at (bytes_of s) 6 ≡ length s.queue = word_at_lem 6 (omega arith) in
      let m : min (length s.queue) 256 ≡ length s.queue = min-eq_left h.few in
      rw (bytes_sized, le-leb cap 0xFFFFFFFF c, w₂, w₃, w₅, w₆, m, flag_small s.use_lines, flag_small s.ws, flag_small s.finished) (line_flags_lem 0 (length s.queue) (omega arith))
