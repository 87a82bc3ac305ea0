-- The queue as a caller gets it: words from slot 0 on, and zero behind them. Assumes nothing.
use Rattle.text.proofs.Base.{◌≡◌, refl, sym, ap, ◌∙◌, Bool, true, false, List, [], ◌∷◌, ◌++◌, ℕ, zero, suc, ◌+◌, ◌-◌, ◌*◌, ◌<◌, ◌≤◌, min, arith}
use Rattle.text.proofs.Base.{length, take, leb}
use mathlib.Core.List.{append_assoc}
use native.Mathlib.Nat.{min-eq_left, min-eq_right}
use lib.ListN.{replicate}
use lib.Seq.{take_all}
use borrow.Author.Tests.{leb-true, leb-false}
use Rattle.meaning.specs.State.{Comment}
use Rattle.lent.specs.View.{tab, flag_of, ring_at, queue_of, stored, slot_words, slots_of}
use Rattle.lent.proofs.TabLaws.{length_tab, take_tab, tab_snoc}

words_append : (cs ds : List Comment) → slot_words (cs ++ ds) ≡ slot_words cs ++ slot_words ds
unfolding slot_words
words_append [] ds = refl
words_append (c ∷ cs) ds = ap (λ (l : List ℕ). c.span.start.0 ∷ c.span.end.0 ∷ c.before ∷ flag_of c.line ∷ l) (words_append cs ds)

words_length : (cs : List Comment) → length (slot_words cs) ≡ length cs * 4
unfolding slot_words
words_length [] = refl
words_length (c ∷ cs) = let e : length (slot_words cs) ≡ length cs * 4 = words_length cs in omega arith

-- four words over four zeros
over : (ws zs : List ℕ) (n : ℕ) (c : Comment) → length ws ≡ n → stored (ws ++ (0 ∷ 0 ∷ 0 ∷ 0 ∷ zs)) n c ≡ ws ++ (slot_words (c ∷ []) ++ zs)
unfolding slot_words
over [] zs zero c e = refl
over [] zs (suc n) c e = absurd (omega arith)
over (w ∷ ws) zs zero c e = absurd (omega arith)
over (w ∷ ws) zs (suc n) c e =
    let a : suc n + 1 ≡ suc (n + 1) = omega arith in
    let b : suc n + 2 ≡ suc (n + 2) = omega arith in
    let d : suc n + 3 ≡ suc (n + 3) = omega arith in
    rw (a, b, d) (ap (w ∷◌) (over ws zs n c (omega arith)))

-- i comments from slot 0 on, and zero behind them
abbrev pub filled : List ℕ → ℕ → ℕ → List ℕ
filled q h i = slot_words (queue_of q h i) ++ replicate (1024 - i * 4) 0

pub fill_start : (q : List ℕ) (h : ℕ) → replicate 1024 0 ≡ filled q h 0
unfolding slot_words tab
fill_start q h = refl

pub fill_turn : (q : List ℕ) (h i : ℕ) {p : ℕ} {c : Comment} {to to' : List ℕ} → i < 256 → p ≡ i * 4 → c ≡ ring_at q (h + i) → to' ≡ stored to p c → to ≡ filled q h i → to' ≡ filled q h (i + 1)
fill_turn q h i {p} {c} few ep ec et f =
    let z : 1024 - i * 4 ≡ suc (suc (suc (suc (1024 - (i + 1) * 4)))) = omega arith in
    let w : length (slot_words (queue_of q h i)) ≡ i * 4 = words_length (queue_of q h i) ∙ ap (◌* 4) (length_tab (ring_at q) h i) in
    et
    ∙ rw (ep, f, z) (over (slot_words (queue_of q h i)) (replicate (1024 - (i + 1) * 4) 0) (i * 4) c w)
    ∙ sym (append_assoc (slot_words (queue_of q h i)) (slot_words (c ∷ [])) (replicate (1024 - (i + 1) * 4) 0))
    ∙ ap (◌++ replicate (1024 - (i + 1) * 4) 0) (sym (words_append (queue_of q h i) (c ∷ [])) ∙ ap slot_words (ap (λ (d : Comment). queue_of q h i ++ (d ∷ [])) ec ∙ sym (tab_snoc (ring_at q) h i)))

take_queue : (q : List ℕ) (h count : ℕ) → take 256 (queue_of q h count) ≡ queue_of q h (min count 256)
take_queue q h count = go (leb count 256) refl
  where
    go : (t : Bool) → leb count 256 ≡ t → take 256 (queue_of q h count) ≡ queue_of q h (min count 256)
    go true e =
        let l : count ≤ 256 = leb-true count 256 e in
        let m : min count 256 ≡ count = min-eq_left l in
        rw m (take_all 256 (queue_of q h count) (omega (arith, length_tab (ring_at q) h count)))
    go false e =
        let l : 256 < count = leb-false count 256 e in
        let m : min count 256 ≡ 256 = min-eq_right (omega arith) in
        rw m (take_tab (ring_at q) h count 256 (omega arith))

pub fill_end : (q : List ℕ) (h count : ℕ) {to : List ℕ} → to ≡ filled q h (min count 256) → to ≡ slots_of (queue_of q h count)
unfolding slots_of
fill_end q h count f =
    let k : length (queue_of q h (min count 256)) ≡ min count 256 = length_tab (ring_at q) h (min count 256) in
    f ∙ rw (take_queue q h count, k)
