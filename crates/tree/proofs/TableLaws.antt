-- Records as words, written and read back. Assumes nothing.
use mathlib.Core.Path.{◌≡◌, refl, sym, ap, ap₂, ◌∙◌}
use mathlib.Core.Bool.{Bool, true, false, cond}
use mathlib.Core.List.{List, [], ◌∷◌, ◌++◌, append_assoc, append-nil}
use Prim.Native.Nat.{ℕ, zero, suc, ◌+◌, ◌-◌, ◌*◌, ◌/◌, ◌%◌, ◌≤◌, ◌<◌, min}
use native.Mathlib.Nat.{sub-zero, mod-eq_of_lt}
use native.Mathlib.Omega.{arith}
use lib.Dec.{ltb}
use lib.ListN.{length, take, drop, get_or, length-append, take-append-drop, get_or-eq_default}
use lib.Seq.{take_all, take_at, drop_at, length-take-le, take-nil, drop-drop, get_or-drop}
use borrow.Author.Tests.{lt-ltb, le-ltb, ltb-true, le-leb}
use Rattle.tree.specs.declared.record.Record.{Record}
use Rattle.tree.specs.Records.{start_of, end_of, four, body_of, span_of, cut_record, record_of, record_at, records_from, records}
use Rattle.tree.specs.Table.{kind_word, words_of, with_record, room_of, fitting, read_from, table_of, tree_of, Decoded, node_of}
use Rattle.tree.proofs.RecordLaws.{body_le, records_none, split}

-- ---- room

pub room_is : (n : ℕ) → min (n / 4) 8192 ≡ room_of n
unfolding room_of
room_is n = omega arith

pub room_le : (n : ℕ) → (room_of n ≤ 8192) × (room_of n * 4 ≤ n)
unfolding room_of
room_le n = (omega arith, omega arith)

pub room_of_lem : (n : ℕ) → n ≤ 8192 → room_of (n * 4) ≡ n
unfolding room_of
room_of_lem n h = omega arith

pub fitting_all : (list : List ℕ) (n : ℕ) → length (records list) ≤ 8192 → length (records list) * 4 ≤ n → fitting n list ≡ records list
unfolding fitting room_of
fitting_all list n h k = take_all (min 8192 (n / 4)) (records list) (omega arith)

-- ---- one record

pub read_whole : (k a e n : ℕ) → k < 256 → ◌≡◌ {A = Record} (record { whole = true; kind = k; span = span_of a e; below = n }) (read_from k a e n)
unfolding read_from
read_whole k a e n h = sym (rw (lt-ltb k 256 h))

pub read_cut : (k a e n : ℕ) → 256 ≤ k → cut_record (k % 256) ≡ read_from k a e n
unfolding read_from
read_cut k a e n h = sym (rw (le-ltb k 256 h))

-- a record that is cut or whole, as one of the list's is
abbrev shape : ℕ → Bool → ℕ → ℕ → ℕ → Record
shape b t x y z = cond t (cut_record b) (record { whole = true; kind = b; span = span_of x y; below = z })

back : (b : ℕ) (t : Bool) (x y z : ℕ) → b < 256 → read_from (kind_word (shape b t x y z)) (start_of (shape b t x y z)) (end_of (shape b t x y z)) (shape b t x y z).below ≡ shape b t x y z
unfolding kind_word
back b true x y z h = let m : (256 + b) % 256 ≡ b = omega arith in sym (read_cut (256 + b) 0 0 0 (omega arith)) ∙ ap cut_record m
back b false x y z h = sym (read_whole b x y z h)

-- a record of the list, as words, reads as itself
read_back : (b : ℕ) (bs : List ℕ) → b < 256 → read_from (kind_word (record_of b bs)) (start_of (record_of b bs)) (end_of (record_of b bs)) (record_of b bs).below ≡ record_of b bs
unfolding record_of
read_back b bs h = back b (ltb (length bs) (body_of b)) (four bs) (four (drop 4 bs)) (cond (ltb b 0x80) 0 (four (drop 8 bs))) h

-- ---- tables

pub table_length : (w : List ℕ) (n : ℕ) → length (table_of w n) ≡ n
unfolding table_of
table_length w zero = refl
table_length w (suc n) = ap suc (table_length (drop 4 w) n)

pub size_is : (w : List ℕ) → length (tree_of w) ≡ room_of (length w)
unfolding tree_of
size_is w = table_length w (room_of (length w))

table_at : (w : List ℕ) (i n : ℕ) (d : Record) → i < n → get_or (table_of w n) i d ≡ read_from (get_or w (i * 4) 0) (get_or w (i * 4 + 1) 0) (get_or w (i * 4 + 2) 0) (get_or w (i * 4 + 3) 0)
unfolding table_of
table_at w i zero d h = absurd (omega arith)
table_at w zero (suc n) d h = refl
table_at w (suc i) (suc n) d h =
    let p₀ : suc i * 4 ≡ 4 + i * 4 = omega arith in
    let p₁ : suc i * 4 + 1 ≡ 4 + (i * 4 + 1) = omega arith in
    let p₂ : suc i * 4 + 2 ≡ 4 + (i * 4 + 2) = omega arith in
    let p₃ : suc i * 4 + 3 ≡ 4 + (i * 4 + 3) = omega arith in
    table_at (drop 4 w) i n d (omega arith) ∙ rw (get_or-drop 4 w (i * 4) 0, get_or-drop 4 w (i * 4 + 1) 0, get_or-drop 4 w (i * 4 + 2) 0, get_or-drop 4 w (i * 4 + 3) 0, p₁, p₂, p₃, p₀)

pub node_in : (w : List ℕ) (i : ℕ) → i < room_of (length w) → node_of (tree_of w) i ≡ read_from (get_or w (i * 4) 0) (get_or w (i * 4 + 1) 0) (get_or w (i * 4 + 2) 0) (get_or w (i * 4 + 3) 0)
unfolding node_of tree_of
node_in w i h = table_at w i (room_of (length w)) (cut_record 0) h

pub node_out : (w : List ℕ) (i : ℕ) → room_of (length w) ≤ i → cut_record 0 ≡ node_of (tree_of w) i
unfolding node_of
node_out w i h = sym (get_or-eq_default (tree_of w) (cut_record 0) (omega (arith, size_is w)))

-- no table holds more than 8,192 records
pub few : (w : List ℕ) → length (tree_of w) ≤ 8192
few w = omega (arith, size_is w, room_le (length w))

-- a cut record keeps its kind, 256 less
kind_read : (kind start end below : ℕ) → kind % 256 ≡ (read_from kind start end below).kind
unfolding read_from
kind_read kind start end below = go (ltb kind 256) refl
  where
    go : (t : Bool) → ltb kind 256 ≡ t → kind % 256 ≡ (cond t (record { whole = true; kind = kind; span = span_of start end; below = below }) (cut_record (kind % 256))).kind
    go true e = mod-eq_of_lt (ltb-true kind 256 e)
    go false e = refl

pub kind_in : (w : List ℕ) (i : ℕ) → i < room_of (length w) → get_or w (i * 4) 0 % 256 ≡ (node_of (tree_of w) i).kind
kind_in w i h = kind_read (get_or w (i * 4) 0) (get_or w (i * 4 + 1) 0) (get_or w (i * 4 + 2) 0) (get_or w (i * 4 + 3) 0) ∙ sym (ap (λ (r : Record). r.kind) (node_in w i h))

pub kind_out : (w : List ℕ) (i : ℕ) → room_of (length w) ≤ i → 0 ≡ (node_of (tree_of w) i).kind
kind_out w i h = ap (λ (r : Record). r.kind) (node_out w i h)

words_length : (rs : List Record) → length (words_of rs) ≡ length rs * 4
unfolding words_of
words_length [] = refl
words_length (r ∷ rs) = omega (arith, words_length rs)

-- the words of the list's records read as these records
table_back : (k : ℕ) (s : List ℕ) → ((i : ℕ) → get_or s i 0 < 256) → (n : ℕ) → table_of (words_of (take n (records_from k s))) (length (take n (records_from k s))) ≡ take n (records_from k s)
unfolding records_from words_of table_of
table_back k [] h n = rw take-nil
table_back (suc k) (b ∷ bs) h n = table_back k bs (λ i. h (suc i)) n
table_back zero (b ∷ bs) h zero = refl
table_back zero (b ∷ bs) h (suc n) = ap₂ ◌∷◌ (read_back b bs (h 0)) (table_back (body_of b) bs (λ i. h (suc i)) n)

-- so they do as a whole table
pub tree_back : (list : List ℕ) → ((i : ℕ) → get_or list i 0 < 256) → (n : ℕ) → length (take n (records list)) ≤ 8192 → tree_of (words_of (take n (records list))) ≡ take n (records list)
unfolding tree_of
tree_back list bytes n few =
    ap (table_of (words_of (take n (records list)))) (ap room_of (words_length (take n (records list))) ∙ room_of_lem (length (take n (records list))) few)
    ∙ table_back 0 list bytes n

pub words_append : (rs ss : List Record) → words_of (rs ++ ss) ≡ words_of rs ++ words_of ss
unfolding words_of
words_append [] ss = refl
words_append (r ∷ rs) ss = ap (λ (l : List ℕ). kind_word r ∷ start_of r ∷ end_of r ∷ r.below ∷ l) (words_append rs ss)

-- ---- one record written

module _ (words : List ℕ) (k : ℕ) (r : Record) where
  module _ (room : k * 4 + 4 ≤ length words) where
    -- the words in front stay, and those of the record follow
    pub put_front : take ((k + 1) * 4) (with_record words k r) ≡ take (k * 4) words ++ words_of (r ∷ [])
    unfolding with_record
    put_front =
        let long : length (take (k * 4) words ++ words_of (r ∷ [])) ≡ (k + 1) * 4 = omega (arith, length-append (take (k * 4) words) (words_of (r ∷ [])), words_length (r ∷ []), length-take-le (k * 4) words (omega arith)) in
        rw (le-leb (k * 4 + 4) (length words) room) (take_at (take (k * 4) words ++ words_of (r ∷ [])) (drop (k * 4 + 4) words) ((k + 1) * 4) long)

-- ---- decoding

-- n records are written, the next one starts at byte `at`
pub record Writing (list to₀ to : List ℕ) (most n at : ℕ) : Type 0 where
  pub top : most ≡ room_of (length to₀)
  pub few : n ≤ most
  pub near : at ≤ 13 * n
  pub long : length to ≡ length to₀
  pub old : drop (n * 4) to ≡ drop (n * 4) to₀
  pub counted : n + length (take (most - n) (records (drop at list))) ≡ length (fitting (length to₀) list)
  pub new : take (n * 4) to ++ words_of (take (most - n) (records (drop at list))) ≡ words_of (fitting (length to₀) list)

pub writing_none : {list to : List ℕ} {most : ℕ} → most ≡ room_of (length to) → Writing list to to most 0 0
unfolding fitting
writing_none e = record { top = e; few = omega arith; near = omega arith; long = refl; old = refl; counted = rw (sub-zero, e) (omega arith); new = rw (sub-zero, e) }

module _ {list to₀ to : List ℕ} {most n at : ℕ} (p : Writing list to₀ to most n at) where
  pub in_room : (n ≤ 8192) × (n * 4 ≤ length to)
  in_room = let r = room_le (length to₀) in (omega (arith, p), omega (arith, p))

  module _ {to' : List ℕ} {bd k : ℕ} {r : Record} (h : n < most) (l : at < length list) (read : r ≡ record_at (drop at list)) (body : bd ≡ body_of r.kind) (word : k ≡ kind_word r)
      (e : to' ≡ take (n * 4) to ++ (k ∷ start_of r ∷ end_of r ∷ r.below ∷ []) ++ drop (n * 4 + 4) to) (len : length to' ≡ length to) where
    later : List Record
    later = records (drop (at + (1 + bd)) list)

    front : List ℕ
    front = take (n * 4) to ++ (k ∷ start_of r ∷ end_of r ∷ r.below ∷ [])

    front_length : length front ≡ n * 4 + 4
    unfolding front
    front_length = length-append (take (n * 4) to) (k ∷ start_of r ∷ end_of r ∷ r.below ∷ []) ∙ ap (◌+ 4) (length-take-le (n * 4) to in_room.1)

    m : (n + 1) * 4 ≡ n * 4 + 4
    m = omega arith

    q : most - n ≡ suc (most - (n + 1))
    q = omega arith

    next : records (drop at list) ≡ r ∷ later
    unfolding later
    next = let s : at + 1 + bd ≡ at + (1 + bd) = omega arith in split list at bd r l read body ∙ rw s

    pub writing_more : Writing list to₀ to' most (n + 1) (at + (1 + bd))
    unfolding words_of front later
    writing_more = record {
      top = p.top;
      few = omega arith;
      near = omega (arith, p.near, body, body_le r.kind);
      long = len ∙ p.long;
      old = rw (e, m) (drop_at front (drop (n * 4 + 4) to) (n * 4 + 4) front_length ∙ (sym (drop-drop 4 (n * 4) to) ∙ ap (drop 4) p.old ∙ drop-drop 4 (n * 4) to₀));
      counted = omega (arith, p.counted, ap length (ap (take (most - n)) next), ap (λ (j : ℕ). length (take j (r ∷ later))) q);
      new = rw (e, m) (ap (◌++ words_of (take (most - (n + 1)) later)) (take_at front (drop (n * 4 + 4) to) (n * 4 + 4) front_length) ∙ append_assoc (take (n * 4) to) (k ∷ start_of r ∷ end_of r ∷ r.below ∷ []) (words_of (take (most - (n + 1)) later)) ∙ sym (rw (next, q, ← word)) ∙ p.new);
    }

  module _ (bytes : (i : ℕ) → get_or list i 0 < 256) where
    written : take (most - n) (records (drop at list)) ≡ [] → Decoded list to₀ n to
    unfolding words_of fitting
    written e = record { count = all; words = content; reads = ap tree_of front ∙ tree_back list bytes (room_of (length to₀)) (omega (arith, in_room.0, all)) }
      where
        fit : List Record
        fit = fitting (length to₀) list

        all : n ≡ length fit
        all = omega (arith, p.counted, ap length e)

        content : to ≡ words_of fit ++ drop (n * 4) to₀
        content = sym (take-append-drop (n * 4) to) ∙ ap₂ ◌++◌ (sym (append-nil (take (n * 4) to)) ∙ ap (λ (l : List Record). take (n * 4) to ++ words_of l) (sym e) ∙ p.new) p.old

        front : take (n * 4) to ≡ words_of fit
        front = rw content (take_at (words_of fit) (drop (n * 4) to₀) (n * 4) (words_length fit ∙ ap (◌* 4) (sym all)))

    pub writing_end : length list ≤ at → Decoded list to₀ n to
    writing_end h = written (rw (records_none list at h, take-nil))

    pub writing_full : most ≤ n → Decoded list to₀ most to
    writing_full h =
        let z : most - n ≡ 0 = omega arith in
        let e : n ≡ most = omega (arith, p.few) in
        rw (← e) (written (rw z))
