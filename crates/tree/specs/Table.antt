-- The decoded tree: records as words, four to a record, and read back. Assumes nothing.
use Rattle.std.specs.Prelude.{◌≡◌, ℕ, zero, suc, ◌+◌, ◌*◌, ◌/◌, ◌%◌, min, cond, true, List, [], ◌∷◌, ◌++◌, length, take, drop, get_or, leb, ltb}
use Rattle.tree.specs.declared.record.Record.{Record}
use Rattle.tree.specs.Records.{span_of, cut_record, records}

-- ---- written

-- the kind, and 256 more for a record cut short
unfoldable pub kind_word : Record → ℕ
kind_word r = cond r.whole r.kind (256 + r.kind)

unfoldable pub words_of : List Record → List ℕ
words_of [] = []
words_of (r ∷ rs) = kind_word r ∷ r.span.start.0 ∷ r.span.end.0 ∷ r.below ∷ words_of rs

-- the words of record k, written where there is room for them
unfoldable pub with_record : List ℕ → ℕ → Record → List ℕ
with_record words k r = cond (leb (k * 4 + 4) (length words)) (take (k * 4) words ++ words_of (r ∷ []) ++ drop (k * 4 + 4) words) words

-- how many records there is room for in n words, 8,192 at most
unfoldable pub room_of : ℕ → ℕ
room_of n = min 8192 (n / 4)

-- the records that n words have room for
unfoldable pub fitting : ℕ → List ℕ → List Record
fitting n list = take (room_of n) (records list)

-- ---- read back

-- the record that four words stand for
unfoldable pub read_from : ℕ → ℕ → ℕ → ℕ → Record
read_from kind start end below = cond (ltb kind 256) (record { whole = true; kind = kind; span = span_of start end; below = below }) (cut_record (kind % 256))

-- the first n records of a table
unfoldable pub table_of : List ℕ → ℕ → List Record
table_of words zero = []
table_of words (suc n) = read_from (get_or words 0 0) (get_or words 1 0) (get_or words 2 0) (get_or words 3 0) ∷ table_of (drop 4 words) n

-- all its records
unfoldable pub tree_of : List ℕ → List Record
tree_of words = table_of words (room_of (length words))

-- what decoding leaves in a buffer: the words of as many records as fit, behind them what was there; and the table reads as these records
pub record Decoded (list before : List ℕ) (n : ℕ) (after : List ℕ) : Type 0 where
  pub count : n ≡ length (fitting (length before) list)
  pub words : after ≡ words_of (fitting (length before) list) ++ drop (n * 4) before
  pub reads : tree_of (take (n * 4) after) ≡ fitting (length before) list

-- ---- one record

-- the record of number k; where there is none, a cut one of kind 00
unfoldable pub node_of : List Record → ℕ → Record
node_of rs k = get_or rs k (cut_record 0)
