-- The records of a tree, read from its bytes. Assumes nothing.
use Rattle.std.specs.Prelude.{ℕ, zero, suc, ◌+◌, ◌*◌, true, false, cond, List, [], ◌∷◌, length, drop, get_or, ltb}
use Rattle.text.specs.declared.span.Span.{Span}
use Rattle.tree.specs.declared.record.Record.{Record}

abbrev pub start_of : Record → ℕ
start_of r = r.span.start.0

abbrev pub end_of : Record → ℕ
end_of r = r.span.end.0

-- four bytes, low byte first
unfoldable pub four : List ℕ → ℕ
four s = get_or s 0 0 + get_or s 1 0 * 0x100 + get_or s 2 0 * 0x10000 + get_or s 3 0 * 0x1000000

-- how many bytes stand behind the byte of kind: 00-7F are leaves, 80-FF composites
unfoldable pub body_of : ℕ → ℕ
body_of kind = cond (ltb kind 0x80) 8 12

abbrev pub span_of : ℕ → ℕ → Span
span_of start end = record { start = record { 0 = start }; end = record { 0 = end } }

abbrev pub cut_record : ℕ → Record
cut_record kind = record { whole = false; kind = kind; span = span_of 0 0; below = 0 }

-- the record of kind b with bs behind the kind
unfoldable pub record_of : ℕ → List ℕ → Record
record_of b bs =
    cond (ltb (length bs) (body_of b)) (cut_record b)
    (record { whole = true; kind = b; span = span_of (four bs) (four (drop 4 bs)); below = cond (ltb b 0x80) 0 (four (drop 8 bs)) })

-- the record that stands first; behind the end of the list, a cut one of kind 00
unfoldable pub record_at : List ℕ → Record
record_at [] = cut_record 0
record_at (b ∷ bs) = record_of b bs

-- all records, a cut last one too; the next k bytes belong to the one before
unfoldable pub records_from : ℕ → List ℕ → List Record
records_from k [] = []
records_from (suc k) (b ∷ bs) = records_from k bs
records_from zero (b ∷ bs) = record_of b bs ∷ records_from (body_of b) bs

abbrev pub records : List ℕ → List Record
records tree = records_from 0 tree
