-- What callers may rely on, one law each: nobody above unfolds a definition of this crate. Assumes nothing.
use Rattle.std.specs.Prelude.{Some, None}
use mathlib.Core.Path.{◌≡◌, sym, ap, ◌∙◌}
use mathlib.Core.List.{List, [], ◌∷◌, ◌++◌}
use Prim.Native.Nat.{ℕ, ◌+◌, ◌*◌, ◌≤◌, ◌<◌}
use native.Mathlib.Omega.{arith}
use lib.ListN.{length, take, drop, get_or}
use lib.Seq.{take-length}
use Rattle.tree.specs.declared.record.RecordNo.{RecordNo}
use Rattle.tree.specs.declared.record.Record.{Record}
use Rattle.tree.specs.declared.cursor.Cursor.{Cursor}
use Rattle.tree.specs.Records.{records}
use Rattle.tree.specs.Table.{words_of, with_record, fitting, tree_of, Decoded}
use Rattle.tree.specs.Cursor.{found_of, shown, kept, behind, cursor_of, first_of, peek_of}
use Rattle.tree.specs.Nodes.{FirstAt, PeekAt}
use Rattle.tree.proofs.RecordLaws as record-laws
use Rattle.tree.proofs.TableLaws as table-laws
use Rattle.tree.proofs.CursorLaws as cursor-laws
use Rattle.tree.proofs.PeekLaws as peek-laws

pub records_few : (list : List ℕ) → length (records list) ≤ length list
records_few list = record-laws.records_few 0 list

-- ---- the table

-- decoding leaves nothing open
pub decoded_once : {list before after after' : List ℕ} {n n' : ℕ} → Decoded list before n after → Decoded list before n' after' → (n ≡ n') × (after ≡ after')
decoded_once {list} {before} d e = (d.count ∙ sym e.count, d.words ∙ ap (λ (k : ℕ). words_of (fitting (length before) list) ++ drop (k * 4) before) (d.count ∙ sym e.count) ∙ sym e.words)

-- where there is room, the table reads as all records of the list
pub table_whole : {list before after : List ℕ} {n : ℕ} → Decoded list before n after → length (records list) ≤ 8192 → length (records list) * 4 ≤ length before → (n ≡ length (records list)) × (tree_of (take (n * 4) after) ≡ records list)
table_whole {list} {before} d few room =
    let all = table-laws.fitting_all list (length before) few room in
    (d.count ∙ ap length all, d.reads ∙ all)

-- one record written where there is room for it: the words in front stay, and its own follow
pub put_front : (words : List ℕ) (k : ℕ) (r : Record) → k * 4 + 4 ≤ length words → take ((k + 1) * 4) (with_record words k r) ≡ take (k * 4) words ++ words_of (r ∷ [])
put_front words k r room = table-laws.put_front words k r room

pub words_append : (rs ss : List Record) → words_of (rs ++ ss) ≡ words_of rs ++ words_of ss
words_append rs ss = table-laws.words_append rs ss

-- the words of all records read as these records
pub tree_back : (list : List ℕ) → ((i : ℕ) → get_or list i 0 < 256) → length (records list) ≤ 8192 → tree_of (words_of (records list)) ≡ records list
tree_back list bytes few =
    let all = take-length (records list) in
    ap (λ (rs : List Record). tree_of (words_of rs)) (sym all) ∙ table-laws.tree_back list bytes (length (records list)) (omega (arith, ap length all)) ∙ all

pub tree_few : (words : List ℕ) → length (tree_of words) ≤ 8192
tree_few words = table-laws.few words

-- ---- the cursor over any table, good or not

-- the records shown, and those kept, one by one: the first found, and behind it what the cursor that is left shows and keeps
pub first_at : {rs : List Record} {c : Cursor} {k : RecordNo} → first_of rs c ≡ Some k → FirstAt rs c k.0
first_at {rs} {c} e = peek-laws.first_at rs c e

pub peek_at : {rs : List Record} {c : Cursor} {k : RecordNo} → peek_of rs c ≡ Some k → PeekAt rs c k.0
peek_at {rs} {c} e = peek-laws.peek_at rs c e

pub first_none : (rs : List Record) (c : Cursor) → first_of rs c ≡ None → shown rs c ≡ []
first_none rs c e = peek-laws.head_none (shown rs c) e

pub peek_none : (rs : List Record) (c : Cursor) → peek_of rs c ≡ None → kept rs (shown rs c) ≡ []
peek_none rs c e = peek-laws.head_none (kept rs (shown rs c)) e

-- a cursor moves on: what lies behind a record lies behind its number, and no further than the list's end
pub behind_more : (rs : List Record) (k : ℕ) → k < length rs → k < behind rs k
behind_more rs k h = (cursor-laws.behind_le rs k).1 h

pub behind_within : (rs : List Record) (k : ℕ) → behind rs k ≤ length rs
behind_within rs k = (cursor-laws.behind_le rs k).0

-- a number that may be past the table
pub found_is : {k : RecordNo} → k.0 < 8192 → found_of k ≡ Some k
found_is h = cursor-laws.found_is h

pub found_not : {k : RecordNo} → 8192 ≤ k.0 → found_of k ≡ None
found_not h = cursor-laws.found_not h

-- a cursor at its end shows nothing
pub shown_past : (rs : List Record) (c : Cursor) → c.end.0 ≤ c.at.0 → shown rs c ≡ []
shown_past rs c h = cursor-laws.shown_past rs c h

-- else its first record, and the rest behind that one
pub shown_next : (rs : List Record) (at end : ℕ) → at < end → at < length rs → shown rs (cursor_of at end) ≡ at ∷ shown rs (cursor_of (behind rs at) end)
shown_next rs at end h l = cursor-laws.shown_cons rs at end h l

-- and of the records that it shows, it keeps no more than the tree has
pub kept_few : (rs : List Record) (c : Cursor) → length (kept rs (shown rs c)) ≤ length rs
kept_few rs c = omega (arith, cursor-laws.kept_few rs (shown rs c), cursor-laws.shown_few rs c)
