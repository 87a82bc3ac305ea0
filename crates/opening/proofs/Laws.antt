-- What callers may rely on, one law each: nobody above unfolds a definition of this crate. Assumes nothing.
use Rattle.std.specs.Prelude.{Option, Some}
use mathlib.Core.Path.{◌≡◌, refl, sym, ap, ◌∙◌}
use mathlib.Core.List.{List}
use Prim.Native.Nat.{ℕ, ◌-◌, ◌≤◌, ◌<◌}
use native.Mathlib.Omega.{arith}
use lib.ListN.{length}
use borrow.Author.Tests.{le-ltb}
use Rattle.encoding.specs.Utf8.{Well, formed}
use Rattle.std.specs.Prelude.{Ok, Err}
use Rattle.text.specs.Source.{Checked}
use Rattle.text.specs.Source as source-check
use Rattle.text.proofs.Laws.{GoodSource, good_source, InSource}
use Rattle.tree.specs.declared.record.RecordNo.{RecordNo}
use Rattle.tree.specs.declared.record.Record.{Record}
use Rattle.tree.specs.declared.cursor.Cursor.{Cursor}
use Rattle.tree.specs.Records.{start_of, end_of, records}
use Rattle.tree.specs.Table.{node_of}
use Rattle.tree.specs.Cursor.{children_of, top_of, first_of, peek_of, taken_as, take_of}
use Rattle.opening.specs.Check.{Verdict, checked}
use Rattle.opening.specs.Good.{GoodRecord, GoodTree}
use Rattle.opening.specs.Opening.{of_source, opened}
use Rattle.opening.specs.Nodes.{LevelAt, NodeAt, StepAt}
use Rattle.opening.proofs.GoodLaws as good-laws
use Rattle.opening.proofs.NodeLaws as node_laws
use Rattle.opening.proofs.PeekLaws as peek-laws

-- ---- good trees: the check says good exactly where the tree is

pub tree_good : {src list : List ℕ} {n : RecordNo} → formed src ≡ Well → checked src list ≡ Ok n → GoodTree src list
tree_good w e = good-laws.tree_good w e

pub good_tree : {src list : List ℕ} → formed src ≡ Well → GoodTree src list → checked src list ≡ Ok (record { 0 = length (records list) })
good_tree w g = good-laws.good_tree w g

-- ---- opening: it succeeds exactly over a good source and a good tree, and gives the number of records

pub record Open (src list : List ℕ) (n : RecordNo) : Type 0 where
  pub source : GoodSource src
  pub tree : GoodTree src list
  pub count : n.0 ≡ length (records list)

pub open_good : {src list : List ℕ} {n : RecordNo} → opened src list ≡ Ok n → Open src list n
unfolding opened
open_good {src} {list} {n} e = go (source-check.checked src) (checked src list) refl refl e
  where
    go : (s : Checked) (t : Verdict) → source-check.checked src ≡ s → checked src list ≡ t → of_source s t ≡ Ok n → Open src list n
    go (Ok u) (Ok m) p q e =
        let s = good_source src p in
        let g = good-laws.tree_good s.well q in
        let same : m ≡ n = cc in
        let z = sym q ∙ good-laws.good_tree s.well g in
        let count : m ≡ record { 0 = length (records list) } = cc in
        record { source = s; tree = g; count = ap (λ (k : RecordNo). k.0) (sym same ∙ count) }
    go (Ok u) (Err f) p q e = let z : ◌≡◌ {A = ℕ} 0 1 = cc in absurd (omega arith)
    go (Err f) t p q e = let z : ◌≡◌ {A = ℕ} 0 1 = cc in absurd (omega arith)

pub good_open : {src list : List ℕ} → GoodSource src → GoodTree src list → opened src list ≡ Ok (record { 0 = length (records list) })
unfolding opened source-check.checked
good_open {src} {list} s g = rw (le-ltb 65536 (length src) s.short, s.well, good-laws.good_tree s.well g)

-- ---- nodes of a good tree

-- the top level has 64 levels left
pub top_level : {src list : List ℕ} → GoodTree src list → LevelAt src (records list) 64 0 (length src) (top_of (length (records list)))
top_level g = node_laws.level_of g.levels

-- any record: its span is in the source, what it counts is there, its children are a good level in its span with 63 levels left
pub any_node : {src list : List ℕ} → GoodTree src list → (k : ℕ) → k < length (records list) → NodeAt src (records list) 63 0 (length src) k
any_node g k h = node_laws.any_node g.levels k h

pub record_in_source : {src : List ℕ} {lo hi : ℕ} {r : Record} → formed src ≡ Well → GoodRecord src lo hi r → InSource src r.span
record_in_source w g = good-laws.span_in w g

pub node_in_source : {src list : List ℕ} → GoodSource src → GoodTree src list → (k : ℕ) → k < length (records list) → InSource src (node_of (records list) k).span
node_in_source s g k h = good-laws.span_in s.well (any_node g k h).good

-- ---- the cursor over a good level: one level deeper, inside the parent's span, behind the sibling before

pub first_good : {src : List ℕ} {rs : List Record} {d lo hi : ℕ} {c : Cursor} {k : RecordNo} → LevelAt src rs d lo hi c → first_of rs c ≡ Some k → StepAt src rs d lo hi c k.0
first_good v e = peek-laws.first_good v e

pub peek_good : {src : List ℕ} {rs : List Record} {d lo hi : ℕ} {c : Cursor} {k : RecordNo} → LevelAt src rs d lo hi c → peek_of rs c ≡ Some k → StepAt src rs d lo hi c k.0
peek_good v e = peek-laws.peek_good v e

-- a child's span lies in its parent's, and one level less is left for what lies below it
pub child_inside : {src : List ℕ} {rs : List Record} {d lo hi p : ℕ} {k : RecordNo} → NodeAt src rs d lo hi p → peek_of rs (children_of rs p) ≡ Some k →
    (0 < d) × (start_of (node_of rs p) ≤ start_of (node_of rs k.0)) × (end_of (node_of rs k.0) ≤ end_of (node_of rs p)) × LevelAt src rs (d - 1) (start_of (node_of rs k.0)) (end_of (node_of rs k.0)) (children_of rs k.0)
child_inside n e = let s = peek_good n.below e in (s.some, s.node.good.after, s.node.good.within, s.node.below)

-- siblings are in order
pub siblings_order : {src : List ℕ} {rs : List Record} {d lo hi : ℕ} {c : Cursor} {j k : RecordNo} → LevelAt src rs d lo hi c → peek_of rs c ≡ Some j → peek_of rs (take_of rs c).rest ≡ Some k → end_of (node_of rs j.0) ≤ start_of (node_of rs k.0)
siblings_order {rs = rs} {c = c} v e f = (peek_good (peek_good v e).rest (ap (λ (x : Option RecordNo). peek_of rs (taken_as rs c x).rest) (sym e) ∙ f)).node.good.after
