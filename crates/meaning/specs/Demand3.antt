-- Demand 3: what stands in the output behind any history, by the calls that went. Assumes nothing.
use Rattle.std.specs.Prelude.{◌≡◌, ℕ, suc, ◌<◌, true, List, [], ◌∷◌, ◌++◌, map}
use Rattle.text.specs.Source.{Good, checked}
use Rattle.text.specs.Span.{text_of}
use Rattle.text.specs.Chars.{in_source}
use Rattle.text.specs.Delete.{delete}
use Rattle.tree.specs.declared.record.Record.{Record}
use Rattle.meaning.specs.declared.call.Call.{Call}
use Rattle.meaning.specs.declared.call.Call.TheVariants.{WriteOwned, WriteRaw, Ignore, Lit, Comments, Indent, Nl, Ws, FlushWhitespace, FlushPrefixComments, Finish}
use Rattle.meaning.specs.State.{Script, Note, note_of}
use Rattle.meaning.specs.Collect.{Met, inner, remark, blank, stop, met_from, node_text, behind}
use Rattle.meaning.specs.Calls.{lit_text}
use Rattle.meaning.specs.World.{World, output}

-- ---- what opening gives: a good source, and a tree of which every span lies in it on character boundaries

abbrev pub SpansInside : List ℕ → List Record → Type 0
SpansInside src [] = Unit {0}
SpansInside src (r ∷ rs) = (in_source src r.span ≡ true) × SpansInside src rs

-- a source and a tree that opening lets in
pub record Opens (x : Script) : Type 0 where
  pub source_good : checked x.source ≡ Good
  pub spans_inside : SpansInside x.source x.tree

-- ---- what calls ask for, by the script alone

-- the comments among the records, up to the first that stops
abbrev pub notes : List Met → List Note
notes [] = []
notes (inner ∷ es) = notes es
notes (remark n ∷ es) = n ∷ notes es
notes (blank n ∷ es) = notes es
notes (stop ∷ es) = []

abbrev pub notes_from : Script → ℕ → List Note
notes_from x i = notes (met_from x i)

-- the comments that a call collects
unfoldable pub collects : Script → Call → List Note
collects x (WriteOwned k) = notes_from x (behind x k)
collects x (WriteRaw k) = notes_from x (behind x k)
collects x (Ignore k) = notes_from x (behind x k)
collects x (Lit t) = []
collects x (Comments h) = []
collects x (Indent d) = []
collects x (Nl n) = []
collects x Ws = []
collects x (FlushWhitespace preserve) = []
collects x FlushPrefixComments = notes_from x 0
collects x Finish = []

-- the texts of node and literal writes
unfoldable pub writes : Script → Call → List (List ℕ)
writes x (WriteOwned k) = node_text x k ∷ []
writes x (WriteRaw k) = node_text x k ∷ []
writes x (Ignore k) = []
writes x (Lit t) = lit_text t ∷ []
writes x (Comments h) = []
writes x (Indent d) = []
writes x (Nl n) = []
writes x Ws = []
writes x (FlushWhitespace preserve) = []
writes x FlushPrefixComments = []
writes x Finish = []

-- a text and a comment, with the number of the call that wrote or collected it
pub record Text : Type 0 where
  pub by : ℕ
  pub bytes : List ℕ

abbrev pub written : ℕ → List ℕ → Text
written n bs = record { by = n; bytes = bs }

pub record Found : Type 0 where
  pub by : ℕ
  pub note : Note

abbrev pub found : ℕ → Note → Found
found n c = record { by = n; note = c }

abbrev pub bare : Found → Note
bare f = f.note

-- all of them, where the first of the calls has number n
abbrev pub all_collected : Script → ℕ → List Call → List Found
all_collected x n [] = []
all_collected x n (c ∷ cs) = map (found n) (collects x c) ++ all_collected x (suc n) cs

abbrev pub all_written : Script → ℕ → List Call → List Text
all_written x n [] = []
all_written x n (c ∷ cs) = map (written n) (writes x c) ++ all_written x (suc n) cs

-- ---- a merge of texts and comments: one row of both

pub data Item : Type 0 where
  a_text : Text → Item
  a_comment : Found → Item

abbrev pub texts_in : List Item → List Text
texts_in [] = []
texts_in (a_text t ∷ row) = t ∷ texts_in row
texts_in (a_comment f ∷ row) = texts_in row

abbrev pub comments_in : List Item → List Found
comments_in [] = []
comments_in (a_text t ∷ row) = comments_in row
comments_in (a_comment f ∷ row) = f ∷ comments_in row

-- its bytes, White_Space deleted from each
abbrev pub bytes_in : List ℕ → List Item → List ℕ
bytes_in src [] = []
bytes_in src (a_text t ∷ row) = delete t.bytes ++ bytes_in src row
bytes_in src (a_comment f ∷ row) = delete (text_of src f.note.span) ++ bytes_in src row

-- each of the texts was written by a later call than n
abbrev pub AllLater : ℕ → List Text → Type 0
AllLater n [] = Unit {0}
AllLater n (t ∷ ts) = (n < t.by) × AllLater n ts

-- no comment stands before a text written by, or before, the call that collected it
abbrev pub NoneEarly : List Item → Type 0
NoneEarly [] = Unit {0}
NoneEarly (a_text t ∷ row) = NoneEarly row
NoneEarly (a_comment f ∷ row) = AllLater f.by (texts_in row) × NoneEarly row

-- one of the calls is a finish
pub data Finishes : List Call → Type 0 where
  here : {cs : List Call} → Finishes (Finish ∷ cs)
  there : {c : Call} {cs : List Call} → Finishes cs → Finishes (c ∷ cs)

-- ---- the demand, of the calls that went and of what they left

pub record Demand3 (x : Script) (calls : List Call) (w : World) : Type 0 where
  -- texts and comments let out, in the order in which they stand
  pub row : List Item
  pub waiting : List Found
  -- with White_Space deleted, the output merges two lists, each in order:
  pub output_merges : delete (output w) ≡ bytes_in x.source row
  -- the texts of node and literal writes, once each,
  pub texts_once : texts_in row ≡ all_written x 0 calls
  -- and the comments let out: followed by those waiting, they are those collected, once per collecting, in order
  pub comments_kept : comments_in row ++ waiting ≡ all_collected x 0 calls
  pub waiting_is_queue : map bare waiting ≡ map note_of w.state.queue
  -- no comment stands before a text written by, or before, the call that collected it
  pub none_early : NoneEarly row
  -- after a finish none waits
  pub none_waits : Finishes calls → w.state.queue ≡ []
