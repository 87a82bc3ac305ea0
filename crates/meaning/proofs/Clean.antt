-- Pieces that leave, White_Space deleted, what their source leaves. Assumes nothing.
use mathlib.Core.Path.{◌≡◌, refl, sym, ap₂, ◌∙◌}
use Prim.Native.Nat.{ℕ, zero, suc, ◌*◌, min}
use mathlib.Core.Bool.{Bool, true, false, cond, not, ◌&&◌}
use mathlib.Core.List.{List, [], ◌∷◌, ◌++◌, map}
use lib.ListN.{drop}
use Rattle.text.specs.declared.span.Span.{Span}
use Rattle.encoding.specs.Utf8.{Well, formed, formed_from, table, all_in, len_by, char_len}
use Rattle.text.specs.Span.{text_of}
use Rattle.text.specs.Chars.{in_source}
use Rattle.text.specs.Trim.{trim}
use Rattle.text.specs.Delete.{delete, delete_from, is_space, is_newline, Blanks, no_blank, a_blank}
use Rattle.text.proofs.Laws.{in_source_lem, text_formed, trim_formed, delete_append, delete_trim, blanks_delete, blanks_formed, blanks_append, blanks_replicate}
use Rattle.tree.specs.declared.record.Record.{Record}
use Rattle.tree.specs.declared.record.RecordNo.{RecordNo}
use Rattle.tree.specs.Table.{node_of}
use Rattle.meaning.specs.declared.call.Literal.{Literal}
use Rattle.meaning.specs.declared.call.Literal.TheVariants.{Braces, Bars, Parens, OpenBrace, CloseBrace, Comma, Semicolon, Colon}
use Rattle.meaning.specs.declared.call.Call.{Call}
use Rattle.meaning.specs.declared.call.Call.TheVariants.{WriteOwned, WriteRaw, Ignore, Lit, Comments, Indent, Nl, Ws, FlushWhitespace, FlushPrefixComments, Finish}
use Rattle.meaning.specs.State.{Script, Note, Comment, note_of, State}
use Rattle.meaning.specs.Pieces.{unit, space, breaks, Piece, gap, text, comment, bytes_of, flat}
use Rattle.meaning.specs.Collect.{Met, met_at, met_of, node_text, behind}
use Rattle.meaning.specs.Flush.{breaking, flush_gap}
use Rattle.meaning.specs.Release.{is_nil, trimmed, comment_text, line_gap, line_pieces, space_pieces, behind_gap}
use Rattle.meaning.specs.Calls.{lit_text}
use Rattle.meaning.specs.Demand3.{SpansInside, notes, notes_from, collects}

-- a piece's text as the source or the literal list has it; a gap has none
abbrev pub source_of : List ℕ → Piece → List ℕ
source_of src (gap bs) = []
source_of src (text bs) = bs
source_of src (comment c bs) = comment_text src c

abbrev pub merged : List ℕ → List Piece → List ℕ
merged src [] = []
merged src (p ∷ ps) = delete (source_of src p) ++ merged src ps

pub record Clean (src : List ℕ) (p : Piece) : Type 0 where
  pub well : formed (bytes_of p) ≡ Well
  pub leaves : delete (bytes_of p) ≡ delete (source_of src p)

pub data AllClean (src : List ℕ) : List Piece → Type 0 where
  no_piece : AllClean src []
  a_piece : {p : Piece} {ps : List Piece} → Clean src p → AllClean src ps → AllClean src (p ∷ ps)

pub clean_append : {src : List ℕ} {ps qs : List Piece} → AllClean src ps → AllClean src qs → AllClean src (ps ++ qs)
clean_append no_piece r = r
clean_append (a_piece c q) r = a_piece c (clean_append q r)

pub clean_merged : {src : List ℕ} {ps : List Piece} → AllClean src ps → delete (flat ps) ≡ merged src ps
unfolding delete_from
clean_merged no_piece = refl
clean_merged (a_piece {p} {ps} c r) = delete_append (bytes_of p) (flat ps) c.well ∙ ap₂ (λ x y. x ++ y) c.leaves (clean_merged r)

-- ---- comments whose spans lie in the source

pub data Inside (src : List ℕ) : List Note → Type 0 where
  no_note : Inside src []
  a_note : {n : Note} {ns : List Note} → in_source src n.span ≡ true → Inside src ns → Inside src (n ∷ ns)

pub inside_append : {src : List ℕ} {xs ys : List Note} → Inside src xs → Inside src ys → Inside src (xs ++ ys)
inside_append no_note r = r
inside_append (a_note h q) r = a_note h (inside_append q r)

pub inside_front : {src : List ℕ} (xs ys : List Note) → Inside src (xs ++ ys) → Inside src xs
inside_front [] ys r = no_note
inside_front (x ∷ xs) ys (a_note h q) = a_note h (inside_front xs ys q)

pub inside_back : {src : List ℕ} (xs : List Note) {ys : List Note} → Inside src (xs ++ ys) → Inside src ys
inside_back [] r = r
inside_back (x ∷ xs) (a_note h q) = inside_back xs q

entry_inside : (src : List ℕ) (below kind : ℕ) (span : Span) (n : ℕ) (es : List Met) → in_source src span ≡ true → Inside src (notes es)
    → Inside src (notes (met_at below kind span n ∷ es))
entry_inside src (suc below) kind span n es h r = r
entry_inside src zero zero span n es h r = r
entry_inside src zero (suc zero) span n es h r = a_note h r
entry_inside src zero (suc (suc zero)) span n es h r = a_note h r
entry_inside src zero (suc (suc (suc kind))) span n es h r = no_note

notes_inside : (src : List ℕ) (rs : List Record) → SpansInside src rs → Inside src (notes (map (met_of src) rs))
unfolding met_of
notes_inside src [] h = no_note
notes_inside src (r ∷ rs) h = entry_inside src r.below r.kind r.span _ (map (met_of src) rs) h.0 (notes_inside src rs h.1)

spans_drop : (src : List ℕ) (i : ℕ) (rs : List Record) → SpansInside src rs → SpansInside src (drop i rs)
spans_drop src zero rs h = h
spans_drop src (suc i) [] h = h
spans_drop src (suc i) (r ∷ rs) h = spans_drop src i rs h.1

module _ (x : Script) (g : SpansInside x.source x.tree) where
  from_inside : (i : ℕ) → Inside x.source (notes_from x i)
  from_inside i = notes_inside x.source (drop i x.tree) (spans_drop x.source i x.tree g)

  pub collects_inside : (c : Call) → Inside x.source (collects x c)
  unfolding collects
  collects_inside (WriteOwned k) = from_inside (behind x k)
  collects_inside (WriteRaw k) = from_inside (behind x k)
  collects_inside (Ignore k) = from_inside (behind x k)
  collects_inside (Lit t) = no_note
  collects_inside (Comments h) = no_note
  collects_inside (Indent d) = no_note
  collects_inside (Nl n) = no_note
  collects_inside Ws = no_note
  collects_inside (FlushWhitespace preserve) = no_note
  collects_inside FlushPrefixComments = from_inside 0
  collects_inside Finish = no_note

-- ---- gaps

blanks_space : Blanks (space ∷ [])
blanks_space = a_blank is_space no_blank

blanks_breaks : (indent n : ℕ) → Blanks (breaks indent n)
unfolding breaks
blanks_breaks indent n = blanks_append (blanks_replicate (min n 2) is_newline) (blanks_replicate (indent * unit) is_space)

blanks_cond : (b : Bool) {xs ys : List ℕ} → Blanks xs → Blanks ys → Blanks (cond b xs ys)
blanks_cond true p q = p
blanks_cond false p q = q

blanks_line : (indent : ℕ) (empty : Bool) (before : ℕ) → Blanks (line_gap indent empty before)
blanks_line indent true before = no_blank
blanks_line indent false zero = blanks_space
blanks_line indent false (suc before) = blanks_breaks indent (suc before)

clean_gap : (src : List ℕ) {bs : List ℕ} → Blanks bs → Clean src (gap bs)
clean_gap src h = record { well = blanks_formed h; leaves = blanks_delete h ∙ sym (blanks_delete no_blank) }

pub clean_flush : (src : List ℕ) (s : State) → Clean src (gap (flush_gap s))
clean_flush src s = clean_gap src (blanks_cond (breaking s) (blanks_breaks s.indent s.lines) (blanks_cond s.ws blanks_space no_blank))

pub clean_behind : (src : List ℕ) (back : Bool) (cs : List Comment) → Clean src (gap (behind_gap back cs))
clean_behind src back [] = clean_gap src no_blank
clean_behind src back (c ∷ cs) = clean_gap src (blanks_cond back blanks_space no_blank)

-- ---- literals

lit_formed : (t : Literal) → formed (lit_text t) ≡ Well
unfolding formed_from table all_in len_by char_len
lit_formed Braces = refl
lit_formed Bars = refl
lit_formed Parens = refl
lit_formed OpenBrace = refl
lit_formed CloseBrace = refl
lit_formed Comma = refl
lit_formed Semicolon = refl
lit_formed Colon = refl

pub clean_lit : (src : List ℕ) (t : Literal) → Clean src (text (lit_text t))
clean_lit src t = record { well = lit_formed t; leaves = refl }

-- ---- nodes and comments of a well-formed source

module _ (src : List ℕ) (w : formed src ≡ Well) where
  span_formed : (span : Span) → in_source src span ≡ true → formed (text_of src span) ≡ Well
  span_formed span h = text_formed src span w (in_source_lem src span h)

  node_formed : (rs : List Record) (k : ℕ) → SpansInside src rs → formed (text_of src (node_of rs k).span) ≡ Well
  unfolding formed_from node_of
  node_formed [] k h = refl
  node_formed (r ∷ rs) zero h = span_formed r.span h.0
  node_formed (r ∷ rs) (suc k) h = node_formed rs k h.1

  clean_trim : (line : Bool) (c : Comment) → formed (comment_text src c) ≡ Well → Clean src (comment c (cond line (trim (comment_text src c)) (comment_text src c)))
  clean_trim true c h = record { well = trim_formed _ h; leaves = delete_trim _ h }
  clean_trim false c h = record { well = h; leaves = refl }

  pub clean_line : (indent : ℕ) (empty : Bool) (cs : List Comment) → Inside src (map note_of cs) → AllClean src (line_pieces src indent empty cs)
  unfolding line_pieces
  clean_line indent empty [] h = no_piece
  clean_line indent empty (c ∷ cs) (a_note h r) =
      a_piece (clean_gap src (blanks_line indent empty c.before)) (a_piece (clean_trim c.line c (span_formed c.span h)) (clean_line indent (empty && is_nil (trimmed src c)) cs r))

  pub clean_space : (front empty : Bool) (cs : List Comment) → Inside src (map note_of cs) → AllClean src (space_pieces src front empty cs)
  unfolding space_pieces
  clean_space front empty [] h = no_piece
  clean_space front empty (c ∷ cs) (a_note h r) =
      a_piece (clean_gap src (blanks_cond (front && not empty) blanks_space no_blank)) (a_piece (record { well = span_formed c.span h; leaves = refl }) (clean_space true _ cs r))

pub clean_node : (x : Script) (k : RecordNo) → formed x.source ≡ Well → SpansInside x.source x.tree → Clean x.source (text (node_text x k))
clean_node x k w g = record { well = node_formed x.source w x.tree k.0 g; leaves = refl }
