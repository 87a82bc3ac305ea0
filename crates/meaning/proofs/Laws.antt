-- Laws of the engine's parts, on plain lists. Assumes nothing.
use mathlib.Core.Path.{◌≡◌, refl, sym, ap, ◌∙◌}
use Prim.Native.Nat.{ℕ, zero, suc, ◌-◌, ◌≤◌, zero-le, suc-le-suc}
use mathlib.Core.Bool.{Bool, true, false, cond, ◌&&◌}
use mathlib.Core.List.{List, [], ◌∷◌, ◌++◌, map, append_assoc}
use lib.ListN.{length}
use Rattle.meaning.specs.declared.answer.Refusal.{Refusal}
use Rattle.meaning.specs.State.{Script, Note, Comment, note_of, queued, State}
use Rattle.meaning.specs.Pieces.{Piece, gap, text, comment, bytes_of, flat}
use Rattle.meaning.specs.Outcome.{Outcome, done, refused, refuse_if}
use Rattle.meaning.specs.Collect.{Met, inner, remark, blank, stop, met_from, Collected, full, got, before, collect, on_got, collected, gather}
use Rattle.meaning.specs.Release.{take_until, drop_until, stop_line, is_nil, trimmed, line_pieces, space_pieces}
use Rattle.meaning.specs.Demand3.{notes, notes_from}

pub map_append : {A B : Type 0} (f : A → B) (xs ys : List A) → map f (xs ++ ys) ≡ map f xs ++ map f ys
map_append f [] ys = refl
map_append f (x ∷ xs) ys = ap (f x ∷◌) (map_append f xs ys)

-- ---- the texts and the comments among pieces

abbrev pub texts : List Piece → List (List ℕ)
texts [] = []
texts (gap bs ∷ ps) = texts ps
texts (text bs ∷ ps) = bs ∷ texts ps
texts (comment c bs ∷ ps) = texts ps

abbrev pub freed : List Piece → List Note
freed [] = []
freed (gap bs ∷ ps) = freed ps
freed (text bs ∷ ps) = freed ps
freed (comment c bs ∷ ps) = note_of c ∷ freed ps

pub texts_append : (ps qs : List Piece) → texts (ps ++ qs) ≡ texts ps ++ texts qs
texts_append [] qs = refl
texts_append (gap bs ∷ ps) qs = texts_append ps qs
texts_append (text bs ∷ ps) qs = ap (bs ∷◌) (texts_append ps qs)
texts_append (comment c bs ∷ ps) qs = texts_append ps qs

pub freed_append : (ps qs : List Piece) → freed (ps ++ qs) ≡ freed ps ++ freed qs
freed_append [] qs = refl
freed_append (gap bs ∷ ps) qs = freed_append ps qs
freed_append (text bs ∷ ps) qs = freed_append ps qs
freed_append (comment c bs ∷ ps) qs = ap (note_of c ∷◌) (freed_append ps qs)

pub flat_append : (ps qs : List Piece) → flat (ps ++ qs) ≡ flat ps ++ flat qs
flat_append [] qs = refl
flat_append (p ∷ ps) qs = ap (bytes_of p ++◌) (flat_append ps qs) ∙ sym (append_assoc (bytes_of p) (flat ps) (flat qs))

-- ---- releases

split_at : (b : Bool) (c : Comment) (xs ys cs : List Comment) → xs ++ ys ≡ cs → cond b [] (c ∷ xs) ++ cond b (c ∷ cs) ys ≡ c ∷ cs
split_at true c xs ys cs e = refl
split_at false c xs ys cs e = ap (c ∷◌) e

-- what goes and what stays is the queue, in its order
pub split : (stops : Comment → Bool) (cs : List Comment) → take_until stops cs ++ drop_until stops cs ≡ cs
split stops [] = refl
split stops (c ∷ cs) = split_at (stops c) c (take_until stops cs) (drop_until stops cs) cs (split stops cs)

pub split_notes : (stops : Comment → Bool) (cs : List Comment) → map note_of (take_until stops cs) ++ map note_of (drop_until stops cs) ≡ map note_of cs
split_notes stops cs = sym (map_append note_of (take_until stops cs) (drop_until stops cs)) ∙ ap (map note_of) (split stops cs)

-- a line release of all leaves none
pub none_left : (q : List Comment) → drop_until (stop_line false) q ≡ []
none_left [] = refl
none_left (c ∷ cs) = none_left cs

module _ (src : List ℕ) where
  pub line_freed : (indent : ℕ) (empty : Bool) (cs : List Comment) → freed (line_pieces src indent empty cs) ≡ map note_of cs
  unfolding line_pieces
  line_freed indent empty [] = refl
  line_freed indent empty (c ∷ cs) = ap (note_of c ∷◌) (line_freed indent (empty && is_nil (trimmed src c)) cs)

  pub line_texts : (indent : ℕ) (empty : Bool) (cs : List Comment) → texts (line_pieces src indent empty cs) ≡ []
  unfolding line_pieces
  line_texts indent empty [] = refl
  line_texts indent empty (c ∷ cs) = line_texts indent (empty && is_nil (trimmed src c)) cs

  pub space_freed : (front empty : Bool) (cs : List Comment) → freed (space_pieces src front empty cs) ≡ map note_of cs
  unfolding space_pieces
  space_freed front empty [] = refl
  space_freed front empty (c ∷ cs) = ap (note_of c ∷◌) (space_freed true _ cs)

  pub space_texts : (front empty : Bool) (cs : List Comment) → texts (space_pieces src front empty cs) ≡ []
  unfolding space_pieces
  space_texts front empty [] = refl
  space_texts front empty (c ∷ cs) = space_texts true _ cs

-- ---- outcomes

-- what holds of an outcome that is no refusal
pub data OnDone (P : State → List Piece → Type 0) : Outcome → Type 0 where
  is_done : {s : State} {ps : List Piece} → P s ps → OnDone P (done s ps)
  is_refused : {r : Refusal} → OnDone P (refused r)

pub of_done : {P : State → List Piece → Type 0} {s : State} {ps : List Piece} → OnDone P (done s ps) → P s ps
of_done (is_done h) = h

pub on_refuse : {P : State → List Piece → Type 0} (b : Bool) (r : Refusal) {o : Outcome} → (b ≡ false → OnDone P o) → OnDone P (refuse_if b r o)
unfolding refuse_if
on_refuse true r h = is_refused
on_refuse false r h = h refl

pub on_any : {A : Type 0} (o : Outcome) → A → OnDone (λ _ _. A) o
on_any (done s ps) h = is_done h
on_any (refused r) h = is_refused

-- a test that fails refuses nothing
pub goes : (b : Bool) (r : Refusal) (o : Outcome) → b ≡ false → refuse_if b r o ≡ o
unfolding refuse_if
goes b r o e = rw e

-- ---- collecting

data OnGot (Q : List Comment → Type 0) : Collected → Type 0 where
  is_got : {lines : ℕ} {cs : List Comment} → Q cs → OnGot Q (got lines cs)
  is_full : {i : ℕ} → OnGot Q (full i)

-- the comments are the notes, and no more than there is room for
pub record Are (room : ℕ) (ns : List Note) (cs : List Comment) : Type 0 where
  pub same : map note_of cs ≡ ns
  pub few : length cs ≤ room

on_before : {room : ℕ} {ns : List Note} (c : Comment) {g : Collected} → OnGot (Are room ns) g → OnGot (Are (suc room) (note_of c ∷ ns)) (before c g)
on_before c is_full = is_full
on_before c (is_got h) = is_got (record { same = ap (note_of c ∷◌) h.same; few = suc-le-suc h.few })

none_are : (room : ℕ) → Are room [] []
none_are room = record { same = refl; few = zero-le }

collect_notes : (i room lines : ℕ) (es : List Met) → OnGot (Are room (notes es)) (collect i room lines es)
unfolding collect
collect_notes i room lines [] = is_got (none_are room)
collect_notes i room lines (inner ∷ es) = collect_notes (suc i) room lines es
collect_notes i zero lines (remark n ∷ es) = is_full
collect_notes i (suc room) lines (remark n ∷ es) = on_before (queued n lines) (collect_notes (suc i) room 0 es)
collect_notes i room lines (blank n ∷ es) = collect_notes (suc i) room _ es
collect_notes i room lines (stop ∷ es) = is_got (none_are room)

on_got_lem : {P : State → List Piece → Type 0} {Q : List Comment → Type 0} {g : Collected} (k : ℕ → List Comment → Outcome) → OnGot Q g
    → ((lines : ℕ) (cs : List Comment) → Q cs → OnDone P (k lines cs)) → OnDone P (on_got g k)
on_got_lem k is_full f = is_refused
on_got_lem k (is_got {lines} {cs} h) f = f lines cs h

-- a call that collects goes on with the comments that the tree has there
pub on_gather : {P : State → List Piece → Type 0} (x : Script) (i : ℕ) (s : State) (next : State → Outcome)
    → ((lines : ℕ) (cs : List Comment) → Are (256 - length s.queue) (notes_from x i) cs → OnDone P (next (collected s lines cs)))
    → OnDone P (gather x i s next)
unfolding gather
on_gather x i s next f = on_got_lem _ (collect_notes i (256 - length s.queue) s.lines (met_from x i)) f
