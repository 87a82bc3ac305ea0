-- The row of texts and comments that calls leave: a merge, with no comment too early. Assumes nothing.
use mathlib.Core.Path.{◌≡◌, refl, sym, ap, ap₂, ◌∙◌}
use mathlib.Core.Logic.{◌⊎◌, inl, inr}
use Prim.Native.Nat.{ℕ, suc, ◌<◌}
use native.Mathlib.Nat.{le_refl}
use native.Mathlib.Omega.{arith}
use mathlib.Core.List.{List, [], ◌∷◌, ◌++◌, map, append-nil, append_assoc, cons≢nil, nil≢cons, head-eq_of_cons-eq, tail-eq_of_cons-eq}
use Rattle.text.specs.Span.{text_of}
use Rattle.text.specs.Delete.{delete, delete_from}
use Rattle.meaning.specs.declared.call.Call.{Call}
use Rattle.meaning.specs.State.{Script, Note, note_of, State}
use Rattle.meaning.specs.Pieces.{Piece, gap, text, comment}
use Rattle.meaning.specs.Demand3.{collects, writes, Text, written, Found, found, bare, all_collected, all_written, Item, a_text, a_comment, texts_in, comments_in, bytes_in, AllLater, NoneEarly}
use Rattle.meaning.proofs.Laws.{map_append, texts, freed}
use Rattle.meaning.proofs.Clean.{source_of, merged}
use Rattle.meaning.proofs.Step.{Fair, fair}
use Rattle.meaning.proofs.Steps.{Made, made, calls_in, pieces, Steps, nil, go}

-- ---- comments found, split where those let out end

bare_found : (n : ℕ) (cs : List Note) → map bare (map (found n) cs) ≡ cs
bare_found n [] = refl
bare_found n (c ∷ cs) = ap (c ∷◌) (bare_found n cs)

no_found : (us : List Found) → map bare us ≡ [] → us ≡ []
no_found [] e = refl
no_found (u ∷ us) e = absurd (cons≢nil e)

record Split (us : List Found) (xs ys : List Note) : Type 0 where
  left : List Found
  right : List Found
  is : us ≡ left ++ right
  on_left : map bare left ≡ xs
  on_right : map bare right ≡ ys

split_found : (us : List Found) (xs ys : List Note) → xs ++ ys ≡ map bare us → Split us xs ys
split_found us [] ys e = record { left = []; right = us; is = refl; on_left = refl; on_right = sym e }
split_found [] (x ∷ xs) ys e = absurd (cons≢nil e)
split_found (u ∷ us) (x ∷ xs) ys e =
    let r = split_found us xs ys (tail-eq_of_cons-eq e) in
    record { left = u ∷ r.left; right = r.right; is = ap (u ∷◌) r.is; on_left = ap₂ (λ a b. a ∷ b) (sym (head-eq_of_cons-eq e)) r.on_left; on_right = r.on_right }

-- each was collected by a call before number n
data AllBefore (n : ℕ) : List Found → Type 0 where
  none_before : AllBefore n []
  one_before : {f : Found} {fs : List Found} → f.by < n → AllBefore n fs → AllBefore n (f ∷ fs)

before_suc : {n : ℕ} {fs : List Found} → AllBefore n fs → AllBefore (suc n) fs
before_suc none_before = none_before
before_suc (one_before {f} h r) = one_before {f = f} (omega arith) (before_suc r)

before_append : {n : ℕ} {fs gs : List Found} → AllBefore n fs → AllBefore n gs → AllBefore n (fs ++ gs)
before_append none_before r = r
before_append (one_before h q) r = one_before h (before_append q r)

before_front : {n : ℕ} (fs gs : List Found) → AllBefore n (fs ++ gs) → AllBefore n fs
before_front [] gs r = none_before
before_front (f ∷ fs) gs (one_before h r) = one_before h (before_front fs gs r)

before_back : {n : ℕ} (fs : List Found) {gs : List Found} → AllBefore n (fs ++ gs) → AllBefore n gs
before_back [] r = r
before_back (f ∷ fs) (one_before h r) = before_back fs r

before_new : (n : ℕ) (cs : List Note) → AllBefore (suc n) (map (found n) cs)
before_new n [] = none_before
before_new n (c ∷ cs) = one_before (le_refl (suc n)) (before_new n cs)

-- ---- later texts

later_call : (k n : ℕ) (ts : List (List ℕ)) (rest : List Text) → k < n → AllLater k rest → AllLater k (map (written n) ts ++ rest)
later_call k n [] rest h r = r
later_call k n (t ∷ ts) rest h r = (h, later_call k n ts rest h r)

later_calls : (x : Script) (k n : ℕ) (cs : List Call) → k < n → AllLater k (all_written x n cs)
later_calls x k n [] h = tt
later_calls x k n (c ∷ cs) h = later_call k n (writes x c) (all_written x (suc n) cs) h (later_calls x k (suc n) cs (omega arith))

-- ---- the items of one call: texts, or comments

abbrev text_items : ℕ → List (List ℕ) → List Item
text_items n [] = []
text_items n (t ∷ ts) = a_text (written n t) ∷ text_items n ts

abbrev comment_items : List Found → List Item
comment_items [] = []
comment_items (u ∷ us) = a_comment u ∷ comment_items us

merged_append : (src : List ℕ) (ps qs : List Piece) → merged src (ps ++ qs) ≡ merged src ps ++ merged src qs
merged_append src [] qs = refl
merged_append src (p ∷ ps) qs = ap (delete (source_of src p) ++◌) (merged_append src ps qs) ∙ sym (append_assoc (delete (source_of src p)) (merged src ps) (merged src qs))

module _ (n : ℕ) (r : List Item) where
  text_texts : (ts : List (List ℕ)) → texts_in (text_items n ts ++ r) ≡ map (written n) ts ++ texts_in r
  text_texts [] = refl
  text_texts (t ∷ ts) = ap (written n t ∷◌) (text_texts ts)

  text_comments : (ts : List (List ℕ)) → comments_in (text_items n ts ++ r) ≡ comments_in r
  text_comments [] = refl
  text_comments (t ∷ ts) = text_comments ts

  text_early : (ts : List (List ℕ)) → NoneEarly r → NoneEarly (text_items n ts ++ r)
  text_early [] h = h
  text_early (t ∷ ts) h = text_early ts h

  text_bytes : (src : List ℕ) (ps : List Piece) → freed ps ≡ [] → bytes_in src (text_items n (texts ps) ++ r) ≡ merged src ps ++ bytes_in src r
  unfolding delete_from
  text_bytes src [] e = refl
  text_bytes src (gap bs ∷ ps) e = text_bytes src ps e
  text_bytes src (text bs ∷ ps) e = ap (delete bs ++◌) (text_bytes src ps e) ∙ sym (append_assoc (delete bs) (merged src ps) (bytes_in src r))
  text_bytes src (comment c bs ∷ ps) e = absurd (cons≢nil e)

  comment_texts : (us : List Found) → texts_in (comment_items us ++ r) ≡ texts_in r
  comment_texts [] = refl
  comment_texts (u ∷ us) = comment_texts us

  comment_comments : (us : List Found) → comments_in (comment_items us ++ r) ≡ us ++ comments_in r
  comment_comments [] = refl
  comment_comments (u ∷ us) = ap (u ∷◌) (comment_comments us)

  comment_early : (us : List Found) → AllBefore n us → ((k : ℕ) → k < n → AllLater k (texts_in r)) → NoneEarly r → NoneEarly (comment_items us ++ r)
  comment_early [] b later h = h
  comment_early (u ∷ us) (one_before l b) later h = (rw (comment_texts us) (later u.by l), comment_early us b later h)

  comment_bytes : (src : List ℕ) (us : List Found) (ps : List Piece) → texts ps ≡ [] → map bare us ≡ freed ps → bytes_in src (comment_items us ++ r) ≡ merged src ps ++ bytes_in src r
  unfolding delete_from
  comment_bytes src [] [] e f = refl
  comment_bytes src (u ∷ us) [] e f = absurd (cons≢nil f)
  comment_bytes src us (gap bs ∷ ps) e f = comment_bytes src us ps e f
  comment_bytes src us (text bs ∷ ps) e f = absurd (cons≢nil e)
  comment_bytes src [] (comment c bs ∷ ps) e f = absurd (nil≢cons f)
  comment_bytes src (u ∷ us) (comment c bs ∷ ps) e f =
      let d = delete (text_of src c.span) in
      rw (head-eq_of_cons-eq f) (ap (d ++◌) (comment_bytes src us ps e (tail-eq_of_cons-eq f)) ∙ sym (append_assoc d (merged src ps) (bytes_in src r)))

-- ---- the row of many calls, where the comments `wait` waited and the first call has number n

pub record Row (x : Script) (n : ℕ) (wait : List Found) (ms : List Made) (t : State) : Type 0 where
  pub row : List Item
  pub waiting : List Found
  pub bytes : bytes_in x.source row ≡ merged x.source (pieces ms)
  pub texts_are : texts_in row ≡ all_written x n (calls_in ms)
  pub comments_are : comments_in row ++ waiting ≡ wait ++ all_collected x n (calls_in ms)
  pub waits : map bare waiting ≡ map note_of t.queue
  pub early : NoneEarly row

module _ (x : Script) (cap : ℕ) where
  -- a call in front of a row
  module _
      {s s₁ t : State} {ms : List Made} {ps : List Piece} (n : ℕ) (wait : List Found) (c : Call)
      (f : Fair x cap s c s₁ ps)
      (sp : Split (wait ++ map (found n) (collects x c)) (freed ps) (map note_of s₁.queue))
      (old : AllBefore (suc n) (sp.left ++ sp.right))
      (q : Row x (suc n) sp.right ms t) where
    later : (k : ℕ) → k < suc n → AllLater k (texts_in q.row)
    later k h = rw q.texts_are (later_calls x k (suc n) (calls_in ms) h)

    kept : (fs : List Found) → fs ≡ sp.left ++ comments_in q.row → fs ++ q.waiting ≡ wait ++ all_collected x n (calls_in (made c ps ∷ ms))
    kept fs e = rw (e, append_assoc sp.left, q.comments_are, ← append_assoc sp.left, ← sp.is) (append_assoc wait _ _)

    put : (freed ps ≡ []) ⊎ (texts ps ≡ []) → Row x n wait (made c ps ∷ ms) t
    put (inl en) = record {
      row = text_items n (texts ps) ++ q.row;
      waiting = q.waiting;
      bytes = text_bytes n q.row x.source ps en ∙ ap (merged x.source ps ++◌) q.bytes ∙ sym (merged_append x.source ps (pieces ms));
      texts_are = text_texts n q.row (texts ps) ∙ ap₂ (λ a b. map (written n) a ++ b) f.wrote q.texts_are;
      comments_are = kept _ (text_comments n q.row (texts ps) ∙ ap (◌++ comments_in q.row) (sym (no_found sp.left (sp.on_left ∙ en))));
      waits = q.waits;
      early = text_early n q.row (texts ps) q.early;
    }
    put (inr et) = record {
      row = comment_items sp.left ++ q.row;
      waiting = q.waiting;
      bytes = comment_bytes n q.row x.source sp.left ps et sp.on_left ∙ ap (merged x.source ps ++◌) q.bytes ∙ sym (merged_append x.source ps (pieces ms));
      texts_are = comment_texts n q.row sp.left ∙ q.texts_are ∙ ap (λ ts. map (written n) ts ++ all_written x (suc n) (calls_in ms)) (sym et ∙ f.wrote);
      comments_are = kept _ (comment_comments n q.row sp.left);
      waits = q.waits;
      early = comment_early (suc n) q.row sp.left (before_front sp.left sp.right old) later q.early;
    }

  row_of : {s t : State} {ms : List Made} → Steps x cap s ms t → (n : ℕ) (wait : List Found) → map bare wait ≡ map note_of s.queue → AllBefore n wait → Row x n wait ms t
  row_of nil n wait e h = record { row = []; waiting = wait; bytes = refl; texts_are = refl; comments_are = sym (append-nil wait); waits = e; early = tt }
  row_of {s} {t} (go {s₁} {ms} {ps} c e r) n wait ew h = put n wait c f sp old (row_of r (suc n) sp.right sp.on_right (before_back sp.left old)) f.apart
    where
      f : Fair x cap s c s₁ ps
      f = fair x cap c e

      us : List Found
      us = wait ++ map (found n) (collects x c)

      on_us : map bare us ≡ map note_of s.queue ++ collects x c
      on_us = map_append bare wait _ ∙ ap₂ (λ a b. a ++ b) ew (bare_found n (collects x c))

      sp : Split us (freed ps) (map note_of s₁.queue)
      sp = split_found us (freed ps) (map note_of s₁.queue) (f.moved ∙ sym on_us)

      old : AllBefore (suc n) (sp.left ++ sp.right)
      old = rw (← sp.is) (before_append (before_suc h) (before_new n (collects x c)))

  -- from a state where nothing waits
  pub row_from : {s t : State} {ms : List Made} → Steps x cap s ms t → map note_of s.queue ≡ [] → Row x 0 [] ms t
  row_from r e = row_of r 0 [] (sym e) none_before
