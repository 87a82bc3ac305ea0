-- What the promises leave no room for: small theorems on the definitions, each against one wrong engine. Assumes nothing.
use mathlib.Core.Path.{◌≡◌, refl, ◌∙◌}
use Prim.Native.Nat.{ℕ, suc, ◌+◌, ◌≤◌}
use native.Mathlib.Omega.{arith}
use mathlib.Core.Bool.{Bool, true, false}
use mathlib.Core.List.{List, [], ◌∷◌, ◌++◌, append-nil}
use lib.ListN.{length, length-append}
use borrow.Author.Tests.{le-ltb}
use Rattle.meaning.specs.declared.call.Hint.TheVariants.{Line, Prefix, Suffix, Infix}
use Rattle.meaning.specs.declared.call.Literal.{Literal}
use Rattle.meaning.specs.declared.call.Call.TheVariants.{Lit, Comments, Nl, Ws}
use Rattle.meaning.specs.State.{Script, Comment, State}
use Rattle.meaning.specs.Pieces.{Piece, gap, text}
use Rattle.meaning.specs.Outcome.{done}
use Rattle.meaning.specs.Flush.{breaking, flush_gap, flush}
use Rattle.meaning.specs.Release.{space_pieces, space_release}
use Rattle.meaning.specs.Calls.{lit_text, act, step}
use Rattle.meaning.proofs.Laws.{freed, none_left, OnDone, is_done, on_refuse, goes}

unfoldable pub LetsNothingOut : State → State → List Piece → Type 0
LetsNothingOut s s' ps = (freed ps ≡ []) × (s'.queue ≡ s.queue)

held : (src : List ℕ) (s : State) (front back : Bool) (c : Comment) (q : List Comment) → s.queue ≡ c ∷ q → c.line ≡ true
    → (freed (space_release src front back s).out ≡ []) × ((space_release src front back s).state.queue ≡ s.queue)
unfolding space_pieces
held src s front back c q e l = (rw (e, l), rw (e, l))

module _ (x : Script) (cap : ℕ) (s : State) where
  -- an engine that holds all comments back until the finish: the Line hint lets every comment out
  pub line_hint_empties : OnDone (λ s' _. s'.queue ≡ []) (act x cap s (Comments Line))
  unfolding act
  line_hint_empties = on_refuse _ _ λ _. is_done (none_left s.queue)

  -- `nl` that stores min(n, 2): where there is no count, n itself is stored
  pub nl_stores : (n : ℕ) → s.lines ≡ 0 → OnDone (λ s' _. (s'.lines ≡ suc n) × (s'.use_lines ≡ true)) (act x cap s (Nl (suc n)))
  unfolding act
  nl_stores n e = on_refuse _ _ λ _. is_done (rw e, refl)

  -- `nl` that overwrites a count: the script's own count wins
  pub nl_keeps : (n l : ℕ) → s.lines ≡ suc l → OnDone (λ s' _. (s'.lines ≡ suc l) × (s'.use_lines ≡ true)) (act x cap s (Nl (suc n)))
  unfolding act
  nl_keeps n l e = on_refuse _ _ λ _. is_done (rw e, refl)

  -- a `lit` that clears `lines` without having written a newline
  pub lit_keeps_lines : (t : Literal) → breaking s ≡ false → OnDone (λ s' _. (s'.lines ≡ s.lines) × (s'.use_lines ≡ s.use_lines)) (act x cap s (Lit t))
  unfolding act
  lit_keeps_lines t e = on_refuse _ _ λ _. is_done (rw e, rw e)

  -- a block comment that passes a waiting line comment: where one is at the head, no space release lets anything out
  module _ (c : Comment) (q : List Comment) (e : s.queue ≡ c ∷ q) (l : c.line ≡ true) where
    pub line_note_holds_ws : OnDone (LetsNothingOut s) (act x cap s Ws)
    unfolding act LetsNothingOut
    line_note_holds_ws = on_refuse _ _ λ _. is_done (held x.source s true false c q e l)

    pub line_note_holds_prefix : OnDone (LetsNothingOut s) (act x cap s (Comments Prefix))
    unfolding act LetsNothingOut
    line_note_holds_prefix = on_refuse _ _ λ _. is_done (held x.source s false true c q e l)

    pub line_note_holds_suffix : OnDone (LetsNothingOut s) (act x cap s (Comments Suffix))
    unfolding act LetsNothingOut
    line_note_holds_suffix = on_refuse _ _ λ _. is_done (held x.source s true false c q e l)

    pub line_note_holds_infix : OnDone (LetsNothingOut s) (act x cap s (Comments Infix))
    unfolding act LetsNothingOut
    line_note_holds_infix = on_refuse _ _ λ _. is_done (held x.source s false false c q e l)

  -- an engine that refuses everything: an open engine with room writes a literal
  pub lit_goes : (t : Literal) → s.finished ≡ false → s.len + (length (flush_gap s) + length (lit_text t)) ≤ cap
      → step x cap s (Lit t) ≡ done (flush true s (text (lit_text t) ∷ [])).state (gap (flush_gap s) ∷ text (lit_text t) ∷ [])
  unfolding step act
  lit_goes t o r =
      let n : length (flush_gap s ++ (lit_text t ++ [])) ≡ length (flush_gap s) + length (lit_text t) = rw append-nil (length-append (flush_gap s) (lit_text t)) in
      goes _ _ _ o ∙ goes _ _ _ (le-ltb cap _ (omega arith))
