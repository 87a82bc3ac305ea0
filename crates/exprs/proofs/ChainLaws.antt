-- Laws of chains: where they break, and their links one by one. Assumes nothing.
use Rattle.lent.specs.declared.formatter.Formatter.{Formatter}
use Rattle.std.specs.Prelude.{Option, Some, None}
use Rattle.steps.proofs.Rules.{◌≡◌, refl, sym, ap, ◌∙◌, Bool, true, false, cond, List, [], ◌∷◌, ltb, tree_of, ℕ, suc, ◌+◌, ◌<◌, ◌≤◌, length, arith, RecordNo, Script, ◌then◌, Engine, engine}
use Rattle.steps.proofs.Rules.{Makes, nothing_made, Stream, records_of, next_is, take_any, ◌▸◌, pump, Goes, ◌▹◌, pumped, Falls, Going, starts, goes_on, done, falls, pump_takes}
use native.Mathlib.Numerals.{add-one}
use Rattle.tree.specs.declared.cursor.Cursor.{Cursor}
use Rattle.tree.specs.declared.record.Record.{Record}
use Rattle.tree.specs.Cursor.{found_of, head_of, peek_of, behind, cursor_of, children_of}
use Rattle.tree.proofs.Laws.{found_is, found_not, peek_at, kept_few, tree_few}
use Rattle.lent.proofs.MadeLaws as made
use Rattle.walk.specs.declared.stream.Stream as code
use Rattle.walk.specs.Stream.{no, stream_at, left_from}
use Rattle.walk.specs.Flow.{Got, number_of}
use Rattle.loose.specs.Chain.{chain_from}
use Rattle.parts.specs.Links.{break_link, chain_end}
use Rattle.exprs.specs.Rule.{Rule, Below}
use Rattle.exprs.specs.Chain.{Linked, linked, begin, next, ended, links, chain}
use Rattle.exprs.proofs.TakenLaws.{take_head}

-- the number that is handed on says what was found, as a tree has no more records than numbers
found_back : (rs : List Record) → length rs ≤ 8192 → (c : Cursor) (o : Option RecordNo) → o ≡ peek_of rs c → found_of (number_of o) ≡ o
found_back rs few c (Some k) e = let p = peek_at {rs = rs} {c = c} (sym e) in found_is {k = k} (omega (arith, p.here))
found_back rs few c None e = found_not {k = no 8192} (omega arith)

-- by the head that was taken
pub chain_of : {x : Script} (lay : Below) → length x.tree ≤ 8192 → {k head : RecordNo} {s s₁ s' : Stream} {w w' : Formatter} {e e' : Engine} {n : ℕ} → s ≡ records_of x.tree k → Got (take_any s) s w w' head s₁ → n ≡ chain_from x k (found_of head)
    → Goes x (pump (lay Rule.Inner) ▸ links x lay n) s e e' s' → Goes x (chain x lay) s e e' s'
unfolding chain
chain_of {x} lay few {k} {head} {s = s} {n = n} h g q y =
    let l : head_of s.left ≡ peek_of x.tree (children_of x.tree k.0) = ap (λ (z : Stream). head_of z.left) h in
    let b : found_of head ≡ head_of s.left = ap found_of (g.found ∙ ap number_of (take_head s)) ∙ found_back x.tree few (children_of x.tree k.0) (head_of s.left) l in
    let f : chain_from x s.node (head_of s.left) ≡ n = ap (λ (z : Stream). chain_from x z.node (head_of s.left)) h ∙ ap (chain_from x k) (sym b) ∙ sym q in
    record { ran = rw f y.ran; at = rw f y.at }

-- a stream has no more records left than a tree has, and the next
pub left_few : (words : List ℕ) (p : code.Stream) → 0 + length (stream_at (tree_of words) p).left ≤ 8193
unfolding stream_at
left_few words p = go p.next
  where
    go : (o : Option RecordNo) → 0 + length (left_from (tree_of words) p.end o) ≤ 8193
    go (Some k) = omega (arith, kept_few (tree_of words) (cursor_of (behind (tree_of words) k.0) p.end.0), tree_few words)
    go None = omega arith

module _ (x : Script) (lay : Below) (from : ℕ) where
  abbrev pub Linking : Stream → Engine → Stream → Engine → ℕ → Type 0
  Linking s₀ e₀ s e n = Going x (λ (s : Linked). s.rest) (λ (k : ℕ). true) (next x lay from) (linked s₀ 0) e₀ (linked s n) e

  links_fall : Falls (λ (s : Linked). s.rest) (λ (k : ℕ). true) (next x lay from)
  unfolding next
  links_fall = record { less = λ s h. (pump_takes (λ (k : ℕ). true) (λ k. break_link x.tree from s.count k then lay Rule.Link k)).less s.rest h }

  module _ {s s' : Stream} {w w' : Formatter} {q b : List ℕ} {k : RecordNo} (n : ℕ) {t : Bool} {e e' : Engine} (f : t ≡ next_is (λ (k : ℕ). true) s) (h : t ≡ true) (g : Got (take_any s) s w w' k s') (l : Makes x (break_link x.tree from n k) (engine w' q b) e) (m : Makes x (lay Rule.Link k) e e') where
    one_link : Goes x (next x lay from) (linked s n) (engine w q b) e' (linked s' (n + 1))
    unfolding next
    one_link =
        let y : Goes x (pump (λ k. break_link x.tree from n k then lay Rule.Link k)) s (engine w q b) e' s' = pumped (λ k. break_link x.tree from n k then lay Rule.Link k) g (made.◌▹◌ l m) in
        record { ran = y.ran; at = rw add-one (ap (λ (s : Stream). linked s (suc n)) y.at) }

    pub next_link : {s₀ : Stream} {e₀ : Engine} → Linking s₀ e₀ s (engine w q b) n → Linking s₀ e₀ s' e' (n + 1)
    next_link v = goes_on links_fall f h one_link v

    pub link_less : length s'.left < length s.left
    link_less = falls links_fall f h one_link

  pub no_link : {s : Stream} {e : Engine} → Linking s e s e 0
  no_link = starts

  pub all_linked : {s₀ s : Stream} {e₀ e e' : Engine} {n : ℕ} {t : Bool} → t ≡ next_is (λ (k : ℕ). true) s → t ≡ false → Linking s₀ e₀ s e n → Makes x (chain_end from n) e e' → Goes x (links x lay from) s₀ e₀ e' s
  unfolding links begin ended
  all_linked f h v m = record { ran = nothing_made; at = refl } ▹ done f h v ▹ record { ran = m; at = refl }
