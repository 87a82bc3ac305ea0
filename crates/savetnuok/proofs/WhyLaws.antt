-- The reason that is told decides the layout: one definition, `reason` of crate `loose`, is asked by both. Assumes nothing.
use mathlib.Core.Path.{◌≡◌, refl, sym, ap, ◌∙◌}
use mathlib.Core.Bool.{Bool, true, false, cond, ◌||◌}
use mathlib.Core.List.{List, [], ◌∷◌}
use Prim.Native.Nat.{ℕ, ◌*◌, ◌≤◌}
use native.Mathlib.Omega.{arith}
use lib.ListN.{length}
use lib.Dec.{eqb, leb, ltb}
use Rattle.std.specs.Prelude.{Option, Ok, Err}
use borrow.Author.Tests.{eqb-true, eqb-false}
use Rattle.tree.specs.declared.record.RecordNo.{RecordNo}
use Rattle.tree.specs.Table.{node_of}
use Rattle.tree.specs.Cursor.{shown, kept, behind, children_of, head_of, peek_of}
use Rattle.kinds.specs.declared.Kind.{Kind}
use Rattle.kinds.specs.Facts.{byte_of, facts_of}
use Rattle.meaning.specs.declared.answer.Refusal.TheVariants.{NoRule, NoNode, WrongKind}
use Rattle.meaning.specs.Opening.{script_in}
use Rattle.meaning.specs.Plan.{Plan, nothing, refuse, ◌then◌}
use Rattle.meaning.specs.State.{Script}
use Rattle.walk.specs.Flow.{◌▸◌, plain, is, parse}
use Rattle.steps.specs.Items.{begin, items, list}
use Rattle.gaps.specs.Lines.{open_lines}
use Rattle.loose.specs.declared.reason.Reason.{Reason}
use Rattle.loose.specs.Reason.{reason, is_loose}
use Rattle.parts.specs.Sorts.{is_stmt, is_decl}
use Rattle.exprs.specs.Rule.{Rule}
use Rattle.exprs.specs.List.{loose, compact, exprs, rows, row, object, behind_name}
use Rattle.exprs.specs.Lay.{inner, below, lay}
use Rattle.rules.specs.Rules.{arguments, by_expr, by_part, rule_of, rule, layout}
use Rattle.reasons.specs.Why.{is_list, is_name, of_named, of_first, of_object, of_kind, why_at}
use Rattle.reasons.proofs.Laws.{none_compact, reason_loose, why_opened}
use Rattle.savetnuok.specs.Why.{Told, exprs_as, object_as, layout_as, Decides}

module _ (x : Script) (k : RecordNo) where
  -- ---- the rule of each kind, the question taken out

  call_as : (node_of x.tree k.0).kind ≡ byte_of Kind.ExprCall → rule x k ≡ layout_as x (is_loose (reason x false k (children_of x.tree k.0).at.0)) k
  unfolding rule rule_of is_stmt is_decl arguments parse exprs layout_as byte_of facts_of
  call_as q = rw q

  array_as : (node_of x.tree k.0).kind ≡ byte_of Kind.ExprArray → rule x k ≡ layout_as x (is_loose (reason x false k (children_of x.tree k.0).at.0)) k
  unfolding rule rule_of is_stmt is_decl by_part by_expr lay below inner parse exprs layout_as byte_of facts_of
  array_as q = rw q

  object_as_lem : (node_of x.tree k.0).kind ≡ byte_of Kind.ExprObject → rule x k ≡ layout_as x (is_loose (reason x true k (behind_name x.tree (kept x.tree (shown x.tree (children_of x.tree k.0)))))) k
  unfolding rule rule_of is_stmt is_decl by_part by_expr lay below inner parse object layout_as byte_of facts_of
  object_as_lem q = rw q

  -- ---- what is told

  module _ {r : Option Reason} where
    -- by the object's name
    by_name : (n : ℕ) (t : Bool) → cond t (Ok (reason x true k (behind x.tree n))) (Err (WrongKind (record { 0 = n }))) ≡ Ok r → reason x true k (behind x.tree n) ≡ r
    by_name n true e = cc
    by_name n false e = let z : ◌≡◌ {A = ℕ} 0 1 = cc in absurd (omega arith)

    object_told : (node_of x.tree k.0).kind ≡ byte_of Kind.ExprObject → of_object x k ≡ Ok r → rule x k ≡ layout_as x (is_loose r) k
    unfolding of_object of_first of_named
    object_told q e = object_as_lem q ∙ ap (λ (s : Option Reason). layout_as x (is_loose s) k) (go (kept x.tree (shown x.tree (children_of x.tree k.0))) e)
      where
        go : (ks : List ℕ) → of_first x k (head_of ks) ≡ Ok r → reason x true k (behind_name x.tree ks) ≡ r
        go [] e = let z : ◌≡◌ {A = ℕ} 0 1 = cc in absurd (omega arith)
        go (n ∷ ns) e = by_name n (is_name (node_of x.tree n).kind) e

    kind_told : of_kind x (node_of x.tree k.0).kind k ≡ Ok r → rule x k ≡ layout_as x (is_loose r) k
    unfolding of_kind is_list
    kind_told = go (eqb kind (byte_of Kind.ExprCall)) refl (eqb kind (byte_of Kind.ExprArray)) refl (eqb kind (byte_of Kind.ExprObject)) refl
      where
        kind : ℕ
        kind = (node_of x.tree k.0).kind

        why : Option Reason
        why = reason x false k (children_of x.tree k.0).at.0

        go : (a : Bool) → eqb kind (byte_of Kind.ExprCall) ≡ a → (b : Bool) → eqb kind (byte_of Kind.ExprArray) ≡ b → (c : Bool) → eqb kind (byte_of Kind.ExprObject) ≡ c
            → cond (a || b) (Ok why) (cond c (of_object x k) (Err (NoRule k))) ≡ Ok r → rule x k ≡ layout_as x (is_loose r) k
        go true ea b eb c ec e = let z : why ≡ r = cc in call_as (eqb-true _ _ ea) ∙ ap (λ (s : Option Reason). layout_as x (is_loose s) k) z
        go false ea true eb c ec e = let z : why ≡ r = cc in array_as (eqb-true _ _ eb) ∙ ap (λ (s : Option Reason). layout_as x (is_loose s) k) z
        go false ea false eb true ec e = object_told (eqb-true _ _ ec) e
        go false ea false eb false ec e = let z : ◌≡◌ {A = ℕ} 0 1 = cc in absurd (omega arith)

    layout_told : why_at x k ≡ Ok r → layout x k ≡ layout_as x (is_loose r) k
    unfolding why_at layout
    layout_told = go (leb (length x.tree) k.0)
      where
        go : (t : Bool) → cond t (Err (NoNode k)) (of_kind x (node_of x.tree k.0).kind k) ≡ Ok r → cond t (refuse (NoNode k)) (rule x k) ≡ layout_as x (is_loose r) k
        go true e = let z : ◌≡◌ {A = ℕ} 0 1 = cc in absurd (omega arith)
        go false e = kind_told e

-- ---- loose calls begin with a new line, compact ones never

-- behind the opening token, before the closing one and what is left over
lists_differ : {a a' p p' q c c' d d' : Plan} → (a then (((nothing then p) then q) then c)) then d ≡ (a' then ((open_lines then p') then c')) then d' → ⊥
unfolding open_lines
lists_differ e = let z : ◌≡◌ {A = ℕ} 0 1 = cc in omega arith

-- behind an object's name and its brace
objects_differ : {a a' b b' p p' q d d' : Plan} → (a then (b then ((nothing then p) then q))) then d ≡ (a' then (b' then (open_lines then p'))) then d' → ⊥
unfolding open_lines
objects_differ e = let z : ◌≡◌ {A = ℕ} 0 1 = cc in omega arith

calls_differ : (x : Script) (k : RecordNo) → layout_as x false k ≡ layout_as x true k → ⊥
unfolding layout_as parse ◌▸◌ plain loose compact rows row list items begin
calls_differ x k = go (eqb (node_of x.tree k.0).kind (byte_of Kind.ExprCall)) (eqb (node_of x.tree k.0).kind (byte_of Kind.ExprArray))
  where
    of_list : ℕ → ℕ → Bool → Plan
    of_list opening closing loose? = parse x.tree (exprs_as x (lay x 63) loose? opening closing) k

    of_object_lem : Bool → Plan
    of_object_lem loose? = parse x.tree (object_as x (lay x 63) loose?) k

    at : (a b : Bool) → Bool → Plan
    at a b t = cond a (of_list (byte_of Kind.OpenParenthesis) (byte_of Kind.CloseParenthesis) t) (cond b (of_list (byte_of Kind.OpenBracket) (byte_of Kind.CloseBracket) t) (of_object_lem t))

    go : (a b : Bool) → at a b false ≡ at a b true → ⊥
    go true b e = lists_differ e
    go false true e = lists_differ e
    go false false e = objects_differ e

-- the answer of `savetnuok_why` and the calls of `savetnuok_run` on the same node
pub why_decides : {src tree : List ℕ} {k n : ℕ} → Told src tree (record { 0 = k }) n → Decides src tree k n
why_decides {src} {tree} {k} t = record {
  compact_calls = λ (z : _). let g = none_compact _ t.answer z in rw (← g.so) (layout_told (script_in src tree) (record { 0 = k }) (why_opened src tree (record { 0 = k }) g.is));
  loose_calls = λ (h : _). let g = reason_loose _ t.answer t.place_fits h in rw (← g.so) (layout_told (script_in src tree) (record { 0 = k }) (why_opened src tree (record { 0 = k }) g.is));
  not_both = calls_differ (script_in src tree) (record { 0 = k });
}
