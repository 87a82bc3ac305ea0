-- A list of call records, record by record. Assumes nothing.
use Rattle.lent.specs.declared.formatter.Formatter.{Formatter}
use Rattle.std.specs.Prelude.{Ok}
use mathlib.Core.Path.{◌≡◌, refl, sym, ap, ◌∙◌}
use mathlib.Core.Bool.{Bool, true, false, cond, ◌&&◌, ◌||◌}
use mathlib.Core.List.{List, [], ◌∷◌}
use mathlib.Core.Option.{Option}
use Prim.Native.Nat.{ℕ, zero, suc, ◌+◌, ◌-◌, ◌*◌, ◌≤◌, ◌<◌, min}
use native.Mathlib.Nat.{add-zero}
use native.Mathlib.Omega.{arith}
use lib.Dec.{eqb, leb}
use lib.ListN.{length, take, drop, get_or, length-take, length-drop, drop_of_length-le}
use lib.Seq.{drop-drop, get_or-drop, take_all}
use borrow.Author.Tests.{leb-true, leb-false}
use Rattle.tree.specs.declared.record.RecordNo.{RecordNo}
use Rattle.tree.specs.Table.{tree_of, room_of, fitting, Decoded}
use Rattle.meaning.specs.declared.call.Call.{Call}
use Rattle.std.specs.Prelude as read
use Rattle.entry.specs.declared.state.State as code
use Rattle.meaning.specs.State.{Script, fresh}
use Rattle.meaning.specs.CallRecord.{decode}
use Rattle.meaning.specs.World.{opened, Result, result}
use Rattle.meaning.specs.Plan.{Plan, nothing, ◌then◌, exec}
use Rattle.lent.specs.View.{tab, script_of}
use Rattle.lent.specs.Loans.{Engine, engine, reads, Makes}
use Rattle.entry.specs.Served.{encoded, started_run, as_call}
use Rattle.bench.specs.Packed.{reached_as}
use Rattle.bench.specs.History.{body_len, asked_at, calls_from, calls_in, script_at, replayed, Replayed}

-- ---- how long a record is

pub body_most : (k : ℕ) → body_len k ≤ 4
unfolding body_len
body_most k = go (leb 0x01 k && leb k 0x03) ((leb 0x04 k && leb k 0x07) || eqb k 0x09)
  where
    go : (a b : Bool) → cond a 4 (cond b 1 0) ≤ 4
    go true b = omega arith
    go false true = omega arith
    go false false = omega arith

-- ---- the plan from a byte of the list on

calls_skip : (k p : ℕ) (s : List ℕ) → calls_from k p s ≡ calls_from 0 (p + k) (drop k s)
unfolding calls_from
calls_skip zero p s = rw add-zero
calls_skip (suc k) p [] = refl
calls_skip (suc k) p (b ∷ bs) = let e : suc p + k ≡ p + suc k = omega arith in calls_skip k (suc p) bs ∙ rw e

calls_none : (s : List ℕ) (at p : ℕ) → length s ≤ at → calls_from 0 p (drop at s) ≡ nothing
unfolding calls_from
calls_none s at p h = rw (drop_of_length-le s h)

calls_lead : (l : List ℕ) (p n : ℕ) → 0 < length l → n ≡ 1 + body_len (get_or l 0 0) → calls_from 0 p l ≡ asked_at p (decode (take n l)) then calls_from 0 (p + n) (drop n l)
unfolding calls_from
calls_lead [] p n h e = absurd (omega arith)
calls_lead (b ∷ bs) p n h e =
    let m : n ≡ suc (body_len b) = omega arith in
    let k : suc p + body_len b ≡ p + suc (body_len b) = omega arith in
    rw (m, calls_skip (body_len b) (suc p) bs, k)

module _ (s : List ℕ) (at : ℕ) (h : at < length s) {t : List ℕ} (e : t ≡ take (1 + body_len (get_or s at 0)) (drop at s)) where
  size : ℕ
  size = 1 + body_len (get_or s at 0)

  long : length t ≡ min size (length s - at)
  unfolding size
  long = ap length e ∙ rw (length-take, length-drop)

  -- a record that is cut is the last: behind it and behind the list's end nothing stands
  next : calls_from 0 (at + size) (drop (at + size) s) ≡ calls_from 0 (at + length t) (drop (at + length t) s)
  next = go (leb size (length s - at)) refl
    where
      go : (b : Bool) → leb size (length s - at) ≡ b → calls_from 0 (at + size) (drop (at + size) s) ≡ calls_from 0 (at + length t) (drop (at + length t) s)
      go true q = let l : size ≡ length t = omega (arith, leb-true size (length s - at) q, long) in rw l
      go false q =
          let f = leb-false size (length s - at) q in
          calls_none s (at + size) (at + size) (omega arith) ∙ sym (calls_none s (at + length t) (at + length t) (omega (arith, long)))

  pub calls_cons : calls_from 0 at (drop at s) ≡ asked_at at (decode t) then calls_from 0 (at + length t) (drop (at + length t) s)
  unfolding size
  calls_cons =
      let z : size ≡ 1 + body_len (get_or (drop at s) 0 0) = rw (get_or-drop, add-zero) in
      calls_lead (drop at s) at size (omega (arith, length-drop at s)) z ∙ rw (← e, drop-drop, next)

  pub some_bytes : 0 < length t
  unfolding size
  some_bytes = omega (arith, long)

  pub few_bytes : at + length t ≤ length s
  few_bytes = omega (arith, long)

-- ---- a record's bytes

pub record_part : (s : List ℕ) (at n : ℕ) → n ≡ 1 + body_len (get_or s at 0) → take (at + n - at) (drop at s) ≡ take (1 + body_len (get_or s at 0)) (drop at s)
record_part s at n e = let z : at + n - at ≡ 1 + body_len (get_or s at 0) = omega arith in rw z

pub record_rest : (s : List ℕ) (at n : ℕ) → n ≡ 1 + body_len (get_or s at 0) → length s - at ≤ n → take (length s - at) (drop at s) ≡ take (1 + body_len (get_or s at 0)) (drop at s)
record_rest s at n e h = take_all (length s - at) (drop at s) (omega (arith, length-drop at s)) ∙ sym (take_all (1 + body_len (get_or s at 0)) (drop at s) (omega (arith, length-drop at s)))

-- ---- the loop

-- from byte `at` on is as much as from the start
pub record Going (x : Script) (bytes : List ℕ) (e₀ e : Engine) (at : ℕ) : Type 0 where
  pub within : at ≤ length bytes
  pub same : exec x (calls_from 0 at (drop at bytes)) (reads e) ≡ exec x (calls_in bytes) (reads e₀)

pub going_none : {x : Script} {bytes : List ℕ} {e : Engine} → Going x bytes e e 0
going_none = record { within = omega arith; same = refl }

pub going_more : {x : Script} {bytes : List ℕ} {e₀ e e' : Engine} {at : ℕ} {t : List ℕ} (d : read.Option Call) → Going x bytes e₀ e at → (h : at < length bytes)
    → (q : t ≡ take (1 + body_len (get_or bytes at 0)) (drop at bytes)) → as_call d ≡ decode t → Makes x (asked_at at (as_call d)) e e' → Going x bytes e₀ e' (at + length t)
unfolding exec
going_more {x} {bytes} {e₀} {e} {e'} {at} {t} d g h q a k = record {
  within = few_bytes bytes at h q;
  same = ap (exec x (calls_from 0 (at + length t) (drop (at + length t) bytes))) (k.ran.ran ∙ ap (λ (o : Option Call). exec x (asked_at at o) (reads e)) a) ∙ ap (λ (p : Plan). exec x p (reads e)) (sym (calls_cons bytes at h q)) ∙ g.same;
}

pub going_end : {x : Script} {bytes : List ℕ} {e₀ e : Engine} {at : ℕ} → Going x bytes e₀ e at → length bytes ≤ at → Makes x (calls_in bytes) e₀ e
unfolding exec
going_end {x} {bytes} {e₀} {e} {at} g h = record { ran = record { ran = ap (λ (p : Plan). exec x p (reads e)) (sym (calls_none bytes at at h)) ∙ g.same } }

-- ---- on a fresh engine

-- whatever the ring holds
pub starts_fresh : {s : code.State} → s ≡ encoded fresh → (w : Formatter) → w ≡ started_run s.now (Ok tt) → (q b : List ℕ) → reads (engine w q b) ≡ result (Ok tt) (opened b)
unfolding reads tab
starts_fresh es w er q b = rw (er, es)

module _ (src tree words table : List ℕ) {n : RecordNo} (d : Decoded tree words n.0 table) (room : length words ≡ 32768) {tb : List ℕ} (et : tb ≡ take (n.0 * 4) table) where
  pub tree_is : tree_of tb ≡ (script_at src tree).tree
  unfolding fitting room_of
  tree_is = rw et (d.reads ∙ rw room)

  pub replays : (bytes b : List ℕ) {s : code.State} → s ≡ encoded fresh → {w w' : Formatter} {q b' : List ℕ} {z : ℕ} → w ≡ started_run s.now (Ok tt) → Makes (script_of src tb) (calls_in bytes) (engine w s.queue b) (engine w' q b')
      → z ≡ reached_as w'.answer w'.len → Replayed src tree bytes b z b'
  unfolding reads
  replays bytes b {s} es {w} {w'} {q} {b'} er h ez =
      let e : reads (engine w' q b') ≡ replayed src tree bytes b = h.ran.ran ∙ rw (tree_is, starts_fresh es w er s.queue b) in
      record { number = ez ∙ ap (λ (y : Result). reached_as y.answer y.left.state.len) e; buffer = ap (λ (y : Result). y.left.buffer) e }
