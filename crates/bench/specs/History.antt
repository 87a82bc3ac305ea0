-- A list of call records end to end, as the plan of its calls in order, executed on a fresh engine. Assumes nothing.
use Rattle.std.specs.Prelude.{◌≡◌, ℕ, zero, suc, cond, ◌&&◌, ◌||◌, List, [], ◌∷◌, take, eqb, leb, Ok}
use Rattle.std.proofs.Math.Option.{Option, none, some}
use Rattle.tree.specs.Records.{records}
use Rattle.meaning.specs.declared.call.Call.{Call}
use Rattle.meaning.specs.declared.answer.Refusal.TheVariants.{BadCall}
use Rattle.meaning.specs.State.{Script}
use Rattle.meaning.specs.CallRecord.{decode}
use Rattle.meaning.specs.World.{opened, Result, result}
use Rattle.meaning.specs.Plan.{Plan, nothing, make, refuse, ◌then◌, exec}
use Rattle.bench.specs.Packed.{reached_as}

-- how many bytes stand behind the byte of kind: document 01's table; none behind an unknown kind
unfoldable pub body_len : ℕ → ℕ
body_len k = cond (leb 0x01 k && leb k 0x03) 4 (cond ((leb 0x04 k && leb k 0x07) || eqb k 0x09) 1 0)

-- the call of a decoded record, or refusal 12 at the record's place
abbrev pub asked_at : ℕ → Option Call → Plan
asked_at p none = refuse (BadCall p)
asked_at p (some c) = make c

-- p is the place of the first of the bytes, and the next k bytes belong to the record before
unfoldable pub calls_from : ℕ → ℕ → List ℕ → Plan
calls_from k p [] = nothing
calls_from (suc k) p (b ∷ bs) = calls_from k (suc p) bs
calls_from zero p (b ∷ bs) = asked_at p (decode (take (suc (body_len b)) (b ∷ bs))) then calls_from (body_len b) (suc p) bs

abbrev pub calls_in : List ℕ → Plan
calls_in bs = calls_from 0 0 bs

-- a tree as a table has it: no record past the 8,192nd
abbrev pub script_at : List ℕ → List ℕ → Script
script_at src tree = record { source = src; tree = take 8192 (records tree) }

-- the list's calls from a fresh engine on, over the buffer b
abbrev pub replayed : List ℕ → List ℕ → List ℕ → List ℕ → Result
replayed src tree bytes b = exec (script_at src tree) (calls_in bytes) (result (Ok tt) (opened b))

-- the number that comes back and the whole buffer are those of the plan
pub record Replayed (src tree bytes b : List ℕ) (n : ℕ) (b' : List ℕ) : Type 0 where
  pub number : n ≡ reached_as (replayed src tree bytes b).answer (replayed src tree bytes b).left.state.len
  pub buffer : b' ≡ (replayed src tree bytes b).left.buffer
