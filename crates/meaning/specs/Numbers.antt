-- Numbers an operator sees: of each refusal its number and the place returned. Assumes nothing.
use Rattle.std.specs.Prelude.{◌≡◌, ℕ, zero, suc, ◌%◌, List, [], ◌∷◌, ◌++◌, get_or, codes, decimal, Ok, Err}
use Rattle.meaning.specs.declared.answer.Refusal.{Refusal}
use Rattle.meaning.specs.declared.answer.Refusal.TheVariants.{SourceLong, SourceIll, TreeBad, NoRoom, QueueFull, IndentOut, TreeDeep, WrongKind, NoRule, Finished, NoNode, BadCall}
use Rattle.meaning.specs.Answer.{Answer}

pub record Seen : Type 0 where
  pub number : ℕ
  pub place : ℕ

abbrev pub ◌from◌ : ℕ → ℕ → Seen
n from p = record { number = n; place = p }

infix 40 ◌from◌
abbrev pub refusal_seen : Refusal → Seen
refusal_seen SourceLong = 1 from 65536
refusal_seen (SourceIll p) = 2 from p.0
refusal_seen (TreeBad i) = 3 from i.0
refusal_seen (NoRoom len) = 4 from len
refusal_seen (QueueFull i) = 5 from i.0
refusal_seen (IndentOut indent) = 6 from indent
refusal_seen (TreeDeep i) = 7 from i.0
refusal_seen (WrongKind i) = 8 from i.0
refusal_seen (NoRule i) = 9 from i.0
refusal_seen (Finished len) = 10 from len
refusal_seen (NoNode k) = 11 from k.0
refusal_seen (BadCall p) = 12 from p

-- a refusal as it is printed
abbrev pub refusal_text : Refusal → List ℕ
refusal_text r = codes "refusal " ++ (decimal (refusal_seen r).number ++ (codes ", place " ++ decimal (refusal_seen r).place))

-- 0 and 0 where nothing is refused
abbrev pub seen : Answer → Seen
seen (Ok tt) = 0 from 0
seen (Err r) = refusal_seen r

-- ---- read back

-- the twelve refusals at place p, in the order of their numbers; k is the place as a byte of the source or a record
abbrev pub refusals_at : ℕ → ℕ → List Refusal
refusals_at p k =
    SourceLong ∷ SourceIll (record { 0 = k }) ∷ TreeBad (record { 0 = k }) ∷ NoRoom p ∷ QueueFull (record { 0 = k }) ∷ IndentOut k
    ∷ TreeDeep (record { 0 = k }) ∷ WrongKind (record { 0 = k }) ∷ NoRule (record { 0 = k }) ∷ Finished p ∷ NoNode (record { 0 = k }) ∷ BadCall p ∷ []

-- the answer of a number and a place
abbrev pub answer_by : ℕ → ℕ → Answer
answer_by zero p = Ok tt
answer_by (suc n) p = Err (get_or (refusals_at p (p % 0x1_0000_0000)) n (BadCall p))

-- p is the place of the answer, and with its number it tells the answer again
pub record Placed (a : Answer) (p : ℕ) : Type 0 where
  pub is : p ≡ (seen a).place
  pub back : answer_by (seen a).number p ≡ a
