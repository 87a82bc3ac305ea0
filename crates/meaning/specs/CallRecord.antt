-- A call record read from its bytes: document 01's table, row by row, and refusal 12. Assumes nothing.
use Rattle.std.specs.Prelude.{ℕ, zero, suc, true, false, cond, List, [], ◌∷◌, map, length, eqb}
use Rattle.std.proofs.Math.Option.{Option, none, some}
use Rattle.tree.specs.declared.record.RecordNo.{RecordNo}
use Rattle.tree.specs.Records.{four}
use Rattle.meaning.specs.declared.call.Hint.{Hint}
use Rattle.meaning.specs.declared.call.Hint.TheVariants.{Line, Prefix, Suffix, Infix}
use Rattle.meaning.specs.declared.call.Literal.{Literal}
use Rattle.meaning.specs.declared.call.Literal.TheVariants.{Braces, Bars, Parens, OpenBrace, CloseBrace, Comma, Semicolon, Colon}
use Rattle.meaning.specs.declared.call.Call.{Call}
use Rattle.meaning.specs.declared.call.Call.TheVariants.{WriteOwned, WriteRaw, Ignore, Lit, Comments, Indent, Nl, Ws, FlushWhitespace, FlushPrefixComments, Finish}
use Rattle.meaning.specs.declared.answer.Refusal.TheVariants.{BadCall}
use Rattle.meaning.specs.Outcome.{Outcome, refused}

-- what stands behind the kind
pub data Body : Type 0 where
  -- a node number, four bytes, low first
  a_number : (RecordNo → Call) → Body
  -- one byte, which counts into the list
  listed : List Call → Body
  -- one byte of any value
  a_byte : (ℕ → Call) → Body
  nothing : Call → Body

abbrev pub literals : List Literal
literals = Braces ∷ Bars ∷ Parens ∷ OpenBrace ∷ CloseBrace ∷ Comma ∷ Semicolon ∷ Colon ∷ []

abbrev pub hints : List Hint
hints = Line ∷ Prefix ∷ Suffix ∷ Infix ∷ []

-- kinds 01 to 0B
abbrev pub body_forms : List Body
body_forms =
    a_number WriteOwned
    ∷ a_number WriteRaw
    ∷ a_number Ignore
    ∷ listed (map Lit literals)
    ∷ listed (map Comments hints)
    ∷ a_byte Indent
    ∷ a_byte Nl
    ∷ nothing Ws
    ∷ listed (FlushWhitespace false ∷ FlushWhitespace true ∷ [])
    ∷ nothing FlushPrefixComments
    ∷ nothing Finish
    ∷ []

abbrev pub at : {A : Type 0} → List A → ℕ → Option A
at [] n = none
at (a ∷ as') zero = some a
at (a ∷ as') (suc n) = at as' n

-- the body whole, with nothing behind it
abbrev pub read_body : Body → List ℕ → Option Call
read_body (a_number f) bs = cond (eqb (length bs) 4) (some (f (record { 0 = four bs }))) none
read_body (listed cs) [] = none
read_body (listed cs) (b ∷ []) = at cs b
read_body (listed cs) (b ∷ c ∷ bs) = none
read_body (a_byte f) [] = none
read_body (a_byte f) (b ∷ []) = some (f b)
read_body (a_byte f) (b ∷ c ∷ bs) = none
read_body (nothing c) [] = some c
read_body (nothing c) (b ∷ bs) = none

abbrev pub read_as : Option Body → List ℕ → Option Call
read_as none bs = none
read_as (some body) bs = read_body body bs

abbrev pub of_kind : ℕ → Option Body
of_kind zero = none
of_kind (suc k) = at body_forms k

-- none: unknown, cut, with bytes behind it, or with a body value that is not listed
unfoldable pub decode : List ℕ → Option Call
decode [] = none
decode (kind ∷ bs) = read_as (of_kind kind) bs

-- refusal 12, where the record's first byte has place p; else the call, by the steps that a call takes
abbrev pub asked : ℕ → Option Call → (Call → Outcome) → Outcome
asked p none steps = refused (BadCall p)
asked p (some c) steps = steps c
