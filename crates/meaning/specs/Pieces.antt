-- What a call writes, piece by piece: white space, a text, a comment. Assumes nothing.
use Rattle.std.specs.Prelude.{ℕ, ◌+◌, ◌*◌, min, List, [], ◌∷◌, ◌++◌, length, replicate}
use Rattle.meaning.specs.State.{Comment, State, with_len}

-- document 01's INDENT, NL and WS: the unit of indentation is four spaces
abbrev pub unit : ℕ
unit = 4

abbrev pub newline : ℕ
newline = 0x0A

abbrev pub space : ℕ
space = 0x20

-- min(n, 2) newlines and the indent of the line behind them
unfoldable pub breaks : ℕ → ℕ → List ℕ
breaks indent n = replicate (min n 2) newline ++ replicate (indent * unit) space

pub data Piece : Type 0 where
  -- white space that the engine adds
  gap : List ℕ → Piece
  -- the text of a node or a literal
  text : List ℕ → Piece
  -- a comment let out, and the bytes that are written of it
  comment : Comment → List ℕ → Piece

abbrev pub bytes_of : Piece → List ℕ
bytes_of (gap bs) = bs
bytes_of (text bs) = bs
bytes_of (comment c bs) = bs

abbrev pub flat : List Piece → List ℕ
flat [] = []
flat (p ∷ ps) = bytes_of p ++ flat ps

-- a state, and what was written on the way to it
pub record Emit : Type 0 where
  pub state : State
  pub out : List Piece

-- the pieces written from the state s on
abbrev pub emit : State → List Piece → Emit
emit s ps = record { state = with_len s (s.len + length (flat ps)); out = ps }
