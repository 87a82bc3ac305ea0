-- Worked cases of the reason, as one table. Assumes nothing.
use Rattle.std.specs.Prelude.{ℕ, ◌+◌, true, List, [], ◌∷◌, ◌++◌, map, length, replicate}
use Rattle.tree.specs.declared.record.Record.{Record}
use Rattle.tree.specs.Records.{span_of}
use Rattle.meaning.specs.State.{Script}
use Rattle.meaning.specs.Numbers.{Seen, ◌from◌}
use Rattle.reasons.specs.Why.{why_at}
use Rattle.reasons.specs.Numbers.{why_seen}

-- ---- a node from its parts

-- a direct child of the node: its kind, its text, and the kinds of records below it
pub record Part : Type 0 where
  pub kind : ℕ
  pub text : List ℕ
  pub inner : List ℕ

abbrev pub leaf : ℕ → List ℕ → Part
leaf kind text = record { kind = kind; text = text; inner = [] }

abbrev record_from : ℕ → ℕ → ℕ → ℕ → Record
record_from kind start end below = record { whole = true; kind = kind; span = span_of start end; below = below }

unfoldable pub text_of : List Part → List ℕ
text_of [] = []
text_of (p ∷ ps) = p.text ++ text_of ps

unfoldable pub records_from : ℕ → List Part → List Record
records_from start [] = []
records_from start (p ∷ ps) =
    let end = start + length p.text in
    record_from p.kind start end (length p.inner) ∷ map (λ (kind : ℕ). record_from kind start end 0) p.inner ++ records_from end ps

-- two letters stand in front: the node is record 1, its first child record 2, and its first byte has place 2
unfoldable pub script : ℕ → List Part → Script
script kind ps = let rs = records_from 2 ps in record {
  source = 0x61 ∷ 0x61 ∷ text_of ps;
  tree = record_from 0x03 0 2 0 ∷ record_from kind 2 (2 + length (text_of ps)) (length rs) ∷ rs;
}

pub record Case : Type 0 where
  pub kind : ℕ
  pub parts : List Part
  pub expected : Seen

-- the number and the place that are to be told of it
abbrev pub case : ℕ → List Part → ℕ → ℕ → Case
case kind parts number place = record { kind = kind; parts = parts; expected = number from place }

abbrev pub told : Case → Seen
told c = why_seen (why_at (script c.kind c.parts) (record { 0 = 1 }))

-- ---- parts, each of one character where nothing else is said

abbrev call : ℕ
call = 0xE6

abbrev array : ℕ
array = 0xC3

abbrev object : ℕ
object = 0xC5

abbrev letters : ℕ → List ℕ
letters n = replicate n 0x61

-- tokens: ( ) [ ] { } , #, and a path
abbrev paren : Part
paren = leaf 0x10 (0x28 ∷ [])

abbrev paren_end : Part
paren_end = leaf 0x11 (0x29 ∷ [])

abbrev bracket : Part
bracket = leaf 0x14 (0x5B ∷ [])

abbrev bracket_end : Part
bracket_end = leaf 0x15 (0x5D ∷ [])

abbrev brace : Part
brace = leaf 0x12 (0x7B ∷ [])

abbrev brace_end : Part
brace_end = leaf 0x13 (0x7D ∷ [])

abbrev comma : Part
comma = leaf 0x18 (0x2C ∷ [])

abbrev pound : Part
pound = leaf 0x09 (0x23 ∷ [])

abbrev path : Part
path = leaf 0xB0 (0x61 ∷ [])

-- an entry: an Expr of so many letters, of these bytes, of either kind; one with a line comment below it; a key
abbrev wide : ℕ → Part
wide n = leaf 0x96 (letters n)

abbrev word : List ℕ → Part
word text = leaf 0x96 text

abbrev entry : Part
entry = wide 1

abbrev entry_semi : Part
entry_semi = leaf 0x97 (0x61 ∷ [])

abbrev deep : Part
deep = record { kind = 0x96; text = 0x61 ∷ []; inner = 0x01 ∷ [] }

abbrev key : Part
key = leaf 0x08 (0x61 ∷ [])

-- // and /**/, and white space
abbrev note : Part
note = leaf 0x01 (0x2F ∷ 0x2F ∷ [])

abbrev block : Part
block = leaf 0x02 (0x2F ∷ 0x2A ∷ 0x2A ∷ 0x2F ∷ [])

abbrev blank : List ℕ → Part
blank text = leaf 0x00 text

-- two bytes, U+00E9
abbrev accent : List ℕ
accent = 0xC3 ∷ 0xA9 ∷ []

-- all 25 characters of White_Space, in 61 bytes
abbrev whites : List ℕ
whites =
    0x09 ∷ 0x0A ∷ 0x0B ∷ 0x0C ∷ 0x0D ∷ 0x20 ∷ 0xC2 ∷ 0x85 ∷ 0xC2 ∷ 0xA0 ∷ 0xE1 ∷ 0x9A ∷ 0x80
    ∷ 0xE2 ∷ 0x80 ∷ 0x80 ∷ 0xE2 ∷ 0x80 ∷ 0x81 ∷ 0xE2 ∷ 0x80 ∷ 0x82 ∷ 0xE2 ∷ 0x80 ∷ 0x83 ∷ 0xE2 ∷ 0x80 ∷ 0x84 ∷ 0xE2 ∷ 0x80 ∷ 0x85
    ∷ 0xE2 ∷ 0x80 ∷ 0x86 ∷ 0xE2 ∷ 0x80 ∷ 0x87 ∷ 0xE2 ∷ 0x80 ∷ 0x88 ∷ 0xE2 ∷ 0x80 ∷ 0x89 ∷ 0xE2 ∷ 0x80 ∷ 0x8A
    ∷ 0xE2 ∷ 0x80 ∷ 0xA8 ∷ 0xE2 ∷ 0x80 ∷ 0xA9 ∷ 0xE2 ∷ 0x80 ∷ 0xAF ∷ 0xE2 ∷ 0x81 ∷ 0x9F ∷ 0xE3 ∷ 0x80 ∷ 0x80 ∷ []

abbrev five : List Part
five = entry ∷ entry ∷ entry ∷ entry ∷ entry ∷ []

abbrev keys : List Part
keys = key ∷ key ∷ key ∷ key ∷ key ∷ []

-- ---- the table: 101 too wide, 102 a line comment, 103 a sixth entry, 0 none; 8 and 9 refusals

unfoldable pub reasons : List Case
reasons =
    -- 80 characters, and 81: the last one is the closing token
    case call (paren ∷ wide 78 ∷ paren_end ∷ []) 0 0
    ∷ case call (paren ∷ wide 79 ∷ paren_end ∷ []) 101 82
    -- a line comment; one behind the closing token; a block comment; one deep below
    ∷ case array (bracket ∷ entry ∷ note ∷ bracket_end ∷ []) 102 4
    ∷ case call (paren ∷ entry ∷ paren_end ∷ note ∷ []) 102 5
    ∷ case array (bracket ∷ entry ∷ block ∷ bracket_end ∷ []) 0 0
    ∷ case array (bracket ∷ deep ∷ bracket_end ∷ []) 0 0
    -- five entries, and six: of either kind, with commas or without
    ∷ case array (bracket ∷ (five ++ bracket_end ∷ [])) 0 0
    ∷ case array (bracket ∷ (five ++ entry ∷ bracket_end ∷ [])) 103 8
    ∷ case call (paren ∷ (five ++ comma ∷ entry_semi ∷ entry ∷ paren_end ∷ [])) 103 9
    -- records below an entry are passed over
    ∷ case call (paren ∷ deep ∷ (five ++ paren_end ∷ [])) 103 9
    ∷ []

unfoldable pub pairs : List Case
pairs =
    -- a comment and a sixth entry: whichever comes first
    case array (bracket ∷ note ∷ (five ++ entry ∷ bracket_end ∷ [])) 102 3
    ∷ case array (bracket ∷ (five ++ note ∷ entry ∷ bracket_end ∷ [])) 102 8
    ∷ case array (bracket ∷ (five ++ entry ∷ note ∷ bracket_end ∷ [])) 103 8
    -- width and a comment, width and a sixth entry: width, wherever the other stands
    ∷ case call (paren ∷ note ∷ wide 79 ∷ paren_end ∷ []) 101 82
    ∷ case call (paren ∷ wide 79 ∷ note ∷ paren_end ∷ []) 101 82
    ∷ case call (paren ∷ (five ++ entry ∷ wide 79 ∷ paren_end ∷ [])) 101 82
    ∷ case call (paren ∷ wide 79 ∷ (five ++ paren_end ∷ [])) 101 82
    -- all three
    ∷ case call (paren ∷ note ∷ (five ++ entry ∷ wide 79 ∷ paren_end ∷ [])) 101 82
    ∷ []

unfoldable pub places : List Case
places =
    -- the 81st is a character of two bytes; characters of two bytes stand before it; both
    case call (paren ∷ wide 79 ∷ word accent ∷ paren_end ∷ []) 101 82
    ∷ case call (paren ∷ word accent ∷ wide 78 ∷ paren_end ∷ []) 101 83
    ∷ case call (paren ∷ word (accent ++ accent) ∷ wide 77 ∷ word accent ∷ paren_end ∷ []) 101 84
    -- white space of every sort before the 81st, at the start, right before it, and not enough without it
    ∷ case call (blank whites ∷ paren ∷ wide 79 ∷ paren_end ∷ []) 101 143
    ∷ case call (paren ∷ wide 79 ∷ blank whites ∷ paren_end ∷ []) 101 143
    ∷ case call (paren ∷ blank whites ∷ wide 78 ∷ blank whites ∷ paren_end ∷ []) 0 0
    ∷ []

unfoldable pub objects : List Case
objects =
    -- five keys, and six; entries that are no keys
    case object (pound ∷ brace ∷ (keys ++ brace_end ∷ [])) 0 0
    ∷ case object (pound ∷ brace ∷ (keys ++ key ∷ brace_end ∷ [])) 103 9
    ∷ case object (path ∷ brace ∷ (five ++ entry ∷ brace_end ∷ [])) 0 0
    ∷ case call (paren ∷ (keys ++ key ∷ paren_end ∷ [])) 0 0
    -- a line comment before the name, and behind it
    ∷ case object (note ∷ path ∷ brace ∷ key ∷ brace_end ∷ []) 0 0
    ∷ case object (path ∷ note ∷ brace ∷ key ∷ brace_end ∷ []) 102 3
    ∷ case object (note ∷ path ∷ brace ∷ (keys ++ key ∷ note ∷ brace_end ∷ [])) 103 10
    -- what stands before the name counts for the width all the same
    ∷ case object (note ∷ path ∷ brace ∷ wide 76 ∷ brace_end ∷ []) 101 82
    -- no name: another kind, none but comments, nothing at all
    ∷ case object (blank (0x20 ∷ []) ∷ brace ∷ key ∷ brace_end ∷ []) 8 3
    ∷ case object (note ∷ []) 8 1
    ∷ case object [] 8 1
    -- no list: a tuple, a leaf
    ∷ case 0xC4 (paren ∷ (five ++ entry ∷ paren_end ∷ [])) 9 1
    ∷ case 0x08 [] 9 1
    ∷ []
