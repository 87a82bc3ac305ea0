-- What opening finds of a source. Assumes nothing.
use Rattle.std.specs.Prelude.{ℕ, cond, List, length, ltb, ⊤, Result, Ok, Err}
use Rattle.text.specs.declared.source.Unfit.{Unfit}
use Rattle.text.specs.declared.source.Unfit.TheVariants.{Long, Ill}
use Rattle.encoding.specs.Utf8.{Formed}
use Rattle.encoding.specs.Utf8 as utf8

-- a good source, or why it is refused
abbrev pub Checked : Type 0
Checked = Result ⊤ Unfit

abbrev pub Good : Checked
Good = Ok tt

abbrev pub of_formed : Formed → Checked
of_formed (Ok u) = Good
of_formed (Err e) = Err (Ill (record { 0 = e.at }))

-- over 65,536 bytes, ill-formed, or good
unfoldable pub checked : List ℕ → Checked
checked s = cond (ltb 65536 (length s)) (Err Long) (of_formed (utf8.formed s))

-- document 01's number of the refusal, 0 where there is none, and its place
abbrev pub number_of : Checked → ℕ
number_of (Ok u) = 0
number_of (Err Long) = 1
number_of (Err (Ill p)) = 2

abbrev pub place_of : Checked → ℕ
place_of (Ok u) = 0
place_of (Err Long) = 65536
place_of (Err (Ill p)) = p.0
