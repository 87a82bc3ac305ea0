-- A release as the code goes about it: one way for both kinds, and what is written at the output's length. Assumes nothing.
use Rattle.std.specs.Prelude.{◌≡◌, ℕ, zero, suc, ◌+◌, Bool, true, false, cond, Option, None, Some, List, [], ◌∷◌, ◌++◌, length, ltb, eqb}
use Rattle.meaning.specs.declared.call.Hint.{Hint}
use Rattle.meaning.specs.declared.call.Hint.TheVariants.{Line, Prefix, Suffix, Infix}
use Rattle.meaning.specs.State.{Comment, State}
use Rattle.meaning.specs.Pieces.{space, Emit}
use Rattle.meaning.specs.Release.{take_until, comment_text, stop_line, stop_space, line_gap, trimmed, line_release, space_gap, space_release}
use Rattle.queue.specs.declared.release.Way.{Way}
use Rattle.queue.specs.declared.release.Way.TheVariants.{Lines, Spaces}
use Rattle.queue.specs.declared.release.Fit.{Fit}

-- ---- the two releases

abbrev pub release_of : List ℕ → Way → State → Emit
release_of src (Lines sameLine) s = line_release src sameLine s
release_of src (Spaces front back) s = space_release src front back s

abbrev pub way_of : Hint → Way
way_of Line = Lines false
way_of Prefix = Spaces false true
way_of Suffix = Spaces true false
way_of Infix = Spaces false false

-- ---- where it stops, and what it writes of a comment

abbrev pub stop_of : Way → Comment → Bool
stop_of (Lines sameLine) c = stop_line sameLine c
stop_of (Spaces front back) c = stop_space c

abbrev pub front_of : Way → Bool
front_of (Lines sameLine) = false
front_of (Spaces front back) = front

abbrev pub gap_of : Way → ℕ → Bool → Bool → ℕ → List ℕ
gap_of (Lines sameLine) indent front empty before = line_gap indent empty before
gap_of (Spaces first back) indent front empty before = space_gap front empty

abbrev pub letters_of : List ℕ → Way → Comment → List ℕ
letters_of src (Lines sameLine) c = trimmed src c
letters_of src (Spaces front back) c = comment_text src c

-- behind n comments
abbrev pub back_of : Way → ℕ → List ℕ
back_of w zero = []
back_of (Lines sameLine) (suc n) = []
back_of (Spaces front back) (suc n) = cond back (space ∷ []) []

-- ---- all comments that go, from an output of `len` bytes on

abbrev pub bytes_on : List ℕ → Way → ℕ → Bool → ℕ → Comment → List ℕ
bytes_on src w indent front len c = gap_of w indent front (eqb len 0) c.before ++ letters_of src w c

unfoldable pub bytes_from : List ℕ → Way → ℕ → Bool → ℕ → List Comment → List ℕ
bytes_from src w indent front len [] = []
bytes_from src w indent front len (c ∷ cs) =
    bytes_on src w indent front len c ++ bytes_from src w indent true (len + length (bytes_on src w indent front len c)) cs

unfoldable pub going : Way → List Comment → List Comment
going w cs = take_until (stop_of w) cs

-- the output's length behind them
abbrev pub reach : List ℕ → Way → ℕ → Bool → ℕ → List Comment → ℕ
reach src w indent front len cs = len + length (bytes_from src w indent front len cs)

-- all that is written
abbrev pub written : List ℕ → Way → State → List ℕ
written src w s =
    let cs = going w s.queue in
    bytes_from src w s.indent (front_of w) s.len cs ++ back_of w (length cs)

-- what the first pass finds
abbrev pub fit_of : List ℕ → Way → ℕ → ℕ → ℕ → List Comment → Option Fit
fit_of src w indent len cap cs =
    let to = reach src w indent (front_of w) len (going w cs) in
    cond (ltb cap to) None (Some (record { count = length (going w cs); len = to }))

pub record Measured (src : List ℕ) (w : Way) (indent len cap : ℕ) (cs : List Comment) (r : Option Fit) : Type 0 where
  pub out : r ≡ fit_of src w indent len cap cs
