-- The text as it is written, from the codes, left to right. In these words one function promises another; no outcome is
-- written with them. (`emit_is_text`: it is the text.) A stack `st` holds what is open, the innermost first: 0 for an
-- array, for a tuple the number of its parts that are not written yet, the present one among them.
use Rattle.std.specs.Prelude.{ℕ, ◌-◌, Bool, true, false, cond, List, [], ◌∷◌, ◌++◌, eqb, leb, reverse, Ok, Err}
use Rattle.names.specs.Ascii.{ascii}
use Rattle.names.specs.Elementary.{of_code}
use Rattle.names.specs.Text.{name_text}
use Rattle.types.specs.declared.kind.CodeKind.TheVariants.{Name, Array, Tuple}
use Rattle.types.specs.Kind.{Kind, kind_of}

-- what closes an array, and a tuple after its last part
abbrev pub closer : ℕ → List ℕ
closer k = cond (eqb k 0) (ascii "[]") (ascii ")")

-- a type is written: what closes behind it
unfoldable pub closers : List ℕ → List ℕ
closers [] = []
closers (k ∷ st) = cond (leb k 1) (closer k ++ closers st) []

-- and what is open then
unfoldable pub still_open : List ℕ → List ℕ
still_open [] = []
still_open (k ∷ st) = cond (leb k 1) (still_open st) ((k - 1) ∷ st)

-- a comma stands between a type and the next, and none behind the last code
abbrev pub separator : Bool → List ℕ
separator true = []
separator false = ascii ","

-- what one code writes, and what is open behind it
abbrev pub piece_by : Kind → List ℕ → ℕ → Bool → List ℕ
piece_by (Ok Name) st c last = name_text (of_code c) ++ closers st ++ separator last
piece_by (Ok Array) st c last = []
piece_by (Ok (Tuple n)) st c last = ascii "("
piece_by (Err e) st c last = []

abbrev pub open_by : Kind → List ℕ → List ℕ
open_by (Ok Name) st = still_open st
open_by (Ok Array) st = 0 ∷ st
open_by (Ok (Tuple n)) st = n ∷ st
open_by (Err e) st = st

abbrev pub none_left : List ℕ → Bool
none_left [] = true
none_left (c ∷ cs) = false

unfoldable pub emit : List ℕ → List ℕ → List ℕ
emit st [] = []
emit st (c ∷ cs) = piece_by (kind_of c) st c (none_left cs) ++ emit (open_by (kind_of c) st) cs

-- the stack that a vector holds, its last number on top
unfoldable pub stack_of : List ℕ → List ℕ
stack_of held = reverse held
