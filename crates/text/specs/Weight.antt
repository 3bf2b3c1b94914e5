-- How many bytes of text each code adds, and what the count promises. In these words one function promises another; no
-- outcome is written with them.
use Rattle.std.specs.Prelude.{ℕ, ◌+◌, ◌-◌, ◌≡◌, List, cond, eqb, length, Option, Some, None, Ok, Err}
use Rattle.names.specs.Elementary.{of_code}
use Rattle.names.specs.Text.{name_text}
use Rattle.types.specs.declared.kind.CodeKind.TheVariants.{Name, Array, Tuple}
use Rattle.types.specs.Kind.{Kind, kind_of}
use Rattle.types.specs.Tree.{AbiTypes}
use Rattle.types.specs.Codes.{Spells}
use Rattle.types.specs.Text.{list_text}
use Rattle.text.specs.declared.count.Tally.{Tally}

-- a name its text, an array its brackets, a tuple its parentheses and a comma between two parts
abbrev pub own_by : Kind → ℕ → ℕ
own_by (Ok Name) c = length (name_text (of_code c))
own_by (Ok Array) c = 2
own_by (Ok (Tuple n)) c = n + 1
own_by (Err e) c = 0

unfoldable pub own : ℕ → ℕ
own c = own_by (kind_of c) c

-- a code where no type is wanted begins an entry, and a comma is counted before it; the first entry's too, which
-- `measure` takes off
abbrev pub comma_before : ℕ → ℕ
comma_before wanted = cond (eqb wanted 0) 1 0

-- one code counted: one type fewer is wanted (none stays none), and those that follow it more
abbrev pub tallied_by : Kind → ℕ → ℕ → ℕ → Option Tally
tallied_by (Ok Name) c wanted l =
    Some (record { wanted = wanted - 1; length = l + comma_before wanted + own_by (Ok Name) c })
tallied_by (Ok Array) c wanted l =
    Some (record { wanted = wanted - 1 + 1; length = l + comma_before wanted + own_by (Ok Array) c })
tallied_by (Ok (Tuple n)) c wanted l =
    Some (record { wanted = wanted - 1 + n; length = l + comma_before wanted + own_by (Ok (Tuple n)) c })
tallied_by (Err e) c wanted l = None

unfoldable pub tallied : ℕ → ℕ → ℕ → Option Tally
tallied c wanted l = tallied_by (kind_of c) c wanted l

-- what the measure of a list promises
abbrev pub MeasuredBy : List ℕ → Option ℕ → Type 0
MeasuredBy cs (Some n) = (ts : AbiTypes) × Spells ts cs × (n ≡ length (list_text ts))
MeasuredBy cs None = (ts : AbiTypes) → Spells ts cs → ⊥
