-- What a number means where a type begins. In these words one function promises another; no outcome is written with
-- them.
use Rattle.std.specs.Prelude.{ℕ, ◌+◌, ◌-◌, cond, eqb, leb, Result, Ok, Err}
use Rattle.limits.specs.Codes as code
use Rattle.names.specs.Elementary.{is_name}
use Rattle.types.specs.declared.kind.CodeKind.{CodeKind}
use Rattle.types.specs.declared.kind.CodeKind.TheVariants.{Name, Array, Tuple}
use Rattle.types.specs.declared.kind.UnknownCode.{UnknownCode}

-- what a number says, or that no type begins with it
abbrev pub Kind : Type 0
Kind = Result CodeKind UnknownCode

-- "5 array (its element follows)", "16384 + n a tuple of n types that follow (n at least 2)", or a name
unfoldable pub kind_of : ℕ → Kind
kind_of c =
    cond (eqb c code.array) (Ok Array)
    (cond (leb (code.tuple + 2) c) (Ok (Tuple (c - code.tuple)))
    (cond (is_name c) (Ok Name) (Err (record { 0 = c }))))
