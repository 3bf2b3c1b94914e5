-- A jump whose target is pushed just before it: PUSH1 to PUSH4, its bytes, JUMPI.
use Rattle.std.specs.Prelude.{ℕ, ◌+◌, cond, List, Option, Some, None}
use Rattle.std.specs.Option.{option_and_then}
use Rattle.opcode.specs.Opcode.{JUMPI}
use Rattle.code.specs.declared.Jump.{Jump}
use Rattle.code.specs.Bytes.{is_at, push_size_at, number_at}

-- the jump whose push at the place has n bytes
abbrev pub jump_of : List ℕ → ℕ → ℕ → Option Jump
jump_of code at n =
    cond (is_at code (at + 1 + n) JUMPI)
    (Some (record { target = number_at code (at + 1) n; next = at + 2 + n }))
    None

unfoldable pub jump_at : List ℕ → ℕ → Option Jump
jump_at code at = option_and_then (jump_of code at) (push_size_at code at)
