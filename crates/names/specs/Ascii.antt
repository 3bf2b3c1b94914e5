-- The bytes of a text. All texts here are ASCII, so that a character's code is its byte.
use Rattle.std.specs.Prelude.{ℕ, List, [], ◌∷◌}
use Prim.Native.Char.{code}
use Prim.Native.String.{String, [] as []ᵀ, ◌∷◌ as ◌∷ᵀ◌}

abbrev pub ascii : String → List ℕ
ascii []ᵀ = []
ascii (c ∷ᵀ s) = code c ∷ ascii s
