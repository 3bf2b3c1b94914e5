-- Where a type ends in a list of codes: a reader from the left counts how many types are still wanted. In these words
-- one function promises another; no outcome is written with them. (`span_type`: it ends behind the last code of the
-- type; `entry_codes`: so that an entry's codes are those of its type.)
use Rattle.std.specs.Prelude.{ℕ, suc, ◌+◌, ◌-◌, cond, List, [], ◌∷◌, eqb, Ok, Err}
use Rattle.types.specs.declared.kind.CodeKind.TheVariants.{Name, Array, Tuple}
use Rattle.types.specs.Kind.{Kind, kind_of}

-- "5 array (its element follows), .. 16384 + n a tuple of n types that follow"
abbrev pub follow : Kind → ℕ
follow (Ok Name) = 0
follow (Ok Array) = 1
follow (Ok (Tuple n)) = n
follow (Err e) = 0

-- how many codes so many types have
unfoldable pub span : ℕ → List ℕ → ℕ
span wanted [] = 0
span wanted (c ∷ cs) = cond (eqb wanted 0) 0 (suc (span (wanted - 1 + follow (kind_of c)) cs))
