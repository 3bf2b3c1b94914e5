-- The version of these functions, which is ours: a header and a library are of this archive if they have this number.
-- It goes up with every change of a declaration, of a width or of what a number means.
use Rattle.std.specs.Prelude.{ℕ}

abbrev pub version : ℕ
version = 1
