-- The canonical text of a type: "tuples as (a,b), arrays as T[]; a list's entries are joined by commas without blanks".
use Rattle.std.specs.Prelude.{ℕ, List, [], ◌++◌}
use Rattle.names.specs.Ascii.{ascii}
use Rattle.names.specs.Text.{name_text}
use Rattle.types.specs.Tree.{AbiType, AbiTypes, elementary, array, tuple, nil, cons}

unfoldable mutual
  pub text : AbiType → List ℕ
  text (elementary e) = name_text e
  text (array t) = text t ++ ascii "[]"
  text (tuple ts) = ascii "(" ++ list_text ts ++ ascii ")"

  -- the entries, joined by commas
  pub list_text : AbiTypes → List ℕ
  list_text nil = []
  list_text (cons t ts) = text t ++ more_text ts

  -- each entry with a comma before it
  pub more_text : AbiTypes → List ℕ
  more_text nil = []
  more_text (cons t ts) = ascii "," ++ text t ++ more_text ts
