-- The numbers of an operand or a slot, as tests make them; no outcome is written with them.
use Rattle.std.specs.Prelude.{ℕ, List, ◌++◌}
use Rattle.word.specs.Numbers.{numbers_of}
use Rattle.labels.specs.declared.Element.{Element}
use Rattle.labels.specs.Label.{label_numbers}

abbrev pub element_numbers : Element → List ℕ
element_numbers e = numbers_of e.word ++ label_numbers e.label
