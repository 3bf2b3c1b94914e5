-- What is printed at the end: "a refused step or closing prints `refused N at S` (number, step from 1, 0 for closing)
-- and stops; else `none`, `over` or the list."
use Rattle.std.specs.Prelude.{ℕ, List}
use Rattle.names.specs.Ascii.{ascii}
use Rattle.types.specs.Tree.{AbiTypes}
use Rattle.trace.specs.Text.{refused_line, list_lines}
use Rattle.closing.specs.Answer.{Verdict, refused, none, over, granted}

unfoldable pub answer_text : Verdict → AbiTypes → List ℕ
answer_text (refused n) ts = refused_line n 0
answer_text none ts = ascii "none\n"
answer_text over ts = ascii "over\n"
answer_text (granted entries left head) ts = list_lines entries left head ts
