-- "a refused step or closing prints `refused N at S` (number, step from 1, 0 for closing)"; "`args 1 left 8189 head 32`
-- and `0 uint256[]` (word number, type)". Each line ends with a newline.
use Rattle.std.specs.Prelude.{ℕ, suc, List, [], ◌++◌}
use Rattle.names.specs.Ascii.{ascii}
use Rattle.names.specs.Decimal.{decimal}
use Rattle.types.specs.Tree.{AbiTypes, nil, cons}
use Rattle.types.specs.Text.{list_text}

unfoldable pub refused_line : ℕ → ℕ → List ℕ
refused_line number step = (ascii "refused " ++ decimal number) ++ (ascii " at " ++ decimal step) ++ ascii "\n"

unfoldable pub args_line : ℕ → ℕ → ℕ → List ℕ
args_line entries left head =
    (ascii "args " ++ decimal entries) ++ (ascii " left " ++ decimal left)
    ++ (ascii " head " ++ decimal head) ++ ascii "\n"

-- an entry's number and the text of its types, of which there is one
unfoldable pub entry_line : ℕ → AbiTypes → List ℕ
entry_line k ts = decimal k ++ ascii " " ++ list_text ts ++ ascii "\n"

-- the lines of the entries from the k-th on
unfoldable pub entry_lines : ℕ → AbiTypes → List ℕ
entry_lines k nil = []
entry_lines k (cons t ts) = entry_line k (cons t nil) ++ entry_lines (suc k) ts

-- the list
unfoldable pub list_lines : ℕ → ℕ → ℕ → AbiTypes → List ℕ
list_lines entries left head ts = args_line entries left head ++ entry_lines 0 ts
