-- P1's two lines and a refusal's, as text.
use Rattle.std.specs.Prelude.{◌≡◌, refl}
use Rattle.names.specs.Ascii.{ascii}
use Rattle.names.specs.Decimal.{decimal_to, decimal}
use Rattle.names.specs.Elementary.{uint}
use Rattle.names.specs.Text.{name_text}
use Rattle.types.specs.Tree.{elementary, array, nil, cons}
use Rattle.types.specs.Text.{text}
use Rattle.trace.specs.Text.{args_line, refused_line, entry_line}

pub P1_args : args_line 1 8189 32 ≡ ascii "args 1 left 8189 head 32\n"
unfolding args_line decimal decimal_to
P1_args = refl

pub P1_entry : entry_line 0 (cons (array (elementary (uint 256))) nil) ≡ ascii "0 uint256[]\n"
unfolding entry_line decimal decimal_to text name_text
P1_entry = refl

pub refused_6 : refused_line 6 1 ≡ ascii "refused 6 at 1\n"
unfolding refused_line decimal decimal_to
refused_6 = refl
