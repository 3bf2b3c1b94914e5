use Rattle.std.proofs.Common.{sym, ◌∙◌}
use Rattle.closing.proofs.WordLaws.{met_used}
use Rattle.closing.proofs.words.head_words.Goals as goal

pub is_bare_array-requires : goal.is_bare_array-requires
is_bare_array-requires c = met_used _ _ _ (sym c.in-One.is ∙ c.dynamic_args.ensures)
