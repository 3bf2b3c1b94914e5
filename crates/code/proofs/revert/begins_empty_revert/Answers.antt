-- `code::revert::begins_empty_revert`: one of the six.
use Rattle.std.proofs.Common.{◌∙◌}
use Rattle.code.specs.Revert.{empty_reverts}
use Rattle.code.proofs.Reverts.{any_begins}
use Rattle.code.proofs.revert.begins_empty_revert.Goals as goal

pub returns : goal.returns
unfolding empty_reverts
returns c = c.begins_any.ensures ∙ any_begins empty_reverts c.args.part.now
