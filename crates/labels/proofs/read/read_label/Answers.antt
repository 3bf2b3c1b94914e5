-- `labels::read::read_label`: the label there, whose numbers are those that stand there.
use Rattle.std.proofs.Common.{rules}
use Rattle.labels.proofs.Readings.{arg_read, zero_read, data_read, none_read}
use Rattle.labels.proofs.Kept.{read_as}
use Rattle.labels.proofs.read.read_label.Goals as goal

pub returns-then-kind-eq-LABEL_ARGUMENT : goal.returns-then-kind-eq-LABEL_ARGUMENT
returns-then-kind-eq-LABEL_ARGUMENT c = search (read_as, arg_read, rules)

pub returns-then-kind-eq-LABEL_ZERO_TEST : goal.returns-then-kind-eq-LABEL_ZERO_TEST
returns-then-kind-eq-LABEL_ZERO_TEST c = search (read_as, zero_read, rules)

pub returns-then-kind-eq-LABEL_CALL_DATA : goal.returns-then-kind-eq-LABEL_CALL_DATA
returns-then-kind-eq-LABEL_CALL_DATA c = search (read_as, data_read, rules)

pub returns : goal.returns
returns c = search (read_as, none_read, rules)
