use Rattle.std.proofs.Common.{◌∙◌}
use Rattle.paths.specs.Make.{make_seen, get_or_create}
use Rattle.paths.proofs.lent.FactsMut.get_or_create_after.Goals as goal

pub returns : goal.returns
unfolding get_or_create
returns c =
    let E = c.ensure_after-number.ensures in
    let S = c.make_seen.ensures in
    record {
      state = S.state ∙ (λ i. make_seen (E.state i) (E.number i));
      number = E.number;
      range = rw S.used E.range;
      same = record { records = S.same.records ∙ E.same.records; reference = S.same.reference ∙ E.same.reference };
    }
