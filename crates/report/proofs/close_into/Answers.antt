-- What is stored for the answer is the text of the outcome.
use Rattle.std.proofs.Common.{rules}
use Rattle.report.proofs.Reporting.{outcome_text}
use Rattle.report.proofs.close_into.Goals as goal

pub returns-clause-printed : goal.returns-clause-printed
returns-clause-printed c =
    let o = c.run_close-closed.ensures in
    record {
      verdict = _;
      outcome = o;
      stored =
          outcome_text _ _ _ _ _ _ _ _ _ o
          (λ ts rest h e n. let s = c.put_answer.ensures.reported ts rest h e n in search rules);
    }
