-- Refused.
use Rattle.report.proofs.Reporting.{report_refused}
use Rattle.report.proofs.put_answer.Goals as goal

pub returns-in-Err-clause-reported : goal.returns-in-Err-clause-reported
returns-in-Err-clause-reported c =
    report_refused _ _ _ _ _ _ _ _ c.in-Err.is c.from.ensures c.put_refused.ensures.stored
