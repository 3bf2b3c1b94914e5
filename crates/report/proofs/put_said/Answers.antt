-- Answer by answer.
use Rattle.report.proofs.Reporting.{report_none, report_over, report_list}
use Rattle.report.proofs.put_said.Goals as goal

pub returns-in-Nothing-clause-reported : goal.returns-in-Nothing-clause-reported
returns-in-Nothing-clause-reported c = report_none _ _ _ _ _ _ c.in-Nothing.is c.put.ensures.stored

pub returns-in-Over-clause-reported : goal.returns-in-Over-clause-reported
returns-in-Over-clause-reported c = report_over _ _ _ _ _ _ c.in-Over.is c.put-in-Over.ensures.stored

pub returns-in-Granted-clause-reported : goal.returns-in-Granted-clause-reported
returns-in-Granted-clause-reported c = report_list _ _ _ _ _ _ _ c.in-Granted.is c.put_list.ensures.list_stored
