use Rattle.ruled_dispatch.proofs.JobSteps as jobs
use Rattle.ruled_dispatch.proofs.ReportSteps as reports
use Rattle.ruled_dispatch.proofs.passes.worker_pass.Goals as goal

pub another-jobs-requires-clause-rule : goal.another-jobs-requires-clause-rule
another-jobs-requires-clause-rule c = jobs.splits _ _ c.requires.part

pub another-reports-requires-clause-rule : goal.another-reports-requires-clause-rule
another-reports-requires-clause-rule c = reports.splits _ _ c.requires.hears
