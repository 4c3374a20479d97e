use Rattle.answer_lines.specs.Jobs.{job_line}
use Rattle.answer_lines.proofs.AppendLemmas.{appends_more}
use Rattle.answer_lines.proofs.jobs.put_jobs.Goals as goal

pub loop-job-preserved : goal.loop-job-preserved
loop-job-preserved g c = appends_more job_line _ _ c.job-item.result _ _ _ c.loop-job-test.true c.job-item.is c.loop-job.invariant c.in_ok-put_job.ensures
