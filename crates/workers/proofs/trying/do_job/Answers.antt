use Rattle.std.proofs.Common.{◌≡◌, [], ◌∷◌, ◌++◌, ap, ◌∙◌, sym, append_assoc}
use Rattle.sched_state.specs.declared.jobs.Job.{Job}
use Rattle.ruled_dispatch.specs.Lanes.{told_of}
use Rattle.workers.specs.Logs.{ended, hold_of, started}
use Rattle.workers.specs.Shows.{shows}
use Rattle.workers.proofs.Entries.{of_one}
use Rattle.workers.proofs.Holds.{there_and_gone}
use Rattle.workers.proofs.trying.do_job.Goals as goal

pub returns-clause-share : goal.returns-clause-share
returns-clause-share g c =
    let start = c.tell_start-started.ensures in
    let enter = c.enter-entered.ensures in
    let perform = c.perform-performed.ensures in
    let leave = c.leave-departed.ensures in
    let gone = there_and_gone start.others.0 start.job (perform.job ∙ enter.job ∙ start.job) enter.entered enter.new perform.others.1 leave.hold.0 leave.hold.1 leave.left in
    c.tell_end.ensures.others.0 ∙ gone.0

pub returns-clause-account : goal.returns-clause-account
returns-clause-account g c =
    let op = g.O.Operator in
    let start = c.tell_start-started.ensures in
    let enter = c.enter-entered.ensures in
    let perform = c.perform-performed.ensures in
    let leave = c.leave-departed.ensures in
    let end = c.tell_end.ensures in
    let gone = there_and_gone start.others.0 start.job (perform.job ∙ enter.job ∙ start.job) enter.entered enter.new perform.others.1 leave.hold.0 leave.hold.1 leave.left in
    of_one (shows op.kind_of op.runs_of op.refused_of op.taken) c.args.worker.now.kit c.enter-entered.new.self.kit c.perform-performed.new.self.kit c.tell_end.new.self.kit
    c.enter-entered.result.job c.perform-performed.result.begun c.perform-performed.result.outcome c.tell_end.result
    (enter.others.1 ∙ start.others.1) (end.others.1 ∙ leave.others.1) (end.entry.0 ∙ leave.job.0 ∙ perform.job) (end.entry.1 ∙ leave.job.1) (end.entry.2 ∙ leave.job.2)
    (end.entry.3 ∙ gone.1 ∙ ap hold_of (sym (enter.job ∙ start.job)))
    perform.runs perform.refused perform.taken perform.ended

pub returns-clause-told : goal.returns-clause-told
returns-clause-told g c =
    let job = c.args.job in
    let before = told_of c.args.worker.now.pass in
    let start = c.tell_start-started.ensures in
    let enter = c.enter-entered.ensures in
    let perform = c.perform-performed.ensures in
    let leave = c.leave-departed.ensures in
    let end = c.tell_end.ensures in
    let departed = c.leave-departed.result in
    let is_job : c.tell_end.result.job ≡ job = end.entry.0 ∙ leave.job.0 ∙ perform.job ∙ enter.job ∙ start.job in
    let first : told_of c.leave-departed.new.self.pass ≡ before ++ started job ∷ [] = ap told_of (leave.others.0 ∙ perform.others.0 ∙ enter.others.0) ∙ start.told in
    end.told ∙ ap (λ l. l ++ ended departed.job departed.outcome ∷ []) first ∙ append_assoc before (started job ∷ []) (ended departed.job departed.outcome ∷ [])
    ∙ ap (λ (j : Job). before ++ started j ∷ ended departed.job departed.outcome ∷ []) (sym is_job)
    ∙ ap (λ (j : Job). before ++ started c.tell_end.result.job ∷ ended j departed.outcome ∷ []) (sym end.entry.0)
    ∙ ap (λ o. before ++ started c.tell_end.result.job ∷ ended c.tell_end.result.job o ∷ []) (sym end.entry.2)
