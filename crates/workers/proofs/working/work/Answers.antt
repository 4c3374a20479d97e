use Rattle.std.proofs.Common.{rules, ◌≡◌, List, [], ◌∷◌, ◌++◌, sym, ap, ◌∙◌, subst, append-nil, append_assoc}
use Rattle.std.proofs.lemmas.List.{map-append}
use Rattle.std.proofs.lemmas.Grind.{flat_map-append}
use Rattle.ruled_dispatch.specs.declared.items.JobOrStop.TheVariants as items
use Rattle.operators.specs.Kits.{IsKit}
use Rattle.operators.specs.declared.kits.Kit.{Kit}
use Rattle.ruled_dispatch.specs.Lanes.{taken_of, told_of, IsWorkerOf}
use Rattle.ruled_dispatch.specs.declared.passes.WorkerPass.{WorkerPass}
use Rattle.workers.specs.declared.logs.Logged.{Logged}
use Rattle.workers.specs.Accounts.{IsAccount}
use Rattle.workers.specs.Logs.{jobs_of, reports_of, both_reports}
use Rattle.workers.specs.Shows.{Shows, shows}
use Rattle.workers.proofs.Entries.{and_then, none_yet}
use Rattle.workers.proofs.working.work.Goals as goal

pub loop-init : goal.loop-init
loop-init g c =
    let op = g.O.Operator in
    let all : Shows g.row.O.Denot = shows op.kind_of op.runs_of op.refused_of op.taken in
    let made = c.new-worker.ensures in
    let none = c.new-log.ensures.items in
    let pass = c.args.pass in
    let kit = c.args.crew.kit in
    record {
      pass = subst (λ (p : WorkerPass). IsWorkerOf c.args.lanes.now p) (sym made.0) c.requires.pass;
      number = ap (λ (p : WorkerPass). p.number) made.0;
      taken = ap taken_of made.0 ∙ sym (append-nil (taken_of pass)) ∙ ap (λ (l : List Logged). taken_of pass ++ jobs_of l) (sym none);
      told = ap told_of made.0 ∙ sym (append-nil (told_of pass)) ∙ ap (λ (l : List Logged). told_of pass ++ reports_of l) (sym none);
      share = made.1;
      kit = subst (λ (k : Kit g.row.O.Denot). IsKit op.kind_of k) (sym made.2) c.requires.kit;
      account =
          subst (λ (l : List Logged). IsAccount all kit c.new-worker.result.kit l) (sym none)
          (subst (λ (k : Kit g.row.O.Denot). IsAccount all kit k []) (sym made.2) (none_yet all kit));
      keep = c.new-log.ensures.keep;
    }

pub loop-preserved : goal.loop-preserved
loop-preserved g c =
    let op = g.O.Operator in
    let all : Shows g.row.O.Denot = shows op.kind_of op.runs_of op.refused_of op.taken in
    let was = c.loop.invariant in
    let did = c.do_job.ensures in
    let entry = c.do_job.result in
    let last = entry ∷ [] in
    let pass = c.args.pass in
    let old = c.loop.log.items in
    let now = c.push_reserved.new.self.items in
    let grown : now ≡ old ++ last = search rules in
    let took : taken_of c.take.new.self.pass ≡ taken_of c.loop.worker.pass ++ items.Job c.in-Job.job ∷ [] = search rules in
    let told : told_of c.take.new.self.pass ≡ told_of c.loop.worker.pass = search rules in
    record {
      pass = did.pass;
      number = search rules;
      taken =
          did.took ∙ took ∙ ap (λ l. l ++ items.Job c.in-Job.job ∷ []) was.taken ∙ append_assoc (taken_of pass) (jobs_of old) (items.Job c.in-Job.job ∷ [])
          ∙ ap (λ job. taken_of pass ++ (jobs_of old ++ items.Job job ∷ [])) (sym did.job)
          ∙ ap (λ l. taken_of pass ++ l) (sym (map-append (λ (e : Logged). items.Job e.job) old last))
          ∙ ap (λ (l : List Logged). taken_of pass ++ jobs_of l) (sym grown);
      told =
          did.told ∙ ap (λ l. l ++ reports_of last) (told ∙ was.told) ∙ append_assoc (told_of pass) (reports_of old) (reports_of last)
          ∙ ap (λ l. told_of pass ++ l) (sym (flat_map-append both_reports old last))
          ∙ ap (λ (l : List Logged). told_of pass ++ reports_of l) (sym grown);
      share = did.share ∙ c.take.ensures.others.0 ∙ was.share;
      kit = did.kit;
      account =
          subst (λ (l : List Logged). IsAccount all c.args.crew.kit c.do_job.new.worker.kit l) (sym grown)
          (and_then all c.args.crew.kit c.loop.worker.kit c.do_job.new.worker.kit old last was.account
          (subst (λ (k : Kit g.row.O.Denot). IsAccount all k c.do_job.new.worker.kit last) c.take.ensures.others.1 did.account));
      keep = search rules;
    }
