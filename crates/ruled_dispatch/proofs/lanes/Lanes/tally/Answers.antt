use Rattle.std.proofs.Common.{rules, suc, ◌≡◌, ◌+◌, [], ◌∷◌, ◌++◌, length, map, get_or, All, vec_items, ap, subst, sym, ◌∙◌, append_assoc, append-nil, arith}
use Rattle.std.specs.Prelude.{sum_by}
use Rattle.std.specs.Vec.Iter.{into_iter_items}
use Rattle.std.proofs.lemmas.List.{length-map, get_or-map}
use Rattle.std.proofs.lemmas.List.Sums.{sum_by-cons, sum_by-append}
use Rattle.crossbeam_queue.specs.Passes.{view, IsPassOf}
use Rattle.ruled_dispatch.specs.declared.passes.WorkerPass.{WorkerPass}
use Rattle.ruled_dispatch.specs.JobsRule.{all_parts}
use Rattle.ruled_dispatch.specs.declared.reports_rule.NumberedReports.{NumberedReports}
use Rattle.ruled_dispatch.specs.ReportsRule.{told_by, told_under}
use Rattle.ruled_dispatch.specs.Lanes.{taken_of}
use Rattle.ruled_dispatch.proofs.Each.{each_taken, none_left}
use Rattle.ruled_dispatch.proofs.JobSteps as jobs
use Rattle.ruled_dispatch.proofs.ReportSteps as reports
use Rattle.ruled_dispatch.proofs.lanes.Lanes.tally.Goals as goal

abbrev under : WorkerPass → NumberedReports
under w = told_under (view w.reports)

pub absorb-requires-clause-rule : goal.absorb-requires-clause-rule
absorb-requires-clause-rule g c = jobs.joins _ _ _ _ c.loop-worker.invariant.sends c.loop-worker.invariant.some_part

pub absorb-requires-in-loop-worker-clause-rule : goal.absorb-requires-in-loop-worker-clause-rule
absorb-requires-in-loop-worker-clause-rule g c = reports.joins _ _ _ _ c.loop-worker.invariant.hears c.in-Some.worker.tells

pub loop-worker-preserved : goal.loop-worker-preserved
loop-worker-preserved g c =
    let was = c.loop-worker.invariant in
    let e = c.in-Some.ensures.steps.0 in
    let both = c.absorb.ensures.rule in
    let heard = c.absorb-in-loop-worker.ensures.rule in
    let worker = c.in-Some.worker in
    let before = into_iter_items c.loop-worker.worker-iterator in
    let rest = into_iter_items c.next.new.self in
    let returned = (view c.loop-worker.hearer).returned in
    let last = under worker ∷ [] in
    let parts : (view c.absorb.new.pass).parts ≡ (view c.loop-worker.sender).parts + (view worker.jobs).parts = ap (λ v. v.parts) both in
    let senders : (view c.absorb.new.pass).senders ≡ (view c.loop-worker.sender).senders + (view worker.jobs).senders = ap (λ v. v.senders) both in
    let one = worker.one_part in
    let no = worker.is_no_sender in
    let shorter : length before ≡ suc (length rest) = ap length e in
    let now : (view c.absorb-in-loop-worker.new.pass).returned ≡ returned ++ last = ap (λ v. v.returned) heard in
    record {
      sender = search rules;
      hearer = search rules;
      of_jobs = each_taken (λ k (w : WorkerPass). IsPassOf c.args.self.jobs w.jobs) before rest worker e was.of_jobs;
      of_reports = each_taken (λ k (w : WorkerPass). IsPassOf c.args.self.reports w.reports) before rest worker e was.of_reports;
      some_part = let p = was.some_part in omega arith;
      parts = let p = was.parts in omega arith;
      sends = let p = was.sends in omega arith;
      sent = λ weight.
          let p = was.sent weight in
          let q = sum_by-append weight (view c.loop-worker.sender).sent (view worker.jobs).sent in
          let r : sum_by weight (view c.absorb.new.pass).sent ≡ sum_by weight ((view c.loop-worker.sender).sent ++ (view worker.jobs).sent) = ap (λ v. sum_by weight v.sent) both in
          let z : sum_by weight (view worker.jobs).sent ≡ 0 = ap (sum_by weight) worker.sends_none in
          omega arith;
      taken = λ weight.
          let p = was.taken weight in
          let q = sum_by-append weight (view c.loop-worker.sender).taken (view worker.jobs).taken in
          let r : sum_by weight (view c.absorb.new.pass).taken ≡ sum_by weight ((view c.loop-worker.sender).taken ++ (view worker.jobs).taken) = ap (λ v. sum_by weight v.taken) both in
          let t = ap (sum_by (λ w. sum_by weight (taken_of w))) e ∙ sum_by-cons (λ w. sum_by weight (taken_of w)) worker rest in
          omega arith;
      hears = ap (λ v. v.hears) heard;
      heard = ap (λ v. v.heard) heard ∙ was.heard;
      made = ap (λ v. v.made) heard ∙ was.made;
      returned = ap (λ l. l ++ map under rest) now ∙ append_assoc returned last (map under rest) ∙ ap (λ l. returned ++ map under l) (sym e) ∙ was.returned;
    }

pub len_as-jobs_left-requires-clause-rule : goal.len_as-jobs_left-requires-clause-rule
len_as-jobs_left-requires-clause-rule g c =
    let was = c.loop-worker.invariant in
    let done = c.in-None.ensures.steps in
    let none : length (into_iter_items c.loop-worker.worker-iterator) ≡ 0 = search rules in
    let p = was.parts in
    let all : (view c.loop-worker.sender).parts ≡ all_parts = omega arith in
    jobs.accounts _ _ was.sends all

pub len_as-reports_left-requires-clause-rule : goal.len_as-reports_left-requires-clause-rule
len_as-reports_left-requires-clause-rule g c = reports.tells_of_all _ _ c.loop-worker.invariant.hears

pub returns-clause-reports : goal.returns-clause-reports
returns-clause-reports g c =
    let was = c.loop-worker.invariant in
    let done = c.in-None.ensures.steps in
    let none : into_iter_items c.loop-worker.worker-iterator ≡ [] = none_left (into_iter_items c.loop-worker.worker-iterator) (search rules) in
    let held = c.len_as-reports_left.ensures.rule.1 in
    let returned = (view c.loop-worker.hearer).returned in
    let workers = vec_items c.args.workers in
    let whole : returned ≡ map under workers = sym (append-nil returned) ∙ ap (λ l. returned ++ map under l) (sym none) ∙ was.returned in
    let P : NumberedReports → Type 0 = λ r. r.told ≡ told_by r.number (view c.loop-worker.hearer).heard ++ told_by r.number held.0 in
    let each : All P (map under workers) = subst (All P) whole held.2.0 in
    let made = was.made in
    let all = c.requires.2.1 in (
      held.0,
      held.1,
      (λ k d below.
          let w = get_or workers k d in
          let it : P (under w) = subst P (get_or-map under workers k d (under d) below) (each k (under d) (omega (arith, length-map workers under))) in
          it
          ∙ ap (λ n. told_by n (view c.loop-worker.hearer).heard ++ told_by n held.0) w.numbered
          ∙ ap (λ l. told_by w.number l ++ told_by w.number held.0) was.heard),
      (λ k late.
          let none_of = held.2.1 k (omega arith) in
          (ap (told_by k) (sym was.heard) ∙ none_of.0, none_of.1)),
    )
