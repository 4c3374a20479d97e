use Rattle.std.proofs.Common.{rules, ◌≡◌, length, map, take, vec_items, vec_len, ap, sym, ◌∙◌}
use Rattle.std.proofs.lemmas.List.{length-map}
use Rattle.std.proofs.lemmas.List.Elements.{All-map}
use Rattle.workers.specs.declared.crews.WorkerEnd.{WorkerEnd}
use Rattle.workers.specs.Shows.{shows}
use Rattle.conduct.proofs.Runs.{each_started, same_stops, worked_from}
use Rattle.conduct.proofs.threads.run.Goals as goal

pub returns-clause-managed : goal.returns-clause-managed
returns-clause-managed g c =
    let hs = vec_items c.start_all-are_all.new.handles in
    let results = vec_items c.join_all-results.result in
    let started = c.start_all-are_all.ensures in
    let joined : length results ≡ length hs = c.join_all-results.ensures.worked.0 ∙ length-map hs (λ h. h.promise.pass.value) in
    let counted : c.len.result ≡ length hs = search rules in
    let long : vec_len c.start_all-are_all.new.handles ≡ length results = search rules in
    record {
      served = same_stops c.len.result (length results) (counted ∙ sym joined) c.serve-parted.ensures.served;
      worked =
          worked_from (shows g.O.Operator.kind_of g.O.Operator.runs_of g.O.Operator.refused_of g.O.Operator.taken) _ _ _ _ _ _ results
          (started.passes ∙ ap (λ n. take n (vec_items c.args.workers.passes)) long)
          (started.shares ∙ ap (λ n. take n (vec_items c.args.workers.shares)) long)
          (started.kits ∙ ap (λ n. take n (map (λ x. x.kit) (vec_items c.args.crews))) long)
          c.join_all-results.ensures.worked;
      all = each_started c.serve-parted.result.outcome c.start_all-are_all.result _ _ (length results) c.serve-parted.ensures.all started.all (sym long);
    }

pub returns-clause-keep : goal.returns-clause-keep
returns-clause-keep g c = (
  c.serve-parted.ensures.keep,
  All-map (λ (e : WorkerEnd g.row.G.Denot g.row.O.Denot). e.log.keep ≡ c.args.workers.keep) (λ r. r.0) (vec_items c.join_all-results.result) (c.join_all-results.ensures.keep c.args.workers.keep c.start_all-are_all.ensures.keep),
)
