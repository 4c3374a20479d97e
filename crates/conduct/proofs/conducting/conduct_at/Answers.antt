use Rattle.std.proofs.Common.{rules, ◌≡◌, ◌<◌, ◌≤◌, ◌==◌, All, inl, false, length, map, vec_items, vec_capacity, refl, sym, ap, ◌∙◌, subst, arith, ne_eqb}
use Rattle.std.proofs.lemmas.List.{length-map}
use Rattle.sqlite.specs.Held.{state}
use Rattle.ruled_dispatch.specs.Lanes.{HasWorkers}
use Rattle.sched_events.specs.SettledAndSound.{IsSoundAndSaid}
use Rattle.sched_events.specs.declared.events.Event.{Event}
use Rattle.kept.specs.Lists.{KeptValue}
use Rattle.sessions.specs.Runs.{ScheduleValue}
use Rattle.sessions.specs.History.{readings_in}
use Rattle.sessions.specs.declared.faults.ConductFault.TheVariants as fault
use Rattle.workers.specs.Shows.{Shows, shows}
use Rattle.workers.specs.Threads.{HaveWorked}
use Rattle.workers.proofs.Backs.{are_back, are_accounts, are_in_order, are_kits, none_in_hand}
use Rattle.conduct.specs.Faults.{all_started}
use Rattle.conduct.proofs.Runs.{worked_from}
use Rattle.conduct.proofs.Composition.{also_ok, both_ok, conducted, ends_kept, none_kept, on_ok, take_all, unstarted_run}
use Rattle.conduct.proofs.conducting.conduct_at.Goals as goal

pub returns-in_default-clause-conducted : goal.returns-in_default-clause-conducted
returns-in_default-clause-conducted g c =
    let crews = vec_items c.args.crews in
    let kits = map (λ x. x.kit) crews in
    let some : 0 < length kits = subst (λ n. 0 < n) (sym (length-map crews (λ x. x.kit))) c.requires.crews.0 in
    let none : false ≡ (length kits == 0) = sym (ne_eqb (length kits) 0 (λ e. absurd (omega arith))) in
    let sound : IsSoundAndSaid c.args.director.schedule.content = subst (λ (s : ScheduleValue). IsSoundAndSaid s.content) c.schedule.ensures c.runs.ensures.kept in
    unstarted_run (state g.S.Store) (shows g.O.Operator.kind_of g.O.Operator.runs_of g.O.Operator.refused_of g.O.Operator.taken) c.args.lane_count kits c.args.director _ (λ told waits. g.L.Lines.tells c.args.lines.now told waits c.args.lines.now × g.C.Clock.gives c.args.clock.now (readings_in told) c.args.clock.now) ((c.args.lines.now ≡ c.args.lines.now) × (c.args.clock.now ≡ c.args.clock.now)) _ _ fault.Memory sound refl c.new.ensures.items c.new-in_default.ensures.items refl
    (g.met.L.Lines.begins c.args.lines.now, g.met.C.Clock.begins c.args.clock.now) (refl, refl) refl (inl c.requires.sound) none

pub manage-managed-requires-after_bounds : goal.manage-managed-requires-after_bounds
manage-managed-requires-after_bounds g c κs within =
    let q = c.in-Ok.equipment in
    let e = c.in-Ok.ensures in
    let len : c.len-count.result ≡ length (vec_items c.args.crews) = search rules in
    record {
      first = e.all.0;
      unused = e.unused;
      within = c.requires.lanes.1;
      sound = c.requires.sound;
      passes = e.all.1;
      kits = c.requires.kits;
      pass_each = e.workers.0 ∙ len;
      share_each = e.workers.1 ∙ len;
      none = e.room.0;
      room = subst (λ k. k ≤ vec_capacity q.workers.handles) len e.room.1;
    }

pub close-requires-clause-workers : goal.close-requires-clause-workers
close-requires-clause-workers g c =
    let e = c.in-Ok.ensures in
    let m = c.manage-managed.result in
    let d = c.manage-managed.ensures.managed in
    let passes = vec_items c.in-Ok.equipment.workers.passes in
    let len : c.len-count.result ≡ length (vec_items c.args.crews) = search rules in
    λ started. subst (λ k. HasWorkers m.parted.pass k) (e.workers.0 ∙ len ∙ sym (d.all started)) (d.served.workers (length passes) e.all.2)

pub close-requires-clause-back : goal.close-requires-clause-back
close-requires-clause-back g c =
    let q = c.in-Ok.equipment in
    let e = c.in-Ok.ensures in
    let m = c.manage-managed.result in
    let d = c.manage-managed.ensures.managed in
    let op = g.O.Operator in
    let all : Shows g.row.O.Denot = shows op.kind_of op.runs_of op.refused_of op.taken in
    let crews = vec_items c.args.crews in
    let kits = map (λ x. x.kit) crews in
    let passes = vec_items q.workers.passes in
    let shares = vec_items q.workers.shares in
    let results = vec_items m.results in
    let len : c.len-count.result ≡ length crews = search rules in
    λ started.
    let same = d.all started in
    let count : length results ≡ c.len-count.result = same ∙ sym len in
    let worked =
    worked_from all _ _ _ _ _ _ results (take_all (length results) passes (count ∙ sym e.workers.0)) (take_all (length results) shares (count ∙ sym e.workers.1))
    (take_all (length results) kits (same ∙ sym (length-map crews (λ x. x.kit)))) d.worked
    in
    are_back all passes shares kits results worked q.lanes e.all.1 e.numbers e.new.0 e.new.1

pub close-requires-clause-all : goal.close-requires-clause-all
close-requires-clause-all g c =
    let e = c.in-Ok.ensures in
    let m = c.manage-managed.result in
    let d = c.manage-managed.ensures.managed in
    let results = vec_items m.results in
    let len : c.len-count.result ≡ length (vec_items c.args.crews) = search rules in
    let room : c.in-Ok.equipment.room ≡ c.len-count.result = e.room.2 in
    λ started.
    let long : length results ≡ length (vec_items c.args.crews) = d.all started in (
      subst (λ k. 0 < k) (sym long) c.requires.crews.0,
      long ∙ sym c.requires.parts.1 ∙ c.requires.parts.0,
      omega arith,
    )

pub returns-clause-conducted : goal.returns-clause-conducted
returns-clause-conducted g c =
    let q = c.in-Ok.equipment in
    let e = c.in-Ok.ensures in
    let m = c.manage-managed.result in
    let d = c.manage-managed.ensures.managed in
    let z = c.close.ensures in
    let op = g.O.Operator in
    let all : Shows g.row.O.Denot = shows op.kind_of op.runs_of op.refused_of op.taken in
    let crews = vec_items c.args.crews in
    let kits = map (λ x. x.kit) crews in
    let passes = vec_items q.workers.passes in
    let shares = vec_items q.workers.shares in
    let results = vec_items m.results in
    let a = c.args.director.schedule.content in
    let len : c.len-count.result ≡ length crews = search rules in
    let long = length-map crews (λ x. x.kit) in
    let worked : length results ≡ length crews → HaveWorked all passes shares kits results =
    λ same.
    worked_from all _ _ _ _ _ _ results (take_all (length results) passes (same ∙ sym len ∙ sym e.workers.0)) (take_all (length results) shares (same ∙ sym len ∙ sym e.workers.1))
    (take_all (length results) kits (same ∙ sym long)) d.worked
    in
    let stop = d.served.run in
    let h = d.served.history in
    let sound : IsSoundAndSaid a = subst (λ (s : ScheduleValue). IsSoundAndSaid s.content) c.schedule.ensures c.runs.ensures.kept in
    conducted (state g.S.Store) all q.lanes c.args.lane_count (length results) kits c.args.director q.pass m.parted m.outcome results (λ r. r.0) c.close.result _ _ _ _
    sound (subst (λ k. 0 < k) (sym long) c.requires.crews.0) d.served z.director (ap (λ (m : KeptValue Event). m.items) z.minutes) z.ok z.fault
    (λ started. d.all started ∙ sym long) z.ends z.none
    (also_ok c.close.result.outcome z.once (λ each. each h c.args.director stop))
    (also_ok c.close.result.outcome z.own (λ each. each h c.args.director sound stop))
    (λ started.
    let did = worked (d.all started) in
    (are_in_order all passes shares kits results did e.numbers, are_accounts all passes shares kits results did, are_kits all passes shares kits results did))
    (both_ok c.close.result.outcome m.outcome z.ok (on_ok m.outcome (λ started. none_in_hand all passes shares kits results (worked (d.all started)) (e.workers.1 ∙ sym e.workers.0) e.none)) z.desk
    (λ s none p. (p.0 ∙ none, p.1)))
    z.sent z.told

pub returns-in_default-clause-keep : goal.returns-in_default-clause-keep
returns-in_default-clause-keep g c = (c.new.ensures.keep, none_kept c.args.keep (vec_items c.new-in_default.result) c.new-in_default.ensures.items)

pub returns-clause-keep : goal.returns-clause-keep
returns-clause-keep g c =
    let m = c.manage-managed.result in
    let z = c.close.ensures in
    let kept = c.manage-managed.ensures.keep in
    let asked = c.in-Ok.ensures.keep in (
      ap (λ (m : KeptValue Event). m.keep) z.minutes ∙ kept.0 ∙ asked,
      ends_kept c.args.keep (all_started m.outcome) (map (λ r. r.0) (vec_items m.results)) (vec_items c.close.result.ends) z.ends z.none
          (subst (λ k. All (λ e. e.log.keep ≡ k) (map (λ r. r.0) (vec_items m.results))) asked kept.1),
    )
