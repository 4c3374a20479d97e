use Rattle.std.proofs.Common.{◌≡◌, ◌∙◌, All, map, vec_items, ap, arith, inl, refl, subst, sym}
use Rattle.sqlite.specs.Held.{state}
use Rattle.sqlite.specs.State.{HasCleanDisk}
use Rattle.kept.specs.Lists.{KeptValue}
use Rattle.sched_events.specs.declared.events.Event.{Event}
use Rattle.workers.specs.Shows.{shows}
use Rattle.script_runner.proofs.RunLemmas.{ran}
use Rattle.script_runner.proofs.running.run_on.Goals as goal

pub returns-in-Err-clause-kept : goal.returns-in-Err-clause-kept
returns-in-Err-clause-kept g c clean is_open = inl (refl, refl)

pub returns-in-Err-clause-given : goal.returns-in-Err-clause-given
returns-in-Err-clause-given g c clean = tt

pub returns-in-Err-open-clause-fault : goal.returns-in-Err-open-clause-fault
returns-in-Err-open-clause-fault g c = let f = rw c.full.ensures at c.in-Err-open.ensures.fault in f

pub returns-in-Err-open-clause-given : goal.returns-in-Err-open-clause-given
returns-in-Err-open-clause-given g c = c.in-Err-open.ensures.given

pub returns-in-Err-open-clause-kept : goal.returns-in-Err-open-clause-kept
returns-in-Err-open-clause-kept g c = c.in-Err-open.ensures.transacts.kept

pub returns-in-Err-open-clause-crash : goal.returns-in-Err-open-clause-crash
returns-in-Err-open-clause-crash g c = let t = rw c.full.ensures at c.in-Err-open.ensures.transacts in t.crash

pub returns-in-Ok-open-clause-run : goal.returns-in-Ok-open-clause-run
returns-in-Ok-open-clause-run g c =
    let kits = map (λ x. x.kit) (vec_items c.args.crews) in
    let z = c.close.ensures in
    let n = c.in-Ok.ensures.new in
    let out : c.in-Ok.reader.answers.output ≡ c.args.script.output = ap (λ a. a.output) n.answers in
    let restarted = (let t = rw c.full.ensures at c.in-Ok-open.ensures.transacts in t) in
    let clean_before : HasCleanDisk (state g.S.Store c.in-Ok-open.director.store) → HasCleanDisk (state g.S.Store c.args.store) = λ clean. omega (arith, restarted.crash.clean, clean) in
    let h =
    ran (state g.S.Store) (shows g.O.Operator.kind_of g.O.Operator.runs_of g.O.Operator.refused_of g.O.Operator.taken) g.R.Read.remaining g.W.Write.contents g.F.Sources.gives g.C.Clock.gives c.args.options.lanes kits (state g.S.Store c.args.store) c.in-Ok-open.director c.conduct-conducted.result c.in-Ok.reader c.conduct-conducted.new.lines
    c.args.clock.now c.conduct-conducted.new.clock c.conduct-conducted.ensures.conducted (let k = rw c.schedule.ensures at c.runs.ensures.kept in k) (let o = rw c.full.ensures at c.in-Ok-open.ensures.opened in o) restarted.stored
    clean_before (restarted.crash.counts, (λ clean. (restarted.is_open clean).1)) restarted.only
    (record { over = n.over; status = ap (λ a. a.status) n.answers; written = ap (λ a. a.is_written) n.answers })
    c.close.result.store c.close.result.minutes.items (vec_items c.close.result.ends) c.close.result.outcome c.close.result.told c.close.result.status c.close.result.sources c.close.result.output
    (record { store_is = z.store; minutes_are = ap (λ (m : KeptValue Event). m.items) z.minutes; ends_are = ap vec_items z.ends; outcome_is = z.outcome; told_is = z.told; well_is = z.well; status_is = z.status; sources_are = z.sources })
    in
    let i = rw n.input at h in
    let s = rw n.sources at i in
    let o = rw out at s in
    o

pub returns-in-Ok-open-clause-keep : goal.returns-in-Ok-open-clause-keep
returns-in-Ok-open-clause-keep g c =
    let kept = c.conduct-conducted.ensures.keep in
    let z = c.close.ensures in (
      ap (λ (m : KeptValue Event). m.keep) z.minutes ∙ kept.0,
      subst (λ es. All (λ e. e.log.keep ≡ c.args.options.keep) (vec_items es)) (sym z.ends) kept.1,
    )
