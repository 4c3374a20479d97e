use Rattle.std.proofs.Common.{◌≡◌, ◌∙◌, ℕ, List, sym, ap, flat_map, find, option_map, Some, None}
use Rattle.instance_machine.specs.Instances.{InstanceValue}
use Rattle.instance_machine.specs.declared.tries.Try.{Try}
use Rattle.sched_state.specs.declared.runs.Run.{Run}
use Rattle.sched_core.specs.Finding.{tries_in}
use Rattle.sched_core.proofs.OpenLemmas.{found_next, is_sought, missed_next}
use Rattle.sched_core.proofs.finding.open_at.Goals as goal

pub returns-in-Some-clause-one : goal.returns-in-Some-clause-one
returns-in-Some-clause-one c =
    let r : Run = c.get.result.now in
    let here : find (is_sought c.args.serial) (tries_in r) ≡ Some c.in-Some.one =
    ap (λ (is : List InstanceValue). find (is_sought c.args.serial) (flat_map (λ (i : InstanceValue). i.tries) is)) (sym c.as_slice-instances.ensures) ∙ (sym c.open_in.ensures.one ∙ ap (option_map (λ (f : ℕ × Try). f.1)) c.in-Some.is) in
    sym (found_next c.args.serial c.args.runs.now.runs c.args.positions.now c.loop-position.position-index r c.in-Some.one c.loop-position.invariant c.loop-position-test.true c.get.ensures here)

pub loop-position-preserved : goal.loop-position-preserved
loop-position-preserved c =
    let r : Run = c.get.result.now in
    let here : find (is_sought c.args.serial) (tries_in r) ≡ None =
    ap (λ (is : List InstanceValue). find (is_sought c.args.serial) (flat_map (λ (i : InstanceValue). i.tries) is)) (sym c.as_slice-instances.ensures) ∙ (sym c.open_in.ensures.one ∙ ap (option_map (λ (f : ℕ × Try). f.1)) c.in_default.is) in
    missed_next c.args.serial c.args.runs.now.runs c.args.positions.now c.loop-position.position-index r c.loop-position.invariant c.loop-position-test.true c.get.ensures here
