use Rattle.std.proofs.Common.{◌≡◌, ◌∙◌, ◌<◌, refl, sym, ap, arith, ℕ, ◌&&◌, ◌==◌, find, length, None, Some}
use Rattle.std.specs.Option.{option_copied}
use Rattle.std.proofs.lemmas.Option.{slice_get_read}
use Rattle.instance_machine.specs.Instances.{InstanceValue}
use Rattle.instance_machine.specs.declared.tries.Try.{Try}
use Rattle.sched_model.specs.States.{is_open}
use Rattle.sched_core.proofs.FindLemmas.{flat_here, flat_more}
use Rattle.sched_core.proofs.finding.open_in.Goals as goal

pub returns-in-Some-clause-one : goal.returns-in-Some-clause-one
returns-in-Some-clause-one c =
    let k : ℕ = c.loop-place.place in
    let i : InstanceValue = c.index-instances-place.result in
    let here : find (λ (t : Try). is_open t && t.serial == c.args.serial) i.tries ≡ Some c.in-Some.one.now =
    ap (find (λ (t : Try). is_open t && t.serial == c.args.serial)) (sym c.tries.ensures) ∙ (sym c.open_among.ensures ∙ ap option_copied c.in-Some.is) in
    sym (flat_here (λ (t : Try). is_open t && t.serial == c.args.serial) (λ (j : InstanceValue). j.tries) c.args.instances.now k i i c.in-Some.one.now (omega (arith, c.loop-place-test.true)) c.index-instances-place.is c.loop-place.invariant here)

pub returns-in-Some-clause-place : goal.returns-in-Some-clause-place
returns-in-Some-clause-place c =
    let i : InstanceValue = c.index-instances-place.result in
    let inside : c.loop-place.place < length c.args.instances.now = omega (arith, c.loop-place-test.true) in
    record {
      instance = i;
      there = slice_get_read c.args.instances.now (length c.args.instances.now) c.loop-place.place i refl inside c.index-instances-place.is;
      first = ap (find (λ (t : Try). is_open t && t.serial == c.args.serial)) (sym c.tries.ensures) ∙ (sym c.open_among.ensures ∙ ap option_copied c.in-Some.is);
    }

pub loop-place-preserved : goal.loop-place-preserved
loop-place-preserved c =
    let k : ℕ = c.loop-place.place in
    let i : InstanceValue = c.index-instances-place.result in
    let here : find (λ (t : Try). is_open t && t.serial == c.args.serial) i.tries ≡ None =
    ap (find (λ (t : Try). is_open t && t.serial == c.args.serial)) (sym c.tries.ensures) ∙ (sym c.open_among.ensures ∙ ap option_copied c.in_default.is) in
    flat_more (λ (t : Try). is_open t && t.serial == c.args.serial) (λ (j : InstanceValue). j.tries) c.args.instances.now k i i (omega (arith, c.loop-place-test.true)) c.index-instances-place.is c.loop-place.invariant here
