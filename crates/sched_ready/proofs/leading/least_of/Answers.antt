use Rattle.std.proofs.Common.{◌≡◌, ◌∙◌, ◌+◌, ◌<◌, ap, length, refl, slice_get, subst, sym, Option, Some, arith}
use Rattle.std.proofs.lemmas.Option.{slice_get_read, slice_get_within}
use Rattle.sched_ready.specs.declared.leading.First.{First}
use Rattle.sched_ready.proofs.LeadLemmas.{IsLeastTo, least_more, least_over}
use Rattle.sched_ready.proofs.leading.least_of.Goals.{in-Some, in_default}
use Rattle.sched_ready.proofs.leading.least_of.Goals as goal

pub loop-kind-init : goal.loop-kind-init
loop-kind-init c k f l e = absurd (omega (arith, l))

pub loop-kind-preserved : goal.loop-kind-preserved
loop-kind-preserved c =
    let n = c.loop-kind.kind in
    let fs = c.args.firsts.now.items in
    let within : n < length fs = omega (arith, c.loop-kind-test.true, c.len-kind-end.ensures, c.args.firsts.now.ok.0) in
    let there : slice_get fs n ≡ Some c.index.result.now = slice_get_read fs (length fs) n c.index.result.now refl within c.index.ensures in
    elim c.match-index.branch [
      | in-Some w ↦ subst (IsLeastTo (n + 1) fs) (sym (w.least-is ∙ w.lowered-least.ensures)) (least_more n fs w.in-Some.first c.loop-kind.least (there ∙ ap (λ (o : Option First). Some o) w.in-Some.is) c.loop-kind.invariant)
      | in_default w ↦ subst (IsLeastTo (n + 1) fs) (sym w.least-is) (least_over n fs c.loop-kind.least (there ∙ ap (λ (o : Option First). Some o) w.in_default.is) c.loop-kind.invariant)
    ]

pub returns : goal.returns
returns c k f e = let l = slice_get_within c.args.firsts.now.items k (Some f) e in c.loop-kind.invariant k f (omega (arith, l, c.loop-kind-test.false, c.len-kind-end.ensures, c.args.firsts.now.ok.0)) e
