use Rattle.std.proofs.Common.{◌≡◌, ◌∙◌, List, [], ◌∷◌, ◌++◌, ap, arith, length, map, subst, sym, rules, vec_items}
use Rattle.std.proofs.lemmas.List.Elements.{All-nil, All-push, All-same, All-tail}
use Rattle.std.specs.Vec.Iter.{into_iter_items}
use Rattle.operators.specs.Kits.{IsKit}
use Rattle.workers.specs.declared.crews.Crew.{Crew}
use Rattle.script_runner.specs.Teams.{AreKitsOf, IsWhole}
use Rattle.script_runner.proofs.TeamLemmas.{kits_grow, kits_end, none_left, one_more}
use Rattle.script_runner.proofs.teams.make_crews.Goals as goal

pub loop-operators-init : goal.loop-operators-init
loop-operators-init g c =
    let given = c.into_iter-operators-iterator.ensures.into_iter_gives.0 in
    record {
      whole = All-same (λ w. IsWhole g.O.Operator.kind_of w.0.items) (into_iter_items c.into_iter-operators-iterator.result) c.args.team.items given c.requires;
      kits = All-same (λ (x : Crew g.row.G.Denot g.row.O.Denot). IsKit g.O.Operator.kind_of x.kit) (vec_items c.new-crews.result) [] c.new-crews.ensures.items
          (All-nil (λ (x : Crew g.row.G.Denot g.row.O.Denot). IsKit g.O.Operator.kind_of x.kit));
      made = λ more are.
          subst (λ (cs : List (Crew g.row.G.Denot g.row.O.Denot)). AreKitsOf g.O.Operator.kind_of (map (λ w. w.0.items) c.args.team.items) (map (λ x. x.kit) cs ++ more))
          (sym c.new-crews.ensures.items) (subst (λ ws. AreKitsOf g.O.Operator.kind_of (map (λ w. w.0.items) ws) more) given are);
      count = omega (arith, ap length given, ap length c.new-crews.ensures.items);
    }

pub unreachable-requires : goal.unreachable-requires
unreachable-requires g c =
    let steps : into_iter_items c.loop-operators.operators-iterator ≡ (c.in-Some.operators, c.in-Some.gate) ∷ into_iter_items c.next.new.self = c.in-Some.ensures.steps.0 in
    let here = All-same (λ w. IsWhole g.O.Operator.kind_of w.0.items) ((c.in-Some.operators, c.in-Some.gate) ∷ into_iter_items c.next.new.self)
    (into_iter_items c.loop-operators.operators-iterator) (sym steps) c.loop-operators.invariant.whole in
    let whole = here 0 (c.in-Some.operators, c.in-Some.gate) (omega arith) in
    let back = c.in_default.ensures.back.1 in
    cc

pub loop-operators-preserved : goal.loop-operators-preserved
loop-operators-preserved g c =
    let old : List (Crew g.row.G.Denot g.row.O.Denot) = vec_items c.loop-operators.crews in
    let now : List (Crew g.row.G.Denot g.row.O.Denot) = vec_items c.push.new.self in
    let crew : Crew g.row.G.Denot g.row.O.Denot = record { kit = c.in-Ok.kit; gate = c.in-Some.gate } in
    let grown : now ≡ old ++ crew ∷ [] = c.in_ok-push.ensures.items in
    let steps : into_iter_items c.loop-operators.operators-iterator ≡ (c.in-Some.operators, c.in-Some.gate) ∷ into_iter_items c.next.new.self = c.in-Some.ensures.steps.0 in
    let rest = into_iter_items c.next.new.self in
    record {
      whole = All-tail (λ w. IsWhole g.O.Operator.kind_of w.0.items) (c.in-Some.operators, c.in-Some.gate) rest
          (All-same (λ w. IsWhole g.O.Operator.kind_of w.0.items) ((c.in-Some.operators, c.in-Some.gate) ∷ rest) (into_iter_items c.loop-operators.operators-iterator)
          (sym steps) c.loop-operators.invariant.whole);
      kits = All-same (λ x. IsKit g.O.Operator.kind_of x.kit) now (old ++ crew ∷ []) grown
          (All-push (λ x. IsKit g.O.Operator.kind_of x.kit) old crew c.loop-operators.invariant.kits c.in-Ok.ensures.kit.0);
      made = λ more are.
          subst (λ ks. AreKitsOf g.O.Operator.kind_of (map (λ w. w.0.items) (vec_items c.args.team)) ks)
          (sym (ap (λ (cs : List (Crew g.row.G.Denot g.row.O.Denot)). map (λ x. x.kit) cs ++ more) grown ∙ kits_grow old crew more))
          (c.loop-operators.invariant.made (c.in-Ok.kit ∷ more)
          (subst (λ ws. AreKitsOf g.O.Operator.kind_of (map (λ w. w.0.items) ws) (c.in-Ok.kit ∷ more)) (sym steps) ((c.in-Ok.ensures.kit.0, c.in-Ok.ensures.kit.1), are)));
      count = omega (arith, ap length grown, one_more old crew, ap length steps, c.loop-operators.invariant.count);
    }

pub returns-clause-made : goal.returns-clause-made
returns-clause-made g c =
    let done = c.in-None.ensures.steps in
    let over : into_iter_items c.loop-operators.operators-iterator ≡ [] = none_left (into_iter_items c.loop-operators.operators-iterator) (search rules) in
    subst (λ ks. AreKitsOf g.O.Operator.kind_of (map (λ w. w.0.items) c.args.team.items) ks) (kits_end c.loop-operators.crews.items)
    (c.loop-operators.invariant.made [] (subst (λ ws. AreKitsOf g.O.Operator.kind_of (map (λ w. w.0.items) ws) []) (sym over) tt))
