use Rattle.std.proofs.Common.{◌≡◌}
use Rattle.graph_file.specs.declared.operators.Operator.{Operator as Kind}
use Rattle.operators.specs.Kits.{of_kind, IsKit}
use Rattle.workers.proofs.steps.attempt.Given as goal

abbrev pub invariant-loop : goal.invariant-loop
invariant-loop g l = record {
  kit : IsKit g.O.Operator.kind_of l.kit;
  runs : (kind : Kind) → g.O.Operator.runs_of (of_kind l.kit kind) ≡ g.O.Operator.runs_of (of_kind l.initial.kit kind);
  refused : (kind : Kind) → g.O.Operator.refused_of (of_kind l.kit kind) ≡ g.O.Operator.refused_of (of_kind l.initial.kit kind);
  taken : (kind : Kind) → g.O.Operator.taken (of_kind l.kit kind) ≡ g.O.Operator.taken (of_kind l.initial.kit kind);
}
