use Rattle.std.proofs.Common.{rules, arith, ◌≡◌, ◌+◌, ◌<◌, length, map, take, get_or, if◌then◌else◌}
use Rattle.graph_file.specs.declared.operators.Operator.{Operator as Kind}
use Rattle.graph_file.specs.declared.operators.Operator.TheVariants as kinds
use Rattle.operators.specs.Kits.{times}
use Rattle.operators.specs.Kits.{same_kind}
use Rattle.operators.proofs.Times.{times_next}
use Rattle.operators.proofs.kits.are_each_once.Goals as goal
use Rattle.operators.proofs.kits.are_each_once.Goals.{in-Noop, in-Command, in-Exit}

pub loop-operator-preserved : goal.loop-operator-preserved
loop-operator-preserved g c =
    let f = g.O.Operator.kind_of in
    let xs = c.args.operators.now in
    let i = c.loop-operator.operator-index in
    let item = c.operator-item.result in
    let at : get_or xs i item ≡ item = search rules in
    let lt : i < length xs = search rules in
    let was = c.loop-operator.invariant in
    elim c.match-kind.branch [
      | in-Noop w ↦
          let is : f (get_or xs i item) ≡ kinds.Noop = search rules in
          let next : (k : Kind) → times k (map f (take (i + 1) xs)) ≡ times k (map f (take i xs)) + (if same_kind k kinds.Noop then 1 else 0) = times_next f xs i item kinds.Noop lt is in
          let n : times kinds.Noop (map f (take (i + 1) xs)) ≡ times kinds.Noop (map f (take i xs)) + 1 = next kinds.Noop in
          let o : times kinds.Command (map f (take (i + 1) xs)) ≡ times kinds.Command (map f (take i xs)) + 0 = next kinds.Command in
          let e : times kinds.Exit (map f (take (i + 1) xs)) ≡ times kinds.Exit (map f (take i xs)) + 0 = next kinds.Exit in
          record { noops = omega arith; commands = omega arith; exits = omega arith; few = (omega arith, omega arith, omega arith) }
      | in-Command w ↦
          let is : f (get_or xs i item) ≡ kinds.Command = search rules in
          let next : (k : Kind) → times k (map f (take (i + 1) xs)) ≡ times k (map f (take i xs)) + (if same_kind k kinds.Command then 1 else 0) = times_next f xs i item kinds.Command lt is in
          let n : times kinds.Noop (map f (take (i + 1) xs)) ≡ times kinds.Noop (map f (take i xs)) + 0 = next kinds.Noop in
          let o : times kinds.Command (map f (take (i + 1) xs)) ≡ times kinds.Command (map f (take i xs)) + 1 = next kinds.Command in
          let e : times kinds.Exit (map f (take (i + 1) xs)) ≡ times kinds.Exit (map f (take i xs)) + 0 = next kinds.Exit in
          record { noops = omega arith; commands = omega arith; exits = omega arith; few = (omega arith, omega arith, omega arith) }
      | in-Exit w ↦
          let is : f (get_or xs i item) ≡ kinds.Exit = search rules in
          let next : (k : Kind) → times k (map f (take (i + 1) xs)) ≡ times k (map f (take i xs)) + (if same_kind k kinds.Exit then 1 else 0) = times_next f xs i item kinds.Exit lt is in
          let n : times kinds.Noop (map f (take (i + 1) xs)) ≡ times kinds.Noop (map f (take i xs)) + 0 = next kinds.Noop in
          let o : times kinds.Command (map f (take (i + 1) xs)) ≡ times kinds.Command (map f (take i xs)) + 0 = next kinds.Command in
          let e : times kinds.Exit (map f (take (i + 1) xs)) ≡ times kinds.Exit (map f (take i xs)) + 1 = next kinds.Exit in
          record { noops = omega arith; commands = omega arith; exits = omega arith; few = (omega arith, omega arith, omega arith) }
    ]
