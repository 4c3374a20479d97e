use Rattle.std.proofs.Common.{◌++◌, codes}
use Rattle.std.proofs.lemmas.Result.{on_ok_weaker}
use Rattle.answer_lines.specs.GraphFaults.{graph_fault_text}
use Rattle.answer_lines.specs.DagFaults.{dag_fault_text}
use Rattle.answer_lines.proofs.AppendLemmas.{appends_both}
use Rattle.answer_lines.proofs.refusals.put_refusal.Goals as goal

pub returns-in_ok-put_graph_fault-in-GraphFault : goal.returns-in_ok-put_graph_fault-in-GraphFault
returns-in_ok-put_graph_fault-in-GraphFault g c =
    rw c.in-GraphFault.is
    (on_ok_weaker c.write_all-in-GraphFault.result (λ h. appends_both _ _ _ (codes "refused 1 GraphFault " ++ graph_fault_text c.in-GraphFault.fault) (codes "\n")
    (appends_both _ _ _ (codes "refused 1 GraphFault ") (graph_fault_text c.in-GraphFault.fault) c.in_ok-write_all-in-GraphFault.ensures.bytes c.in_ok-put_graph_fault-in-GraphFault.ensures) h)
    c.write_all-in-GraphFault.ensures.bytes)

pub returns-in-TooManyGraphs : goal.returns-in-TooManyGraphs
returns-in-TooManyGraphs g c = rw c.in-TooManyGraphs.is c.write_all-in-TooManyGraphs.ensures.bytes

pub returns-in-GraphDiffers : goal.returns-in-GraphDiffers
returns-in-GraphDiffers g c = rw c.in-GraphDiffers.is c.write_all-in-GraphDiffers.ensures.bytes

pub returns-in-UnknownGraph : goal.returns-in-UnknownGraph
returns-in-UnknownGraph g c = rw c.in-UnknownGraph.is c.write_all-in-UnknownGraph.ensures.bytes

pub returns-in-RunExists : goal.returns-in-RunExists
returns-in-RunExists g c = rw c.in-RunExists.is c.write_all-in-RunExists.ensures.bytes

pub returns-in-NoInterval : goal.returns-in-NoInterval
returns-in-NoInterval g c = rw c.in-NoInterval.is c.write_all-in-NoInterval.ensures.bytes

pub returns-in-RecordFull : goal.returns-in-RecordFull
returns-in-RecordFull g c = rw c.in-RecordFull.is c.write_all-in-RecordFull.ensures.bytes

pub returns-in_ok-put_dag_fault-in-DagFault : goal.returns-in_ok-put_dag_fault-in-DagFault
returns-in_ok-put_dag_fault-in-DagFault g c =
    rw c.in-DagFault.is
    (on_ok_weaker c.write_all-in-DagFault-2.result (λ h. appends_both _ _ _ (codes "refused 2 DagFault " ++ dag_fault_text c.in-DagFault.fault) (codes "\n")
    (appends_both _ _ _ (codes "refused 2 DagFault ") (dag_fault_text c.in-DagFault.fault) c.in_ok-write_all-in-DagFault.ensures.bytes c.in_ok-put_dag_fault-in-DagFault.ensures) h)
    c.write_all-in-DagFault-2.ensures.bytes)

pub returns-in-UnknownTask : goal.returns-in-UnknownTask
returns-in-UnknownTask g c = rw c.in-UnknownTask.is c.write_all-in-UnknownTask.ensures.bytes

pub returns-in-BadSpan : goal.returns-in-BadSpan
returns-in-BadSpan g c = rw c.in-BadSpan.is c.write_all-in-BadSpan.ensures.bytes

pub returns-in-UnknownRun : goal.returns-in-UnknownRun
returns-in-UnknownRun g c = rw c.in-UnknownRun.is c.write_all-in-UnknownRun.ensures.bytes

pub returns-in-UnknownPool : goal.returns-in-UnknownPool
returns-in-UnknownPool g c = rw c.in-UnknownPool.is c.put_named.ensures

pub returns-in-ClockBack : goal.returns-in-ClockBack
returns-in-ClockBack g c = rw c.in-ClockBack.is c.put_dated.ensures

pub returns-in-InFlight : goal.returns-in-InFlight
returns-in-InFlight g c = rw c.in-InFlight.is c.put_numbered.ensures

pub returns-in-NotInFlight : goal.returns-in-NotInFlight
returns-in-NotInFlight g c = rw c.in-NotInFlight.is c.put_numbered-in-NotInFlight.ensures

pub returns-in-OutOfTurn : goal.returns-in-OutOfTurn
returns-in-OutOfTurn g c = rw c.in-OutOfTurn.is c.put_numbered-in-OutOfTurn.ensures

pub returns-in-PoolFault : goal.returns-in-PoolFault
returns-in-PoolFault g c = rw c.in-PoolFault.is c.put_pool_fault.ensures

pub returns-in-LanesTooMany : goal.returns-in-LanesTooMany
returns-in-LanesTooMany g c = rw c.in-LanesTooMany.is c.write_all-in-LanesTooMany.ensures.bytes

pub returns-in-OtherTasks : goal.returns-in-OtherTasks
returns-in-OtherTasks g c = rw c.in-OtherTasks.is c.put_named-in-OtherTasks.ensures

pub returns-in-OtherSlots : goal.returns-in-OtherSlots
returns-in-OtherSlots g c = rw c.in-OtherSlots.is c.put_named-in-OtherSlots.ensures

pub returns-in-Redoes : goal.returns-in-Redoes
returns-in-Redoes g c = rw c.in-Redoes.is c.put_dated-in-Redoes.ensures

pub returns-in-Memory : goal.returns-in-Memory
returns-in-Memory g c = rw c.in-Memory.is c.write_all-in-Memory.ensures.bytes
