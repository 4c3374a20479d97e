use Rattle.sched_laws.proofs.SaidLemmas.{tasks_counted, edges_counted}
use Rattle.sched_laws.proofs.loading.graphs_have_their_files_numbers.Goals as goal

pub returns : goal.returns
returns c = record { tasks = tasks_counted; edges = edges_counted }
