use Rattle.std.proofs.Common.{◌∙◌, sym}
use Rattle.dag_check.proofs.FaultLemmas.{never-both, one-fault}
use Rattle.dag_check.proofs.FirstLemmas.{faultless, first-stands}
use Rattle.dag_check.proofs.PlacedLemmas.{graph-of-faultless}
use Rattle.dag_check.proofs.laws.a_file_has_one_answer.Goals as goal

pub returns-clause-graph : goal.returns-clause-graph
returns-clause-graph c spec g h a b = a.is ∙ sym b.is

pub returns-clause-fault : goal.returns-clause-fault
returns-clause-fault c = one-fault

pub returns-clause-never_both : goal.returns-clause-never_both
returns-clause-never_both c = never-both

pub returns-clause-faultless : goal.returns-clause-faultless
returns-clause-faultless c = faultless

pub returns-clause-first : goal.returns-clause-first
returns-clause-first c = first-stands

pub returns-clause-graph_is_there : goal.returns-clause-graph_is_there
returns-clause-graph_is_there c = graph-of-faultless
