use Rattle.run_planner.proofs.SpanLemmas.{span_members, span_once, span_rises}
use Rattle.run_planner.proofs.laws.a_span_holds_its_intervals.Goals as goal

pub returns-clause-ticks : goal.returns-clause-ticks
returns-clause-ticks c = span_members

pub returns-clause-once : goal.returns-clause-once
returns-clause-once c = span_once

pub returns-clause-rise : goal.returns-clause-rise
returns-clause-rise c = span_rises
