use Rattle.std.proofs.Common.{subst, inl}
use Rattle.sched_events.specs.Outcomes.{IsStepped}
use Rattle.sched_events.specs.declared.events.Event.TheVariants.{Restart}
use Rattle.sched_model.specs.Schedule.{Schedule}
use Rattle.sched_model.specs.Tables.{tables}
use Rattle.director.proofs.laws.a_record_is_opened_as_it_was_left.Goals as goal

pub returns : goal.returns
returns c a b db lanes given held stored opens =
    subst (λ (x : Schedule). IsStepped x (Restart lanes) b given) (c.tables_have_no_fault.ensures.back a held.said held.sound) (opens (tables a) (inl stored)).stepped
