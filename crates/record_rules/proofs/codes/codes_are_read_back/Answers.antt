use Rattle.std.proofs.Common.{◌≡◌, ◌≢◌, refl, Option, Some, None}
use Rattle.trigger_rules.specs.declared.verdicts.Verdict.{Verdict}
use Rattle.trigger_rules.specs.declared.verdicts.Verdict.TheVariants as verdict
use Rattle.sched_laws.specs.sched_model.Tables.{verdict_code}
use Rattle.record_rules.specs.Reading.{verdict_of}
use Rattle.record_rules.proofs.FoundLemmas.{flag_back, kind_back, outcome_back, phase_back}
use Rattle.record_rules.proofs.codes.codes_are_read_back.Goals as goal

pub returns-clause-flag : goal.returns-clause-flag
returns-clause-flag c = flag_back

pub returns-clause-kind : goal.returns-clause-kind
returns-clause-kind c = kind_back

pub returns-clause-phase : goal.returns-clause-phase
returns-clause-phase c = phase_back

decided_back : (v : Option Verdict) → v ≢ Some verdict.Wait → verdict_of (verdict_code v) ≡ v
decided_back None not = refl
decided_back (Some verdict.Wait) not = absurd (not refl)
decided_back (Some verdict.Run) not = refl
decided_back (Some verdict.Skip) not = refl
decided_back (Some verdict.UpstreamFailed) not = refl

pub returns-clause-verdict : goal.returns-clause-verdict
returns-clause-verdict c = decided_back

pub returns-clause-outcome : goal.returns-clause-outcome
returns-clause-outcome c = outcome_back
