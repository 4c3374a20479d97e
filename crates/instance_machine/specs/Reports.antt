-- What a report does to an instance.
use Rattle.std.specs.Prelude.{◌≡◌, ℕ, ◌==◌, if◌then◌else◌, Option, Some, None, Result, Ok, Err, option_and_then, unwrap_or}
use Rattle.instance_machine.specs.Instances.{InstanceValue, last_of, with_last}
use Rattle.instance_machine.specs.declared.reports.ReportFault.{ReportFault}
use Rattle.instance_machine.specs.declared.reports.ReportFault.TheVariants.{OutOfTurn}
use Rattle.instance_machine.specs.declared.tries.Try.{Try}
use Rattle.instance_machine.specs.declared.tries.End.{End}
use Rattle.instance_machine.specs.declared.tries.Stage.{Stage}
use Rattle.instance_machine.specs.declared.tries.Stage.TheVariants.{Started, Ended}
use Rattle.instance_machine.specs.declared.tries.Outcome.TheVariants.{Lost}

-- an open try after a report: it begins once, and ends after that; none is reported lost
abbrev pub after : Stage → ℕ → Option ℕ → Try → Option Try
after Started now None t = Some (record t { started = Some now })
after Started now (Some begun) t = None
after (Ended o) now None t = None
after (Ended Lost) now (Some begun) t = None
after (Ended o) now (Some begun) t = Some (record t { ended = Some (record { moment = now; outcome = o }) })

-- a try after a report, where it is open
abbrev pub if_open : Option End → Option Try → Option Try
if_open None t = t
if_open (Some e) t = None

abbrev pub report_try : Stage → ℕ → Try → Option Try
report_try stage now t = if_open t.ended (after stage now t.started t)

-- the report is taken in by the last try, or is out of turn and changes nothing
abbrev pub taken : Option Try → InstanceValue → InstanceValue → Result (Unit {0}) ReportFault → Type 0
taken (Some t) old new result = (result ≡ Ok tt) × (new ≡ record old { tries = with_last t old.tries })
taken None old new result = (result ≡ Err OutOfTurn) × (new ≡ old)

abbrev pub reported : Stage → ℕ → InstanceValue → InstanceValue → Result (Unit {0}) ReportFault → Type 0
reported stage now old new result = taken (option_and_then (report_try stage now) (last_of old.tries)) old new result

-- the try with the serial takes a report in, where it is its turn
abbrev pub reported_try : ℕ → Stage → ℕ → Try → Try
reported_try serial stage now t = if t.serial == serial then unwrap_or (report_try stage now t) t else t

-- a try without an end is lost
abbrev pub lost_if : ℕ → Option End → Try → Try
lost_if now None t = record t { ended = Some (record { moment = now; outcome = Lost }) }
lost_if now (Some e) t = t

abbrev pub lost_try : ℕ → Try → Try
lost_try now t = lost_if now t.ended t
