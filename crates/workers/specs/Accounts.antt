-- When a log is an account of what a kit did.
use Rattle.std.specs.Prelude.{◌≡◌, Bool, true, false, List, ◌++◌, All, Option, None}
use Rattle.graph_file.specs.declared.operators.Operator.{Operator as Kind}
use Rattle.graph_file.specs.declared.operators.Operator.TheVariants as kinds
use Rattle.instance_machine.specs.declared.tries.Outcome.{Outcome}
use Rattle.instance_machine.specs.declared.tries.Outcome.TheVariants as ends
use Rattle.sched_state.specs.declared.jobs.Job.{Job}
use Rattle.operators.specs.declared.kits.Kit.{Kit}
use Rattle.operators.specs.Kits.{of_kind}
use Rattle.operators.specs.Outcomes.{CanEnd}
use Rattle.workers.specs.declared.logs.Logged.{Logged}
use Rattle.workers.specs.Logs.{runs_of, refused_in, hold_of}
use Rattle.workers.specs.Shows.{Shows}

-- A job may end so, begun or not: it is begun only by an operator that has taken nothing up, and then ends as an operator of its kind ends
-- it; what is not begun failed, and is of `command` where its operator has taken nothing up.
-- restates: this project's own profile
pub record MayEnd {O : Type 0} (taken : O → Option Job) (kit : Kit O) (job : Job) (begun : Bool) (outcome : Outcome) : Type 0 where
  pub ended : begun ≡ true → (taken (of_kind kit job.action.operator) ≡ None) × CanEnd job.action.operator job outcome
  pub failed : begun ≡ false → (outcome ≡ ends.Failed) × (taken (of_kind kit job.action.operator) ≡ None → job.action.operator ≡ kinds.Command)

-- an entry of the log of a kit: its job may have ended so, and the slots that were left are the job's
pub record IsEntry {O : Type 0} (taken : O → Option Job) (kit : Kit O) (e : Logged) : Type 0 where
  pub ended : MayEnd taken kit e.job e.begun e.outcome
  pub left : e.left ≡ hold_of e.job

-- The log is an account of the kit, from what it was before to what it is after: each operator's runs have grown by those of the entries of
-- its kind that were begun, in order; if it had taken nothing up, the jobs that it refused have grown by those that were not begun; what each has taken up
-- is what it had; and each entry is one of this kit.
pub record IsAccount {O : Type 0} (shows : Shows O) (before after : Kit O) (log : List Logged) : Type 0 where
  pub ran : (kind : Kind) → shows.runs_of (of_kind after kind) ≡ shows.runs_of (of_kind before kind) ++ runs_of kind log
  pub refusals : (kind : Kind) → shows.taken (of_kind before kind) ≡ None → shows.refused_of (of_kind after kind) ≡ shows.refused_of (of_kind before kind) ++ refused_in kind log
  pub kept : (kind : Kind) → shows.taken (of_kind after kind) ≡ shows.taken (of_kind before kind)
  pub entries : All (IsEntry shows.taken before) log
