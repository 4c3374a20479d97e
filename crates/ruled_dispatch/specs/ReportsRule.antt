-- The rule of the queue of reports: what each worker told is what was heard of it and then what the queue holds of it, in order.
use Rattle.std.specs.Prelude.{◌≡◌, ℕ, ◌<◌, ◌≤◌, ◌==◌, true, false, List, [], ◌++◌, map, filter, All}
use mathlib.Core.Option.{Option, some, none}
use lib.ListN.{get_elem?}
use Rattle.ruled_dispatch.specs.declared.items.Report.{Report}
use Rattle.ruled_dispatch.specs.declared.items.WorkerReport.{WorkerReport}
use Rattle.ruled_dispatch.specs.declared.reports_rule.NumberedReports.{NumberedReports}
use Rattle.ruled_dispatch.specs.declared.reports_rule.ReportActivity.{ReportActivity}

-- the one pass that hears
abbrev pub hearer : List WorkerReport → ℕ → List NumberedReports → ReportActivity
hearer heard made returned = record { hears = true; heard = heard; made = made; returned = returned; tells = false; number = 0; told = [] }

-- a pass that tells under a number
abbrev pub teller : ℕ → List Report → ReportActivity
teller number told = record { hears = false; heard = []; made = 0; returned = []; tells = true; number = number; told = told }

-- what a pass that tells has told, under its number
abbrev pub told_under : ReportActivity → NumberedReports
told_under v = record { number = v.number; told = v.told }

-- a pass that was taken back
abbrev pub idle : ReportActivity
idle = record { hears = false; heard = []; made = 0; returned = []; tells = false; number = 0; told = [] }

-- what these reports have of the worker with this number, in their order
abbrev pub told_by : ℕ → List WorkerReport → List Report
told_by number reports = map (λ r. r.report) (filter (λ r. r.worker == number) reports)

-- a pass that tells is the only one with its number, and its list is what was told under that number
abbrev pub TellsAlone : (ℕ → Option ℕ) → (ℕ → List Report) → ℕ → ReportActivity → Type 0
TellsAlone pass_of told pass v = v.tells ≡ true → (pass_of v.number ≡ some pass) × (v.told ≡ told v.number)

-- the pass that hears is the only one, and its list is what was heard
abbrev pub HearsAlone : ℕ → List WorkerReport → ℕ → ReportActivity → Type 0
HearsAlone hearing heard pass v = v.hears ≡ true → (pass ≡ hearing) × (v.heard ≡ heard)

-- the pass that hears knows that numbers not given yet have no pass and nothing was told under them, and what was told under the
-- numbers whose passes are back
abbrev pub KnowsNumbers : (ℕ → Option ℕ) → (ℕ → List Report) → ReportActivity → Type 0
KnowsNumbers pass_of told v =
    v.hears ≡ true
    → ((k : ℕ) → v.made ≤ k → (pass_of k ≡ none) × (told k ≡ []))
    × All (λ r. (r.number < v.made) × (pass_of r.number ≡ none) × (r.told ≡ told r.number)) v.returned

-- a pass agrees with which pass hears, which pass each number has, what was told under each, and what was heard
abbrev pub AgreesWith : ℕ → (ℕ → Option ℕ) → (ℕ → List Report) → List WorkerReport → ℕ → ReportActivity → Type 0
AgreesWith hearing pass_of told heard pass v =
    TellsAlone pass_of told pass v × HearsAlone hearing heard pass v × KnowsNumbers pass_of told v

-- the rule, of what the queue holds and of what each pass has done: what was told under each number is what was heard of it and then
-- what the queue holds of it, and all passes agree
abbrev pub IsInOrder : List WorkerReport → List ReportActivity → Type 0
IsInOrder items views =
    (hearing : ℕ) × (pass_of : ℕ → Option ℕ) × (told : ℕ → List Report) × (heard : List WorkerReport)
    × ((k : ℕ) → told k ≡ told_by k heard ++ told_by k items)
    × ((pass : ℕ) (v : ReportActivity) → get_elem? views pass ≡ some v → AgreesWith hearing pass_of told heard pass v)

-- what was told under each number whose pass is back is what was heard of it and then what is left of it; of a number that was not
-- given nothing was heard, and nothing is left
abbrev pub TellsOfAll : ReportActivity → List WorkerReport → Type 0
TellsOfAll v left =
    All (λ r. r.told ≡ told_by r.number v.heard ++ told_by r.number left) v.returned
    × ((k : ℕ) → v.made ≤ k → (told_by k v.heard ≡ []) × (told_by k left ≡ []))
