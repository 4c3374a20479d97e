-- The rule of the queue of jobs: what was sent is what was taken and what the queue holds, however the items are weighed.
use Rattle.std.specs.Prelude.{◌≡◌, ℕ, ◌+◌, ◌≤◌, List, [], ◌++◌, sum_by}
use mathlib.Core.Option.{some}
use lib.ListN.{get_elem?}
use Rattle.ruled_dispatch.specs.declared.items.JobOrStop.{JobOrStop}
use Rattle.ruled_dispatch.specs.declared.jobs_rule.JobActivity.{JobActivity}

-- what a pass has done: its parts, whether it may send, what it sent and took
abbrev pub activity : ℕ → ℕ → List JobOrStop → List JobOrStop → JobActivity
activity parts senders sent taken = record { parts = parts; senders = senders; sent = sent; taken = taken }

-- what two passes did together
abbrev pub joined : JobActivity → JobActivity → JobActivity
joined v w = activity (v.parts + w.parts) (v.senders + w.senders) (v.sent ++ w.sent) (v.taken ++ w.taken)

-- the parts of all passes: one for each of 16 workers, and one for the director
abbrev pub all_parts : ℕ
all_parts = 17

-- whatever each item weighs, what was sent weighs as much as what was taken and what the queue holds together
abbrev pub WeighAlike : List JobOrStop → List JobActivity → Type 0
WeighAlike items views =
    (weight : JobOrStop → ℕ)
    → sum_by (λ v. sum_by weight v.sent) views ≡ sum_by (λ v. sum_by weight v.taken) views + sum_by weight items

-- a pass that may not send has sent nothing, and a pass without a part has taken nothing
abbrev pub OnlyTheirOwn : List JobActivity → Type 0
OnlyTheirOwn views =
    (pass : ℕ) (v : JobActivity)
    → get_elem? views pass ≡ some v
    → (v.senders ≡ 0 → v.sent ≡ []) × (v.parts ≡ 0 → v.taken ≡ [])

-- the rule, of what the queue holds and of what each pass has done
abbrev pub IsBalanced : List JobOrStop → List JobActivity → Type 0
IsBalanced items views =
    (sum_by (λ v. v.parts) views ≡ all_parts)
    × (sum_by (λ v. v.senders) views ≡ 1)
    × WeighAlike items views
    × OnlyTheirOwn views

-- each of the items stands among the others, as often at least
abbrev pub AreAmong : List JobOrStop → List JobOrStop → Type 0
AreAmong items others = (weight : JobOrStop → ℕ) → sum_by weight items ≤ sum_by weight others

-- each item was sent as often as it was taken or is left
abbrev pub AccountsFor : JobActivity → List JobOrStop → Type 0
AccountsFor v left =
    (weight : JobOrStop → ℕ) → sum_by weight v.sent ≡ sum_by weight v.taken + sum_by weight left
