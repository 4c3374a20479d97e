-- Passing one instance over, and setting back what failed after it.
use Rattle.std.proofs.Common.{◌≡◌, ◌∙◌, refl, sym, ap, subst, inl, inr, ℕ, zero, suc, List, [], ◌∷◌, Bool, true, false, not, Option, None, Some, option_map, Ok, Err, slice_get}
use Rattle.std.specs.List.{list_any}
use Rattle.std.proofs.lemmas.Bool.{or_right}
use Rattle.graph_file.specs.Lists.{first_some, when}
use Rattle.run_lists.specs.Orders.{IsRunAt}
use Rattle.trigger_rules.specs.declared.verdicts.Verdict.TheVariants as verdict
use Rattle.sched_state.specs.declared.clearings.Clearing.{Clearing}
use Rattle.sched_state.specs.declared.runs.Run.{Run}
use Rattle.sched_model.specs.Causes.{is_unknown_graph, is_unknown_task, least_in_flight}
use Rattle.sched_model.specs.Clearing.{Selection, clear, cleared_by, set_named}
use Rattle.sched_model.specs.Marking.{failed_after, one_of}
use Rattle.sched_model.specs.Schedule.{Schedule, has_run_at, is_at}
use Rattle.sched_model.specs.Sound.{IsSound}
use Rattle.sched_laws.proofs.ClearLemmas.{set_named_sound}
use Rattle.sched_clearing.specs.Marking.{IsMarkedAs, IsPassedOver, fault_of, mark_fault}
use Rattle.sched_clearing.specs.Selections.{SelectionParts, IsClear, selection_of}
use Rattle.sched_clearing.specs.declared.marking.MarkFault.{MarkFault}
use Rattle.sched_clearing.specs.declared.marking.MarkFault.TheVariants as fault
use Rattle.sched_clearing.specs.declared.selections.ClearFault.{ClearFault}
use Rattle.sched_clearing.specs.declared.selections.ClearFault.TheVariants as clears

-- ---- the reasons against it
abbrev reasons : Bool → Bool → Option ℕ → Bool → Option MarkFault
reasons unknown none flight there =
    first_some (when unknown fault.UnknownGraph ∷ when none fault.UnknownTask ∷ option_map fault.InFlight flight ∷ when (not there) fault.UnknownRun ∷ [])

by_reasons : (a : Schedule) (c : Clearing) (unknown none : Bool) (flight : Option ℕ) (there : Bool) → is_unknown_graph a c.graph ≡ unknown → is_unknown_task a c ≡ none → least_in_flight a (cleared_by a c) ≡ flight
    → has_run_at a c.graph c.from ≡ there → mark_fault a c ≡ reasons unknown none flight there
by_reasons a c unknown none flight there e f g h =
    ap (λ b. reasons b (is_unknown_task a c) (least_in_flight a (cleared_by a c)) (has_run_at a c.graph c.from)) e
    ∙ (ap (λ b. reasons unknown b (least_in_flight a (cleared_by a c)) (has_run_at a c.graph c.from)) f
    ∙ (ap (λ o. reasons unknown none o (has_run_at a c.graph c.from)) g ∙ ap (reasons unknown none flight) h))

-- it names nothing
pub names_nothing : (a b : Schedule) (c : Clearing) (f : ClearFault) → IsClear a c (Err f) → IsPassedOver a c b (Err (fault_of f))
names_nothing a b c clears.UnknownGraph h = inr (by_reasons a c true (is_unknown_task a c) (least_in_flight a (cleared_by a c)) (has_run_at a c.graph c.from) h refl refl refl)
names_nothing a b c clears.UnknownTask h = inr (by_reasons a c false true (least_in_flight a (cleared_by a c)) (has_run_at a c.graph c.from) h.0 h.1 refl refl)
names_nothing a b c clears.Memory h = inl refl

flight_is : (a : Schedule) (c : Clearing) (n : SelectionParts) (o : Option ℕ) → IsClear a c (Ok n) → o ≡ least_in_flight a (selection_of n) → least_in_flight a (cleared_by a c) ≡ o
flight_is a c n o h e = sym (e ∙ ap (least_in_flight a) h.2)

-- it has a try without an end
pub still_open : (a b : Schedule) (c : Clearing) (n : SelectionParts) (serial : ℕ) → IsClear a c (Ok n) → Some serial ≡ least_in_flight a (selection_of n) → IsPassedOver a c b (Err (fault.InFlight serial))
still_open a b c n serial h e = inr (by_reasons a c false false (Some serial) (has_run_at a c.graph c.from) h.0 h.1 (flight_is a c n (Some serial) h e) refl)

-- there is no run
pub no_run : (a b : Schedule) (c : Clearing) (n : SelectionParts) → IsClear a c (Ok n) → None ≡ least_in_flight a (selection_of n) → has_run_at a c.graph c.from ≡ false → IsPassedOver a c b (Err fault.UnknownRun)
no_run a b c n h e none = inr (by_reasons a c false false None false h.0 h.1 (flight_is a c n None h e) none)

any_at : (p : Run → Bool) (rs : List Run) (n : ℕ) (r : Run) → slice_get rs n ≡ Some r → p r ≡ true → list_any p rs ≡ true
any_at p [] n r e f = absurd (let c : ◌≡◌ {A = Option Run} None (Some r) = e in cc)
any_at p (q ∷ qs) zero r e f =
    let c : ◌≡◌ {A = Option Run} (Some q) (Some r) = e in
    let is : q ≡ r = cc in
    rw (ap p is ∙ f) refl
any_at p (q ∷ qs) (suc n) r e f = or_right (p q) (list_any p qs) (any_at p qs n r e f)

pub run_there : (a : Schedule) (id : List ℕ) (date n : ℕ) → IsRunAt id date a.runs n → has_run_at a id date ≡ true
run_there a id date n h = any_at (is_at id date) a.runs n h.run h.there h.key

-- nothing stands against it
pub passed : (a b : Schedule) (c : Clearing) (n : SelectionParts) → IsClear a c (Ok n) → None ≡ least_in_flight a (selection_of n) → has_run_at a c.graph c.from ≡ true
    → b ≡ set_named (Some verdict.Skip) (selection_of n) a → IsPassedOver a c b (Ok tt)
passed a b c n h e there is = (by_reasons a c false false None true h.0 h.1 (flight_is a c n None h e) there, is ∙ ap (λ (m : Selection). set_named (Some verdict.Skip) m a) h.2)

-- ---- what is set back after it
no_flight : (o : Option ℕ) (u n h : Bool) → reasons u n o h ≡ None → o ≡ None
no_flight None u n h e = refl
no_flight (Some s) true n h e = absurd (let c : ◌≡◌ {A = Option MarkFault} (Some fault.UnknownGraph) None = e in cc)
no_flight (Some s) false true h e = absurd (let c : ◌≡◌ {A = Option MarkFault} (Some fault.UnknownTask) None = e in cc)
no_flight (Some s) false false h e = absurd (let c : ◌≡◌ {A = Option MarkFault} (Some (fault.InFlight s)) None = e in cc)

pub passed_sound : (a b : Schedule) (c : Clearing) → IsPassedOver a c b (Ok tt) → IsSound a → IsSound b
passed_sound a b c h s =
    let over : least_in_flight a (cleared_by a c) ≡ None = no_flight _ (is_unknown_graph a c.graph) (is_unknown_task a c) (has_run_at a c.graph c.from) h.0 in
    subst IsSound (sym h.1) (set_named_sound (Some verdict.Skip) refl (cleared_by a c) a over s)

pub refused_as : (a b d : Schedule) (id : List ℕ) (date : ℕ) (task : List ℕ) (c : Clearing) (f : MarkFault) → c ≡ one_of id date task → IsPassedOver a c b (Err f) → IsMarkedAs a id date task d (Err f)
refused_as a b d id date task c f is (inl memory) = inl memory
refused_as a b d id date task c f is (inr e) = inr (ap (mark_fault a) (sym is) ∙ e)

pub marked_as : (a b d : Schedule) (id : List ℕ) (date : ℕ) (task : List ℕ) (c after : Clearing) → c ≡ one_of id date task → after ≡ record c { downstream = true; only_failed = true } → IsPassedOver a c b (Ok tt)
    → d ≡ clear (cleared_by b after) b → IsMarkedAs a id date task d (Ok tt)
marked_as a b d id date task c after is then h back =
    let one : b ≡ set_named (Some verdict.Skip) (cleared_by a (one_of id date task)) a = h.1 ∙ ap (λ (k : Clearing). set_named (Some verdict.Skip) (cleared_by a k) a) is in
    let next : after ≡ failed_after id date task = then ∙ ap (λ (k : Clearing). record k { downstream = true; only_failed = true }) is in
    (ap (mark_fault a) (sym is) ∙ h.0, back ∙ (ap (λ (k : Clearing). clear (cleared_by b k) b) next ∙ ap (λ (x : Schedule). clear (cleared_by x (failed_after id date task)) x) one))
