-- What a later tick wants of the intervals that had ended by a moment is wanted at that moment.
use Rattle.std.proofs.Common.{◌≡◌, ◌∙◌, ℕ, ◌<◌, ◌≤◌, Bool, true, false, not, List, [], ◌∷◌, inl, inr, refl, sym, ap, subst, arith, nat_lt}
use Rattle.std.proofs.lemmas.Bool.{ltb-true, and_parts, false≢true}
use Rattle.std.specs.List.{list_all, Contains}
use Rattle.moment_core.specs.Moments.{seconds_end}
use Rattle.cron_timetable.specs.declared.timetables.Interval.{Interval}
use Rattle.graph_file.specs.declared.graph_specs.GraphSpec.{GraphSpec}
use Rattle.run_planner.specs.Anew.{wanted_anew}
use Rattle.run_planner.specs.Due.{due_intervals, last_alone, considered, wanted_intervals, starts_rise}
use Rattle.run_planner.specs.Index.{has_date}
use Rattle.run_planner.specs.Spans.{starts}
use Rattle.run_planner.proofs.DueLemmas.{due_sound, due_complete}
use Rattle.run_planner.proofs.LatestLemmas.{last_of}
use Rattle.run_planner.proofs.MemberLemmas.{contains_head, contains_tail, contains_cases, contains_none, filter_has, filter_from}
use Rattle.run_planner.proofs.RiseLemmas.{due_rise}

-- ---- the last of a list
last_within : (is : List Interval) (i : Interval) → Contains (last_alone is) i → Contains is i
last_within [] i h = h
last_within (x ∷ []) i h = h
last_within (x ∷ y ∷ is) i h = contains_tail x (y ∷ is) i (last_within (y ∷ is) i h)

-- none starts after it
last_latest : (is : List Interval) (i j : Interval) → starts_rise is ≡ true → Contains (last_alone is) i → Contains is j → j.start ≤ i.start
last_latest [] i j rises h g = absurd (contains_none j g)
last_latest (x ∷ []) i j rises h g = elim (contains_cases x [] i h) [
  | inl same ↦ elim (contains_cases x [] j g) [
    | inl is ↦ let e : j.start ≡ i.start = ap (λ (k : Interval). k.start) (sym is ∙ same) in omega arith
    | inr later ↦ absurd (contains_none j later)
  ]
  | inr later ↦ absurd (contains_none i later)
]
last_latest (x ∷ y ∷ is) i j rises h g =
    let above = (and_parts (list_all (λ (k : Interval). nat_lt x.start k.start) (y ∷ is)) _ rises).0 in
    let rest = (and_parts (list_all (λ (k : Interval). nat_lt x.start k.start) (y ∷ is)) _ rises).1 in
    elim (contains_cases x (y ∷ is) j g) [
      | inl same ↦
          let before : x.start < y.start = ltb-true x.start y.start (and_parts (nat_lt x.start y.start) _ above).0 in
          let after : y.start ≤ i.start = last_latest (y ∷ is) i y rest h (contains_head y is) in
          let starts : x.start ≡ j.start = ap (λ (k : Interval). k.start) same in
          omega arith
      | inr later ↦ last_latest (y ∷ is) i j rest h later
    ]

-- ---- what is considered
-- what is due at a later moment and had ended by then is due
due_sooner : (g : GraphSpec) (m t : ℕ) (i : Interval) → t < seconds_end → i.end ≤ m → Contains (due_intervals g.schedule g.start_date g.end_date t) i → Contains (due_intervals g.schedule g.start_date g.end_date m) i
due_sooner g m t i range ended h =
    let due = due_sound g.schedule g.start_date t g.end_date i range h in
    due_complete g.schedule g.start_date m g.end_date i (record { interval = due.interval; from = due.from; up_to = due.up_to; ended = ended })

due_later : (g : GraphSpec) (m t : ℕ) (i : Interval) → m ≤ t → t < seconds_end → Contains (due_intervals g.schedule g.start_date g.end_date m) i → Contains (due_intervals g.schedule g.start_date g.end_date t) i
due_later g m t i later range h =
    let due = due_sound g.schedule g.start_date m g.end_date i (omega arith) h in
    due_complete g.schedule g.start_date t g.end_date i (record { interval = due.interval; from = due.from; up_to = due.up_to; ended = omega (arith, due.ended) })

considered_sooner : (g : GraphSpec) (m t : ℕ) (i : Interval) (catchup : Bool) → m ≤ t → t < seconds_end → i.end ≤ m → Contains (considered catchup (due_intervals g.schedule g.start_date g.end_date t)) i
    → Contains (considered catchup (due_intervals g.schedule g.start_date g.end_date m)) i
considered_sooner g m t i true later range ended h = due_sooner g m t i range ended h
considered_sooner g m t i false later range ended h =
    let now : List Interval = due_intervals g.schedule g.start_date g.end_date m in
    let then : List Interval = due_intervals g.schedule g.start_date g.end_date t in
    let alone : last_alone now ≡ i ∷ [] =
    last_of now i (due_rise g.schedule g.start_date g.end_date m) (due_sooner g m t i range ended (last_within then i h))
    (λ j k. last_latest then i j (due_rise g.schedule g.start_date g.end_date t) h (due_later g m t j later range k)) in
    subst (λ (is : List Interval). Contains is i) (sym alone) (contains_head i [])

-- ---- what is wanted
-- a date that is not there later was not there
was_free : (dates later : List ℕ) (d : ℕ) → ((e : ℕ) → has_date dates e ≡ true → has_date later e ≡ true) → not (has_date later d) ≡ true → not (has_date dates d) ≡ true
was_free dates later d more free = elim (has_date dates d) as (λ b. has_date dates d ≡ b → not b ≡ true) [
  | true ↦ λ e. absurd (false≢true (ap not (sym (more d e)) ∙ free))
  | false ↦ λ e. refl
] refl

-- what cannot be false is true
is_true : (b : Bool) → (not b ≡ true → ⊥) → b ≡ true
is_true true none = refl
is_true false none = absurd (none refl)

pub none_anew_later : (old new : GraphSpec) (m t : ℕ) (dates later : List ℕ) (i : Interval) → m ≤ t → t < seconds_end → wanted_anew old new m dates ≡ [] → ((d : ℕ) → has_date dates d ≡ true → has_date later d ≡ true)
    → Contains (wanted_intervals new t later) i → i.end ≤ m → has_date (starts (wanted_intervals old m dates)) i.start ≡ true
none_anew_later old new m t dates later i after range none more h ended =
    let owed : List ℕ = starts (wanted_intervals old m dates) in
    let then = filter_from (λ (j : Interval). not (has_date later j.start)) (considered new.catchup (due_intervals new.schedule new.start_date new.end_date t)) i h in
    let wanted : Contains (wanted_intervals new m dates) i =
    filter_has (λ (j : Interval). not (has_date dates j.start)) (considered new.catchup (due_intervals new.schedule new.start_date new.end_date m)) i
    (considered_sooner new m t i new.catchup after range ended then.0) (was_free dates later i.start more then.1) in
    let anew : Interval → Bool = λ (j : Interval). not (has_date owed j.start) in
    is_true (has_date owed i.start) (λ e. contains_none i (subst (λ (is : List Interval). Contains is i) none (filter_has anew (wanted_intervals new m dates) i wanted e)))
