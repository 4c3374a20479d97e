-- Sound runs stay so, with their keys and serials, when moves are made.
use Rattle.std.proofs.Common.{◌≡◌, refl, sym, ap, subst, ◌∙◌, ℕ, List, [], ◌∷◌, ◌++◌, Bool, true, false, cond, not, ◌&&◌, ◌||◌, ◌⊎◌, inl, inr, flat_map, map, Option, Some, None, option_map, slice_get, true≢false, is_some, nat_le, nat_lt}
use Rattle.std.specs.List.{list_all}
use Rattle.std.specs.Ordering.{nat_cmp, ordering_then}
use Rattle.std.specs.declared.cmp.Ordering.{Ordering}
use Rattle.graph_file.specs.Lists.{first_some}
use Rattle.graph_file.specs.declared.task_specs.TaskSpec.{TaskSpec}
use Rattle.sched_model.specs.trigger_rules.States.{is_finished}
use Rattle.sched_model.specs.trigger_rules.declared.verdicts.Verdict.{Verdict}
use Rattle.sched_model.specs.trigger_rules.declared.verdicts.Verdict.TheVariants as verdict
use Rattle.sched_model.specs.instance_machine.Instances.{InstanceValue}
use Rattle.sched_model.specs.instance_machine.States.{state_of}
use Rattle.sched_model.specs.instance_machine.declared.tries.Try.{Try}
use Rattle.sched_model.specs.sched_state.Lists.{name_cmp, is_less, change_from, first_change}
use Rattle.sched_model.specs.sched_state.declared.graphs.LoadedGraph.{LoadedGraph}
use Rattle.sched_model.specs.sched_state.declared.runs.RunPhase.{RunPhase}
use Rattle.sched_model.specs.sched_state.declared.runs.RunPhase.TheVariants as phase
use Rattle.sched_model.proofs.sched_state.OrderLemmas.{and_left, and_right, all_map}
use Rattle.sched_model.specs.Lists.{all_pairs, zip_with, rises}
use Rattle.sched_model.specs.Schedule.{Schedule, graph_among, dag_among, tasks_of, is_running, is_ended}
use Rattle.sched_model.specs.sched_state.declared.runs.Run.{Run}
use Rattle.sched_model.specs.Settle.{decides, decided_verdict, decide_task, decide_instance, decide_run, has_bad_leaf, finish_run, start_run, move_runs}
use Rattle.sched_model.specs.Sound.{is_sound_instance, is_sound_in, is_sound_run, is_moment, is_wait, tries_rise, all_tries_rise, serials_of}
use Rattle.sched_model.specs.NamedRuns.{NamedRun}
use Rattle.sched_laws.specs.Runs.{named_as}
use Rattle.sched_laws.proofs.ListLemmas.{change_all, change_keeps, pairs_change, pairs_impl}
use Rattle.sched_laws.proofs.InstanceLemmas.{decided_sound}
use Rattle.sched_laws.proofs.SettleLemmas.{map_some, and_then_some, when_some}
use Rattle.std.proofs.lemmas.Bool.{and_from}

-- ---- keys and serials
-- a run's key, with what else stays of it
abbrev pub Key : Type 0
Key = NamedRun

abbrev pub key : Run → Key
key r = named_as r

abbrev pub key_cmp : Key → Key → Ordering
key_cmp k m = ordering_then (name_cmp k.graph m.graph) (nat_cmp k.logical m.logical)

abbrev pub key_before : Key → Key → Bool
key_before k m = is_less (key_cmp k m)

pub rises_map : {X Y : Type 0} (before : X → X → Bool) (f : Y → X) (ys : List Y) → rises before (map f ys) ≡ rises (λ x y. before (f x) (f y)) ys
rises_map before f [] = refl
rises_map before f (y ∷ ys) = rw (all_map (λ z. before (f y) (f z)) (before (f y)) f (λ z. refl) ys, rises_map before f ys) refl

abbrev pub serials_in : InstanceValue → List ℕ
serials_in i = map (λ (t : Try). t.serial) i.tries

abbrev pub run_serials : Run → List ℕ
run_serials r = flat_map serials_in r.instances

abbrev pub listed : List Run → List ℕ
listed rs = flat_map run_serials rs

-- the serials of each instance, and the tries
abbrev pub serial_lists : Run → List (List ℕ)
serial_lists r = map serials_in r.instances

abbrev pub try_lists : Run → List (List Try)
try_lists r = map (λ (i : InstanceValue). i.tries) r.instances

pub map_append : {X Y : Type 0} (f : X → Y) (xs ys : List X) → map f (xs ++ ys) ≡ map f xs ++ map f ys
map_append f [] ys = refl
map_append f (x ∷ xs) ys = ap (λ zs. f x ∷ zs) (map_append f xs ys)

pub map_flat : {X Y Z : Type 0} (g : Y → Z) (f : X → List Y) (xs : List X) → map g (flat_map f xs) ≡ flat_map (λ x. map g (f x)) xs
map_flat g f [] = refl
map_flat g f (x ∷ xs) = map_append g (f x) (flat_map f xs) ∙ ap (λ zs. map g (f x) ++ zs) (map_flat g f xs)

flat_same : {X Y : Type 0} (f g : X → List Y) → ((x : X) → f x ≡ g x) → (xs : List X) → flat_map f xs ≡ flat_map g xs
flat_same f g h [] = refl
flat_same f g h (x ∷ xs) = rw (h x, flat_same f g h xs) refl

flat_of_map : {X Y Z : Type 0} (f : Y → List Z) (g : X → Y) (xs : List X) → flat_map f (map g xs) ≡ flat_map (λ x. f (g x)) xs
flat_of_map f g [] = refl
flat_of_map f g (x ∷ xs) = ap (λ zs. f (g x) ++ zs) (flat_of_map f g xs)

pub flat_by : {X Y : Type 0} (f : X → List Y) (xs ys : List X) → map f xs ≡ map f ys → flat_map f xs ≡ flat_map f ys
flat_by f xs ys e = sym (flat_of_map (λ zs. zs) f xs) ∙ ap (flat_map (λ zs. zs)) e ∙ flat_of_map (λ zs. zs) f ys

pub serials_listed : (a : Schedule) → serials_of a ≡ listed a.runs
serials_listed a =
    map_flat (λ (t : Try). t.serial) (λ (r : Run). flat_map (λ (i : InstanceValue). i.tries) r.instances) a.runs
    ∙ flat_same (λ (r : Run). map (λ (t : Try). t.serial) (flat_map (λ (i : InstanceValue). i.tries) r.instances)) run_serials
    (λ r. map_flat (λ (t : Try). t.serial) (λ (i : InstanceValue). i.tries) r.instances) a.runs

map_map : {X Y Z : Type 0} (g : Y → Z) (f : X → Y) (xs : List X) → map g (map f xs) ≡ map (λ x. g (f x)) xs
map_map g f [] = refl
map_map g f (x ∷ xs) = ap (λ zs. g (f x) ∷ zs) (map_map g f xs)

map_same : {X Y : Type 0} (f g : X → Y) → ((x : X) → f x ≡ g x) → (xs : List X) → map f xs ≡ map g xs
map_same f g h [] = refl
map_same f g h (x ∷ xs) = rw (h x, map_same f g h xs) refl

-- where the serials of each instance stay, those of all stay
pub listed_same : (rs qs : List Run) → map serial_lists qs ≡ map serial_lists rs → listed qs ≡ listed rs
listed_same rs qs e = flat_by run_serials qs rs (by_lists qs ∙ ap (map (flat_map (λ (zs : List ℕ). zs))) e ∙ sym (by_lists rs))
  where
    by_lists : (ps : List Run) → map run_serials ps ≡ map (flat_map (λ (zs : List ℕ). zs)) (map serial_lists ps)
    by_lists ps = map_same run_serials (λ r. flat_map (λ (zs : List ℕ). zs) (serial_lists r)) (λ r. sym (flat_of_map (λ zs. zs) serials_in r.instances)) ps ∙ sym (map_map (flat_map (λ (zs : List ℕ). zs)) serial_lists ps)

-- and where their tries stay
pub serials_of_tries : (rs qs : List Run) → map try_lists qs ≡ map try_lists rs → map serial_lists qs ≡ map serial_lists rs
serials_of_tries rs qs e = by_tries qs ∙ ap (map (map (map (λ (t : Try). t.serial)))) e ∙ sym (by_tries rs)
  where
    by_tries : (ps : List Run) → map serial_lists ps ≡ map (map (map (λ (t : Try). t.serial))) (map try_lists ps)
    by_tries ps = map_same serial_lists (λ r. map (map (λ (t : Try). t.serial)) (try_lists r)) (λ r. sym (map_map (map (λ (t : Try). t.serial)) (λ (i : InstanceValue). i.tries) r.instances)) ps
        ∙ sym (map_map (map (map (λ (t : Try). t.serial))) try_lists ps)

-- tries rise where their serials do
instance_rises : (i : InstanceValue) → tries_rise i ≡ rises nat_lt (serials_in i)
instance_rises i = sym (rises_map nat_lt (λ (t : Try). t.serial) i.tries)

run_rises : (r : Run) → all_tries_rise r ≡ list_all (rises nat_lt) (serial_lists r)
run_rises r = sym (all_map tries_rise (rises nat_lt) serials_in (λ i. sym (instance_rises i)) r.instances)

pub rise_same : (rs qs : List Run) → map serial_lists qs ≡ map serial_lists rs → list_all all_tries_rise rs ≡ true → list_all all_tries_rise qs ≡ true
rise_same rs qs e h = all_rise qs ∙ ap (list_all (list_all (rises nat_lt))) e ∙ sym (all_rise rs) ∙ h
  where
    all_rise : (ps : List Run) → list_all all_tries_rise ps ≡ list_all (list_all (rises nat_lt)) (map serial_lists ps)
    all_rise ps = sym (all_map all_tries_rise (list_all (rises nat_lt)) serial_lists (λ r. sym (run_rises r)) ps)

-- ---- one run after another
-- q stands in the place of r: the key and the tries are the same, and it is sound where r is
pub record Kin (gs : List LoadedGraph) (r q : Run) : Type 0 where
  pub key : key q ≡ key r
  pub tries : try_lists q ≡ try_lists r
  pub sound : is_sound_run gs r ≡ true → is_sound_run gs q ≡ true

-- the same of lists
pub record KinAll (gs : List LoadedGraph) (rs qs : List Run) : Type 0 where
  pub keys : map key qs ≡ map key rs
  pub tries : map try_lists qs ≡ map try_lists rs
  pub sound : list_all (is_sound_run gs) rs ≡ true → list_all (is_sound_run gs) qs ≡ true

pub change_kin : (gs : List LoadedGraph) (f : ℕ → Run → Option Run) → ((i : ℕ) (r q : Run) → f i r ≡ Some q → Kin gs r q) → (rs qs : List Run) → change_from f 0 rs ≡ Some qs → KinAll gs rs qs
change_kin gs f h rs qs e = record {
  keys = change_keeps key f (λ i r q p. let k = h i r q p in k.key) 0 rs qs e;
  tries = change_keeps try_lists f (λ i r q p. let k = h i r q p in k.tries) 0 rs qs e;
  sound = λ s. change_all (is_sound_run gs) f (λ i r q p. let k = h i r q p in k.sound) 0 rs qs e s;
}

-- a run with other instances, in another phase
pub paired_sound : (gs : List LoadedGraph) (r : Run) (ph : RunPhase) (is : List InstanceValue) → is_sound_run gs r ≡ true → all_pairs (is_sound_in ph) (dag_among gs r.graph).tasks is ≡ true
    → is_sound_run gs (record r { phase = ph; instances = is }) ≡ true
paired_sound gs r ph is e p =
    let e1 = and_right (is_some (graph_among gs r.graph)) _ e in
    and_from _ _ (and_left _ _ e) (and_from _ _ (and_left _ _ e1) p)

pub pairs_of_run : (gs : List LoadedGraph) (r : Run) → is_sound_run gs r ≡ true → all_pairs (is_sound_in r.phase) (dag_among gs r.graph).tasks r.instances ≡ true
pairs_of_run gs r e = and_right (is_moment r.logical && (is_moment r.interval.end && nat_le r.interval.start r.interval.end)) _ (and_right (is_some (graph_among gs r.graph)) _ e)

-- ---- decisions
decides_some : (b : Bool) (w v : Verdict) → decides b w ≡ Some v → is_wait (Some v) ≡ false
decides_some b verdict.Wait v e = absurd (let c : ◌≡◌ {A = Option Verdict} None (Some v) = e in cc)
decides_some true verdict.Run v e = let c : ◌≡◌ {A = Option Verdict} (Some verdict.Run) (Some v) = e in let r : verdict.Run ≡ v = cc in ap (λ x. is_wait (Some x)) (sym r)
decides_some false verdict.Run v e = absurd (let c : ◌≡◌ {A = Option Verdict} None (Some v) = e in cc)
decides_some b verdict.Skip v e = let c : ◌≡◌ {A = Option Verdict} (Some verdict.Skip) (Some v) = e in let r : verdict.Skip ≡ v = cc in ap (λ x. is_wait (Some x)) (sym r)
decides_some b verdict.UpstreamFailed v e = let c : ◌≡◌ {A = Option Verdict} (Some verdict.UpstreamFailed) (Some v) = e in let r : verdict.UpstreamFailed ≡ v = cc in ap (λ x. is_wait (Some x)) (sym r)

abbrev made_of : Option Verdict → ℕ → List Try → InstanceValue
made_of v s ts = record { verdict = v; since = s; tries = ts }

-- what is decided is an undecided instance with a verdict
record Decided (i j : InstanceValue) : Type 0 where
  tries : j.tries ≡ i.tries
  sound : (t : TaskSpec) → is_sound_instance t i ≡ true → is_sound_instance t j ≡ true

decided_by : (a : Schedule) (r : Run) (p : ℕ) (v : Option Verdict) (s : ℕ) (ts : List Try) (j : InstanceValue) → decide_instance a r p (made_of v s ts) ≡ Some j → Decided (made_of v s ts) j
decided_by a r p (Some v) s ts j e = absurd (let n : ◌≡◌ {A = Option InstanceValue} None (Some j) = e in cc)
decided_by a r p None s ts j e =
    let t = and_then_some (decide_task a r p (made_of None s ts)) (slice_get (tasks_of a r) p) j e in
    let u = map_some (λ w. made_of (Some w) s ts) (decided_verdict a r p t.0) j t.2 in
    let w : is_wait (Some u.0) ≡ false = decides_some _ _ u.0 u.1 in
    record {
      tries = ap (λ (x : InstanceValue). x.tries) (sym u.2);
      sound = λ k h. subst (λ (x : InstanceValue). is_sound_instance k x ≡ true) u.2 (decided_sound k s ts u.0 w h);
    }

decided_instance : (a : Schedule) (r : Run) (p : ℕ) (i j : InstanceValue) → decide_instance a r p i ≡ Some j → Decided i j
decided_instance a r p i j e = decided_by a r p i.verdict i.since i.tries j e

pub running_goes_on : (ph : RunPhase) → is_running ph ≡ true → is_ended ph ≡ false
running_goes_on phase.Queued e = absurd (true≢false (sym e))
running_goes_on phase.Running e = refl
running_goes_on phase.Success e = absurd (true≢false (sym e))
running_goes_on phase.Failed e = absurd (true≢false (sym e))

-- in a run that goes on an instance is sound by itself
pub goes_on : (ph : RunPhase) (t : TaskSpec) (i : InstanceValue) → is_ended ph ≡ false → is_sound_instance t i ≡ true → is_sound_in ph t i ≡ true
goes_on ph t i e s = and_from _ _ s (ap (λ b. not b || is_finished (state_of t i)) e)

guarded : (a : Schedule) (r q : Run) (b : Bool) → is_running r.phase ≡ b
    → (elim b [ true ↦ option_map (λ is. record r { instances = is }) (change_from (decide_instance a r) 0 r.instances) | false ↦ None ]) ≡ Some q → Kin a.graphs r q
guarded a r q false f e = absurd (let n : ◌≡◌ {A = Option Run} None (Some q) = e in cc)
guarded a r q true f e =
    let t = map_some (λ is. record r { instances = is }) (change_from (decide_instance a r) 0 r.instances) q e in
    subst (λ (x : Run). Kin a.graphs r x) t.2 (record {
      key = refl;
      tries = change_keeps (λ (i : InstanceValue). i.tries) (decide_instance a r) (λ p i j d. let h = decided_instance a r p i j d in h.tries) 0 r.instances t.0 t.1;
      sound = λ s. paired_sound a.graphs r r.phase t.0 s
          (pairs_change (is_sound_in r.phase) (decide_instance a r)
          (λ k p i j d u. let h = decided_instance a r p i j d in goes_on r.phase k j (running_goes_on r.phase f) (h.sound k (and_left _ _ u)))
          0 (dag_among a.graphs r.graph).tasks r.instances t.0 t.1 (pairs_of_run a.graphs r s));
    })

decide_kin : (a : Schedule) (r q : Run) → decide_run a r ≡ Some q → Kin a.graphs r q
decide_kin a r q e = guarded a r q (is_running r.phase) refl e

-- ---- ends and starts
pairs_finished : (ph to : RunPhase) (ts : List TaskSpec) (is : List InstanceValue) → all_pairs (is_sound_in ph) ts is ≡ true → list_all is_finished (zip_with state_of ts is) ≡ true → all_pairs (is_sound_in to) ts is ≡ true
pairs_finished ph to [] [] e f = refl
pairs_finished ph to [] (i ∷ is) e f = e
pairs_finished ph to (t ∷ ts) [] e f = e
pairs_finished ph to (t ∷ ts) (i ∷ is) e f =
    let g : is_finished (state_of t i) ≡ true = and_left _ _ f in
    and_from _ _ (and_from _ _ (and_left _ _ (and_left _ _ e)) (or_last (not (is_ended to)) _ g)) (pairs_finished ph to ts is (and_right (is_sound_in ph t i) _ e) (and_right (is_finished (state_of t i)) _ f))
  where
    or_last : (b c : Bool) → c ≡ true → (b || c) ≡ true
    or_last true c e = refl
    or_last false c e = e

finish_kin : (a : Schedule) (r q : Run) → finish_run a r ≡ Some q → Kin a.graphs r q
finish_kin a r q e =
    let t = when_some _ _ q e in
    let to : RunPhase = cond (has_bad_leaf a r) phase.Failed phase.Success in
    subst (λ (x : Run). Kin a.graphs r x) t.1 (record {
      key = refl;
      tries = refl;
      sound = λ s. paired_sound a.graphs r to r.instances s (pairs_finished r.phase to (dag_among a.graphs r.graph).tasks r.instances (pairs_of_run a.graphs r s) (and_right (is_running r.phase) _ t.0));
    })

start_kin : (a : Schedule) (r q : Run) → start_run a r ≡ Some q → Kin a.graphs r q
start_kin a r q e =
    let t = when_some _ _ q e in
    subst (λ (x : Run). Kin a.graphs r x) t.1 (record {
      key = refl;
      tries = refl;
      sound = λ s. paired_sound a.graphs r phase.Running r.instances s
          (pairs_impl (is_sound_in r.phase) (is_sound_in phase.Running) (λ k i u. goes_on phase.Running k i refl (and_left _ _ u)) (dag_among a.graphs r.graph).tasks r.instances (pairs_of_run a.graphs r s));
    })

-- ---- moves
pub first_cases : {A : Type 0} (x y z : Option A) (w : A) → first_some (x ∷ y ∷ z ∷ []) ≡ Some w → (x ≡ Some w) ⊎ ((y ≡ Some w) ⊎ (z ≡ Some w))
first_cases (Some x) y z w e = inl e
first_cases None (Some y) z w e = inr (inl e)
first_cases None None (Some z) w e = inr (inr e)
first_cases {A} None None None w e = absurd (let c : ◌≡◌ {A = Option A} None (Some w) = e in cc)

pub move_kin : (a : Schedule) (rs : List Run) → move_runs a ≡ Some rs → KinAll a.graphs a.runs rs
move_kin a rs e = elim (first_cases (first_change (decide_run a) a.runs) (first_change (finish_run a) a.runs) (first_change (start_run a) a.runs) rs e) [
  | inl p ↦ change_kin a.graphs (λ i r. decide_run a r) (λ i. decide_kin a) a.runs rs p
  | inr q ↦ elim q [
    | inl p ↦ change_kin a.graphs (λ i r. finish_run a r) (λ i. finish_kin a) a.runs rs p
    | inr p ↦ change_kin a.graphs (λ i r. start_run a r) (λ i. start_kin a) a.runs rs p
  ]
]
