-- Where no named instance has a try without an end, setting them keeps a sound schedule sound.
use Rattle.std.proofs.Common.{◌≡◌, refl, sym, ap, ◌∙◌, ℕ, ◌+◌, List, [], ◌∷◌, Bool, true, false, not, cond, ◌&&◌, filter, flat_map, map, Option, Some, None, true≢false, is_some, is_none, zip}
use Rattle.std.specs.List.{list_all, enumerate_from}
use Rattle.graph_file.specs.declared.task_specs.TaskSpec.{TaskSpec}
use Rattle.sched_model.specs.instance_machine.Instances.{InstanceValue}
use Rattle.sched_model.specs.instance_machine.declared.tries.Try.{Try}
use Rattle.sched_model.specs.instance_machine.declared.tries.End.{End}
use Rattle.sched_model.specs.trigger_rules.declared.verdicts.Verdict.{Verdict}
use Rattle.sched_model.specs.sched_state.declared.runs.RunPhase.{RunPhase}
use Rattle.sched_model.specs.sched_state.declared.runs.RunPhase.TheVariants as phase
use Rattle.sched_model.proofs.sched_state.OrderLemmas.{and_left, and_right}
use Rattle.sched_model.specs.Lists.{all_pairs, map_places, best_by}
use Rattle.sched_model.specs.Schedule.{Schedule, dag_among, is_ended}
use Rattle.sched_model.specs.sched_state.declared.runs.Run.{Run}
use Rattle.sched_model.specs.States.{is_open}
use Rattle.sched_model.specs.Clearing.{Selection, set_to, set_pair, pairs_of, named_in, requeued, set_if, set_run, set_named, clear, named_pairs}
use Rattle.sched_model.specs.Causes.{open_serials, least_in_flight}
use Rattle.sched_model.specs.Sound.{IsSound, is_sound_in, is_sound_instance, is_sound_run, is_wait, has_end}
use Rattle.sched_laws.proofs.ListLemmas.{all_flat}
use Rattle.sched_laws.proofs.InstanceLemmas.{set_sound}
use Rattle.sched_laws.proofs.RunLemmas.{key, try_lists, serials_of_tries, paired_sound, pairs_of_run, goes_on}
use Rattle.sched_laws.proofs.SoundLemmas.{runs_changed}
use Rattle.sched_laws.proofs.RankLemmas.{some_of_cons}
use Rattle.std.proofs.lemmas.Bool.{and_from}

-- ---- no named try is open
abbrev pub all_over : List (TaskSpec × InstanceValue) → Bool
all_over es = list_all (λ (e : TaskSpec × InstanceValue). list_all has_end e.1.tries) es

pub best_empty : {X : Type 0} (before : X → X → Bool) (xs : List X) → best_by before xs ≡ None → xs ≡ []
best_empty before [] e = refl
best_empty before (x ∷ xs) e = absurd (some_of_cons before x (best_by before xs) e)

closed_end : (o : Option End) → is_none o ≡ false → is_some o ≡ true
closed_end None e = absurd (true≢false e)
closed_end (Some x) e = refl

pub none_open : (ts : List Try) → open_serials ts ≡ [] → list_all has_end ts ≡ true
none_open [] e = refl
none_open (t ∷ ts) e = elim (is_open t) as (λ b. is_open t ≡ b → map (λ (u : Try). u.serial) (cond b (t ∷ filter is_open ts) (filter is_open ts)) ≡ [] → list_all has_end (t ∷ ts) ≡ true) [
  | true ↦ λ q f. absurd (let c : ◌≡◌ {A = List ℕ} (t.serial ∷ map (λ (u : Try). u.serial) (filter is_open ts)) [] = f in cc)
  | false ↦ λ q f. and_from _ _ (closed_end t.ended q) (none_open ts f)
] refl e

named_over : (a : Schedule) (named : Selection) → least_in_flight a named ≡ None → list_all (λ r. all_over (named_in a named r)) a.runs ≡ true
named_over a named e =
    let ts : List Try = flat_map (λ (x : TaskSpec × InstanceValue). x.1.tries) (named_pairs a named) in
    let over : list_all has_end ts ≡ true = none_open ts (best_empty _ (open_serials ts) e) in
    all_flat (λ (x : TaskSpec × InstanceValue). list_all has_end x.1.tries) (named_in a named) a.runs (all_flat has_end (λ (x : TaskSpec × InstanceValue). x.1.tries) (named_pairs a named) over)

-- ---- one run
requeued_goes_on : (ph : RunPhase) → is_ended (requeued ph) ≡ false
requeued_goes_on phase.Queued = refl
requeued_goes_on phase.Running = refl
requeued_goes_on phase.Success = refl
requeued_goes_on phase.Failed = refl

abbrev pub chosen : (ℕ → TaskSpec × InstanceValue → Bool) → List (ℕ × (TaskSpec × InstanceValue)) → List (TaskSpec × InstanceValue)
chosen named es = map (λ (e : ℕ × (TaskSpec × InstanceValue)). e.1) (filter (λ (e : ℕ × (TaskSpec × InstanceValue)). named e.0 e.1) es)

set_pairs : (v : Option Verdict) → not (is_wait v) ≡ true → (named : ℕ → TaskSpec × InstanceValue → Bool) (ph : RunPhase) (k : ℕ) (ts : List TaskSpec) (is : List InstanceValue) → all_over (chosen named (enumerate_from k (zip ts is))) ≡ true → all_pairs (is_sound_in ph) ts is ≡ true
    → all_pairs (is_sound_in (requeued ph)) ts (map_places (set_pair v named) k (zip ts is)) ≡ true
set_pairs v w named ph k [] [] o e = refl
set_pairs v w named ph k [] (i ∷ is) o e = absurd (true≢false (sym e))
set_pairs v w named ph k (t ∷ ts) [] o e = absurd (true≢false (sym e))
set_pairs v w named ph k (t ∷ ts) (i ∷ is) o e =
    let si : is_sound_instance t i ≡ true = and_left _ _ (and_left _ _ e) in
    let se : all_pairs (is_sound_in ph) ts is ≡ true = and_right (is_sound_in ph t i) _ e in
    elim (named k (t, i)) as (λ b. all_over (map (λ (x : ℕ × (TaskSpec × InstanceValue)). x.1) (cond b ((k, (t, i)) ∷ filter (λ (x : ℕ × (TaskSpec × InstanceValue)). named x.0 x.1) (enumerate_from (k + 1) (zip ts is))) (filter (λ (x : ℕ × (TaskSpec × InstanceValue)). named x.0 x.1) (enumerate_from (k + 1) (zip ts is))))) ≡ true
    → (is_sound_in (requeued ph) t (cond b (set_to v i) i) && all_pairs (is_sound_in (requeued ph)) ts (map_places (set_pair v named) (k + 1) (zip ts is))) ≡ true) [
      | true ↦ λ q. and_from _ _ (goes_on (requeued ph) t (set_to v i) (requeued_goes_on ph) (set_sound v w t i si (and_left _ _ q)))
          (set_pairs v w named ph (k + 1) ts is (and_right (list_all has_end i.tries) _ q) se)
      | false ↦ λ q. and_from _ _ (goes_on (requeued ph) t i (requeued_goes_on ph) si) (set_pairs v w named ph (k + 1) ts is q se)
    ] o

set_tries : (v : Option Verdict) (named : ℕ → TaskSpec × InstanceValue → Bool) (p : TaskSpec → InstanceValue → Bool) (k : ℕ) (ts : List TaskSpec) (is : List InstanceValue) → all_pairs p ts is ≡ true
    → map (λ (i : InstanceValue). i.tries) (map_places (set_pair v named) k (zip ts is)) ≡ map (λ (i : InstanceValue). i.tries) is
set_tries v named p k [] [] e = refl
set_tries v named p k [] (i ∷ is) e = absurd (true≢false (sym e))
set_tries v named p k (t ∷ ts) [] e = refl
set_tries v named p k (t ∷ ts) (i ∷ is) e =
    let tries : InstanceValue → List Try = λ j. j.tries in
    let ih : map tries (map_places (set_pair v named) (k + 1) (zip ts is)) ≡ map tries is = set_tries v named p (k + 1) ts is (and_right (p t i) _ e) in
    elim (named k (t, i)) as (λ b. tries (cond b (set_to v i) i) ∷ map tries (map_places (set_pair v named) (k + 1) (zip ts is)) ≡ i.tries ∷ map tries is) [
      | true ↦ ap (λ zs. i.tries ∷ zs) ih
      | false ↦ ap (λ zs. i.tries ∷ zs) ih
    ]

one_sound : (v : Option Verdict) → not (is_wait v) ≡ true → (a : Schedule) (named : Selection) (r : Run) (es : List (TaskSpec × InstanceValue)) → all_over (named_in a named r) ≡ true → is_sound_run a.graphs r ≡ true → is_sound_run a.graphs (set_if v a named r es) ≡ true
one_sound v w a named r [] o e = e
one_sound v w a named r (x ∷ es) o e =
    paired_sound a.graphs r (requeued r.phase) (map_places (set_pair v (named r)) 0 (pairs_of a r)) e
    (set_pairs v w (named r) r.phase 0 (dag_among a.graphs r.graph).tasks r.instances o (pairs_of_run a.graphs r e))

one_tries : (v : Option Verdict) (a : Schedule) (named : Selection) (r : Run) (es : List (TaskSpec × InstanceValue)) → is_sound_run a.graphs r ≡ true → try_lists (set_if v a named r es) ≡ try_lists r
one_tries v a named r [] e = refl
one_tries v a named r (x ∷ es) e = set_tries v (named r) (is_sound_in r.phase) 0 (dag_among a.graphs r.graph).tasks r.instances (pairs_of_run a.graphs r e)

one_key : (v : Option Verdict) (a : Schedule) (named : Selection) (r : Run) (es : List (TaskSpec × InstanceValue)) → key (set_if v a named r es) ≡ key r
one_key v a named r [] = refl
one_key v a named r (x ∷ es) = refl

-- ---- all runs
all_sound : (v : Option Verdict) → not (is_wait v) ≡ true → (a : Schedule) (named : Selection) (rs : List Run) → list_all (λ r. all_over (named_in a named r)) rs ≡ true → list_all (is_sound_run a.graphs) rs ≡ true → list_all (is_sound_run a.graphs) (map (set_run v a named) rs) ≡ true
all_sound v w a named [] o e = refl
all_sound v w a named (r ∷ rs) o e = and_from _ _ (one_sound v w a named r (named_in a named r) (and_left _ _ o) (and_left _ _ e))
    (all_sound v w a named rs (and_right (all_over (named_in a named r)) _ o) (and_right (is_sound_run a.graphs r) _ e))

pub all_tries : (v : Option Verdict) (a : Schedule) (named : Selection) (rs : List Run) → list_all (is_sound_run a.graphs) rs ≡ true → map try_lists (map (set_run v a named) rs) ≡ map try_lists rs
all_tries v a named [] e = refl
all_tries v a named (r ∷ rs) e =
    ap (λ (x : List (List Try)). x ∷ map try_lists (map (set_run v a named) rs)) (one_tries v a named r (named_in a named r) (and_left _ _ e))
    ∙ ap (λ xs. try_lists r ∷ xs) (all_tries v a named rs (and_right (is_sound_run a.graphs r) _ e))

pub all_keys : (v : Option Verdict) (a : Schedule) (named : Selection) (rs : List Run) → map key (map (set_run v a named) rs) ≡ map key rs
all_keys v a named [] = refl
all_keys v a named (r ∷ rs) = ap (λ k. k ∷ map key (map (set_run v a named) rs)) (one_key v a named r (named_in a named r)) ∙ ap (λ ks. key r ∷ ks) (all_keys v a named rs)

pub set_named_sound : (v : Option Verdict) → not (is_wait v) ≡ true → (named : Selection) (a : Schedule) → least_in_flight a named ≡ None → IsSound a → IsSound (set_named v named a)
set_named_sound v w named a n s = runs_changed a (map (set_run v a named) a.runs) (record {
  keys = all_keys v a named a.runs;
  serials = serials_of_tries a.runs (map (set_run v a named) a.runs) (all_tries v a named a.runs s.runs);
  sound = λ h. all_sound v w a named a.runs (named_over a named n) h;
}) s

pub clear_sound : (named : Selection) (a : Schedule) → least_in_flight a named ≡ None → IsSound a → IsSound (clear named a)
clear_sound named a n s = set_named_sound None refl named a n s
