-- Reasons over the graph of a subject are those of the schedule.
use Rattle.std.proofs.Common.{◌≡◌, ◌∙◌, refl, sym, ap, arith, ℕ, ◌<◌, Bool, true, false, not, ◌&&◌, cond, List, [], ◌∷◌, ◌++◌, length, map, filter, flat_map, get_or, slice_get, Some, option_and_then, unwrap_or}
use Rattle.graph_file.specs.Lists.{when}
use Rattle.dag_check.specs.Graphs.{Dag, IsDag, task_of, ups}
use Rattle.dag_check.specs.Orders.{is_in}
use Rattle.dag_check.proofs.OrderLemmas.{in-at}
use Rattle.trigger_rules.specs.Rules.{rule_verdict}
use Rattle.trigger_rules.specs.States.{is_finished}
use Rattle.trigger_rules.specs.declared.states.State.{State}
use Rattle.trigger_rules.specs.declared.states.State.TheVariants as state
use Rattle.trigger_rules.specs.declared.verdicts.Verdict.{Verdict}
use Rattle.trigger_rules.specs.declared.verdicts.Verdict.TheVariants as verdict
use Rattle.instance_machine.specs.States.{state_of}
use Rattle.sched_state.specs.declared.runs.Run.{Run}
use Rattle.sched_state.proofs.NameLemmas.{same_is}
use Rattle.sched_state.proofs.OrderLemmas.{and_left}
use Rattle.sched_model.specs.Lists.{zip_with}
use Rattle.sched_model.specs.Schedule.{Schedule, dag_named}
use Rattle.sched_model.specs.States.{state_at, previous, is_earlier}
use Rattle.sched_model.specs.Settle.{upstream_states}
use Rattle.sched_settling.specs.States.{state_in}
use Rattle.sched_settling.proofs.DecideLemmas.{last_passes}
use Rattle.explain.specs.Inside.{upstream_if, past_by}
use Rattle.explain.specs.Reasons.{given, is_wait, is_undecided, rule_waits, upstream, upstreams, upstreams_if, if_so, past, past_in}
use Rattle.explain.specs.Subjects.{SubjectValue, IsSubjectOf, state_of_subject}
use Rattle.explain.specs.declared.reasons.Reason.{Reason}
use Rattle.explain.specs.declared.reasons.Reason.TheVariants.{Upstream}
use Rattle.explain.proofs.SubjectLemmas.{dag_is}

-- an upstream stands among the tasks
pub stands_below : (g : Dag) (us : List ℕ) (p i u : ℕ) → IsDag g → us ≡ ups g p → p < length g.tasks → i < length us → u ≡ get_or us i 0 → u < length g.tasks
stands_below g us p i u dag is at inside read =
    let there : is_in (ups g p) (get_or us i 0) ≡ true = ap (λ (xs : List ℕ). is_in xs (get_or us i 0)) (sym is) ∙ in-at us i inside in
    let below : get_or us i 0 < p = dag.down p (get_or us i 0) there in
    omega (arith, below, read)

pub not_wait : (v : Verdict) → (v ≡ verdict.Wait → ⊥) → false ≡ is_wait v
not_wait verdict.Wait n = absurd (n refl)
not_wait verdict.Run n = refl
not_wait verdict.Skip n = refl
not_wait verdict.UpstreamFailed n = refl

chosen : (b : Bool) (f : ℕ → Reason) (p : ℕ) (ps : List ℕ) → given (when b (f p)) ++ map f ps ≡ map f (cond b (p ∷ ps) ps)
chosen true f p ps = refl
chosen false f p ps = refl

module _ (a : Schedule) (s : SubjectValue) (found : IsSubjectOf a s) where
  -- the state at a place by the graph of the subject
  pub state_is : (p : ℕ) → state_in s.graph.dag s.run p ≡ state_at a s.run p
  state_is p = ap (λ (g : Dag). unwrap_or (slice_get (zip_with state_of g.tasks s.run.instances) p) state.None) (sym (dag_is a s found))

  pub states_are : map (state_in s.graph.dag s.run) (ups s.graph.dag s.place) ≡ upstream_states a s.run s.place
  states_are = ap (λ (g : Dag). map (λ p. unwrap_or (slice_get (zip_with state_of g.tasks s.run.instances) p) state.None) (ups g s.place)) (sym (dag_is a s found))

  pub waits_is : (v : Verdict) → v ≡ rule_verdict s.task.trigger_rule (map (state_in s.graph.dag s.run) (ups s.graph.dag s.place)) → is_undecided (state_of_subject s) ≡ true → is_wait v ≡ rule_waits a s
  waits_is v rule none =
      ap is_wait (rule ∙ ap (rule_verdict s.task.trigger_rule) states_are)
      ∙ ap (λ (b : Bool). b && is_wait (rule_verdict s.task.trigger_rule (upstream_states a s.run s.place))) (sym none)

  upstream_is : (p : ℕ) → upstream_if s p ≡ given (when (not (is_finished (state_at a s.run p))) (upstream a s p))
  upstream_is p = ap (λ (x : State). given (when (not (is_finished x)) (Upstream (task_of s.graph.dag p).task_id x))) (state_is p)

  upstreams_are : (ps : List ℕ) → flat_map (upstream_if s) ps ≡ map (upstream a s) (filter (λ p. not (is_finished (state_at a s.run p))) ps)
  upstreams_are [] = refl
  upstreams_are (p ∷ ps) =
      ap (λ (rs : List Reason). rs ++ flat_map (upstream_if s) ps) (upstream_is p)
      ∙ (ap (λ (rs : List Reason). given (when (not (is_finished (state_at a s.run p))) (upstream a s p)) ++ rs) (upstreams_are ps)
      ∙ chosen (not (is_finished (state_at a s.run p))) (upstream a s) p (filter (λ p. not (is_finished (state_at a s.run p))) ps))

  -- all upstreams, where the rule waits
  pub all_upstreams : rule_waits a s ≡ true → flat_map (upstream_if s) (ups s.graph.dag s.place) ≡ upstreams a s
  all_upstreams waits = upstreams_are (ups s.graph.dag s.place) ∙ ap (λ (b : Bool). upstreams_if b a s) (sym waits)

  -- the run before is of the same graph
  pub past_is : (b : Run) → previous a s.run ≡ Some b → past_by (state_in s.graph.dag b s.place) b ≡ past_in a s b
  past_is b before =
      let earlier : is_earlier s.run b ≡ true = last_passes (is_earlier s.run) a.runs b before in
      let named : b.graph ≡ s.run.graph = same_is b.graph s.run.graph (and_left _ _ earlier) in
      let dag : s.graph.dag ≡ dag_named a b.graph = sym (dag_is a s found) ∙ ap (dag_named a) (sym named) in
      ap (λ (g : Dag). past_by (state_in g b s.place) b) dag

  pub past_some : (b : Run) → previous a s.run ≡ Some b → is_undecided (state_of_subject s) ≡ true → s.task.depends_on_past ≡ true → past_by (state_in s.graph.dag b s.place) b ≡ past a s
  past_some b before none looks =
      past_is b before
      ∙ sym (ap (λ (c : Bool). if_so (c && s.task.depends_on_past) (option_and_then (past_in a s) (previous a s.run))) none
      ∙ (ap (λ (c : Bool). if_so c (option_and_then (past_in a s) (previous a s.run))) looks
      ∙ ap (option_and_then (past_in a s)) before))
