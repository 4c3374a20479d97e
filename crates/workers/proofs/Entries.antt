-- Accounts of logs: of none, of one entry, and of one log behind another.
use Rattle.std.proofs.Common.{◌≡◌, zero, suc, Bool, Option, List, All, None, [], ◌∷◌, ◌++◌, refl, sym, ap, ◌∙◌, subst, append-nil, append_assoc, arith}
use Rattle.std.proofs.lemmas.List.Elements.{All-append, All-nil}
use Rattle.std.proofs.lemmas.Grind.{flat_map-append}
use Rattle.graph_file.specs.declared.operators.Operator.{Operator as Kind}
use Rattle.instance_machine.specs.declared.tries.Outcome.{Outcome}
use Rattle.sched_state.specs.declared.jobs.Job.{Job}
use Rattle.operators.specs.declared.kits.Kit.{Kit}
use Rattle.operators.specs.Kits.{of_kind}
use Rattle.workers.specs.declared.logs.Logged.{Logged}
use Rattle.workers.specs.Accounts.{IsAccount, IsEntry, MayEnd}
use Rattle.workers.specs.Logs.{hold_of, run_of, runs_of, refused_in, refused_part}
use Rattle.workers.specs.Shows.{Shows}

-- an entry of a kit is one of a kit that has the same taken up
entry_before : {O : Type 0} (taken : O → Option Job) (before now : Kit O) → ((kind : Kind) → taken (of_kind now kind) ≡ taken (of_kind before kind)) → (e : Logged) → IsEntry taken now e → IsEntry taken before e
entry_before taken before now kept e entry = record {
  ended = record {
    ended = λ begun. (sym (kept e.job.action.operator) ∙ (entry.ended.ended begun).0, (entry.ended.ended begun).1);
    failed = λ begun. ((entry.ended.failed begun).0, λ none. (entry.ended.failed begun).1 (kept e.job.action.operator ∙ none));
  };
  left = entry.left;
}

only : {X : Type 0} (P : X → Type 0) (x : X) → P x → All P (x ∷ [])
only P x p zero d below = p
only P x p (suc k) d below = absurd (omega arith)

module _ {O : Type 0} (shows : Shows O) where
  -- before a job is done
  pub none_yet : (kit : Kit O) → IsAccount shows kit kit []
  none_yet kit = record {
    ran = λ kind. sym (append-nil (shows.runs_of (of_kind kit kind)));
    refusals = λ kind none. sym (append-nil (shows.refused_of (of_kind kit kind)));
    kept = λ kind. refl;
    entries = All-nil (IsEntry shows.taken kit);
  }

  -- of one job, by a kit that was another name for the one before, and is another for the one after
  pub of_one : (was before after now : Kit O) (job : Job) (begun : Bool) (outcome : Outcome) (e : Logged)
      → before ≡ was → now ≡ after → e.job ≡ job → e.begun ≡ begun → e.outcome ≡ outcome → e.left ≡ hold_of job
      → ((kind : Kind) → shows.runs_of (of_kind after kind) ≡ shows.runs_of (of_kind before kind) ++ run_of kind job begun outcome)
      → ((kind : Kind) → shows.taken (of_kind before kind) ≡ None → shows.refused_of (of_kind after kind) ≡ shows.refused_of (of_kind before kind) ++ refused_part kind job begun)
      → ((kind : Kind) → shows.taken (of_kind after kind) ≡ shows.taken (of_kind before kind))
      → MayEnd shows.taken before job begun outcome
      → IsAccount shows was now (e ∷ [])
  of_one was before after now job begun outcome e is_was is_now is_job is_begun is_outcome left ran refused kept ended = record {
    ran = λ kind.
        ap (λ (k : Kit O). shows.runs_of (of_kind k kind)) is_now ∙ ran kind ∙ ap (λ (k : Kit O). shows.runs_of (of_kind k kind) ++ run_of kind job begun outcome) is_was
        ∙ ap (λ l. shows.runs_of (of_kind was kind) ++ l)
        (ap (λ (j : Job). run_of kind j begun outcome) (sym is_job) ∙ ap (λ b. run_of kind e.job b outcome) (sym is_begun) ∙ ap (run_of kind e.job e.begun) (sym is_outcome) ∙ sym (append-nil (run_of kind e.job e.begun e.outcome)));
    refusals = λ kind none.
        ap (λ (k : Kit O). shows.refused_of (of_kind k kind)) is_now ∙ refused kind (ap (λ (k : Kit O). shows.taken (of_kind k kind)) is_was ∙ none)
        ∙ ap (λ (k : Kit O). shows.refused_of (of_kind k kind) ++ refused_part kind job begun) is_was
        ∙ ap (λ l. shows.refused_of (of_kind was kind) ++ l)
        (ap (λ (j : Job). refused_part kind j begun) (sym is_job) ∙ ap (refused_part kind e.job) (sym is_begun) ∙ sym (append-nil (refused_part kind e.job e.begun)));
    kept = λ kind. ap (λ (k : Kit O). shows.taken (of_kind k kind)) is_now ∙ kept kind ∙ ap (λ (k : Kit O). shows.taken (of_kind k kind)) is_was;
    entries = only (IsEntry shows.taken was) e
        (record {
          ended =
              subst (λ (k : Kit O). MayEnd shows.taken k e.job e.begun e.outcome) is_was
              (subst (λ (j : Job). MayEnd shows.taken before j e.begun e.outcome) (sym is_job)
              (subst (λ b. MayEnd shows.taken before job b e.outcome) (sym is_begun) (subst (MayEnd shows.taken before job begun) (sym is_outcome) ended)));
          left = left ∙ ap hold_of (sym is_job);
        });
  }

  -- one log and then another
  pub and_then : (first now last : Kit O) (old new : List Logged) → IsAccount shows first now old → IsAccount shows now last new → IsAccount shows first last (old ++ new)
  and_then first now last old new was is = record {
    ran = λ kind.
        is.ran kind ∙ ap (λ l. l ++ runs_of kind new) (was.ran kind) ∙ append_assoc (shows.runs_of (of_kind first kind)) (runs_of kind old) (runs_of kind new)
        ∙ ap (λ l. shows.runs_of (of_kind first kind) ++ l) (sym (flat_map-append (λ (e : Logged). run_of kind e.job e.begun e.outcome) old new));
    refusals = λ kind none.
        is.refusals kind (was.kept kind ∙ none) ∙ ap (λ l. l ++ refused_in kind new) (was.refusals kind none)
        ∙ append_assoc (shows.refused_of (of_kind first kind)) (refused_in kind old) (refused_in kind new)
        ∙ ap (λ l. shows.refused_of (of_kind first kind) ++ l) (sym (flat_map-append (λ (e : Logged). refused_part kind e.job e.begun) old new));
    kept = λ kind. is.kept kind ∙ was.kept kind;
    entries = All-append (IsEntry shows.taken first) old new was.entries (λ k e below. entry_before shows.taken first now was.kept _ (is.entries k e below));
  }
