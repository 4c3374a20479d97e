use Rattle.std.proofs.Common.{◌≡◌, ◌∙◌, ◌∷◌, [], ℕ, List, ap, sym, subst, slice_get, Option, Some, false}
use Rattle.std.proofs.lemmas.Option.{slice_get_within}
use Rattle.std.proofs.lemmas.Result.{on_ok_weaker}
use Rattle.sched_state.specs.Lists.{same}
use Rattle.sched_state.specs.declared.runs.Run.{Run}
use Rattle.sched_state.proofs.NameLemmas.{same_itself}
use Rattle.sched_settling.specs.Marks.{IsLineAt, has_line, ids_of}
use Rattle.sched_settling.specs.Touched.{IsCountedIn, IsRunCounted}
use Rattle.sched_settling.specs.declared.lines.GraphRuns.{GraphRuns}
use Rattle.sched_settling.proofs.StateLemmas.{read_at}
use Rattle.sched_settling.proofs.AmongLemmas.{ids_get, line_id, none_at, same_flips}
use Rattle.sched_settling.proofs.CarryLemmas.{each_set, each_same, counted_same, counted_other}
use Rattle.sched_settling.proofs.counting.count_in.Goals as goal

pub returns-in-Ok : goal.returns-in-Ok
returns-in-Ok c =
    let r : Run = c.args.run.now in
    let ls : List GraphRuns = c.args.lines.now.items in
    let p : ℕ = c.in-Ok.place in
    let l : GraphRuns = c.index_mut.result.now in
    let h = subst (λ (ks : List GraphRuns). IsLineAt ks r.graph p) c.deref.ensures.value c.in-Ok.ensures in
    let there : slice_get ls p ≡ Some l = read_at ls p l l (slice_get_within ls p h.line h.there) c.index_mut.ensures.value in
    let one : ◌≡◌ {A = Option GraphRuns} (Some h.line) (Some l) = sym h.there ∙ there in
    let is : h.line ≡ l = cc in
    let named : l.id.now ≡ r.graph = ap line_id (sym is) ∙ h.named in
    on_ok_weaker c.count_run.result
    (λ (counted : IsRunCounted r l c.count_run.new.line).
    each_set (λ id. IsCountedIn id (r ∷ [])) ls p l c.count_run.new.line c.requires there counted.id
    (counted_same l.id.now r l c.count_run.new.line (ap (same r.graph) named ∙ same_itself r.graph) counted)
    (λ k e. counted_other k.id.now r k (ap (λ (i : List ℕ). same i k.id.now) (sym named) ∙ e)))
    c.count_run.ensures

pub returns-in-Err : goal.returns-in-Err
returns-in-Err c =
    let r : Run = c.args.run.now in
    each_same (λ id. IsCountedIn id (r ∷ [])) c.args.lines.now.items
    (λ n l e. counted_other l.id.now r l (same_flips r.graph l.id.now ∙ none_at (ids_of c.args.lines.now.items) n l.id.now r.graph (subst (λ (ks : List GraphRuns). has_line ks r.graph ≡ false) c.deref.ensures.value c.in-Err.ensures.none) (ids_get c.args.lines.now.items n l e)))
