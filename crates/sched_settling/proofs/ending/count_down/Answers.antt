use Rattle.std.proofs.Common.{◌≡◌, ◌∙◌, ℕ, List, ap, sym, subst, set, slice_get, Option, Some, false}
use Rattle.std.proofs.lemmas.Option.{slice_get_within}
use Rattle.sched_settling.specs.Marks.{IsCountedDown, IsLineAt, has_line}
use Rattle.sched_settling.specs.declared.lines.GraphRuns.{GraphRuns}
use Rattle.sched_settling.proofs.StateLemmas.{read_at}
use Rattle.sched_settling.proofs.AmongLemmas.{line_id}
use Rattle.sched_settling.proofs.LineLemmas.{counted_some, counted_none}
use Rattle.sched_settling.proofs.ending.count_down.Goals as goal

pub returns-in-Ok : goal.returns-in-Ok
returns-in-Ok c =
    let id : List ℕ = c.args.id.now in
    let ls : List GraphRuns = c.args.lines.now.items in
    let p : ℕ = c.in-Ok.place in
    let l : GraphRuns = c.index_mut.result.now in
    let h = subst (λ (ks : List GraphRuns). IsLineAt ks id p) c.deref.ensures.value c.in-Ok.ensures in
    let there : slice_get ls p ≡ Some l = read_at ls p l l (slice_get_within ls p h.line h.there) c.index_mut.ensures.value in
    let one : ◌≡◌ {A = Option GraphRuns} (Some h.line) (Some l) = sym h.there ∙ there in
    let is : h.line ≡ l = cc in
    subst (λ (m : GraphRuns). IsCountedDown id ls (set ls p m)) (sym c.count_one.ensures) (counted_some id ls p l c.requires there (ap line_id (sym is) ∙ h.named))

pub returns-in_default : goal.returns-in_default
returns-in_default c = counted_none c.args.id.now c.args.lines.now.items (subst (λ (ks : List GraphRuns). has_line ks c.args.id.now ≡ false) c.deref.ensures.value c.in_default.ensures.none)
