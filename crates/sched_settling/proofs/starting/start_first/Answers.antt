use Rattle.std.proofs.Common.{◌≡◌, ◌∙◌, ℕ, List, ap, refl, sym, subst, set, slice_get, Some, arith}
use Rattle.std.specs.Prelude.{MatchOption}
use Rattle.std.proofs.lemmas.List.{length-map}
use Rattle.std.proofs.lemmas.Option.{slice_get_within}
use Rattle.sched_model.specs.Schedule.{Schedule}
use Rattle.sched_settling.specs.Marks.{IsLine, AreLines, IsStartIn, NoStartIn, ids_of}
use Rattle.sched_settling.specs.declared.lines.GraphRuns.{GraphRuns}
use Rattle.sched_settling.proofs.StateLemmas.{read_at}
use Rattle.sched_settling.proofs.AmongLemmas.{ids_get, ids_set, inside_lines}
use Rattle.sched_settling.proofs.LineLemmas.{start_there, start_none, start_lines, same_lines, none_next}
use Rattle.sched_settling.proofs.starting.start_first.Goals as goal

pub loop-place-init : goal.loop-place-init
loop-place-init c = record { same = refl; base = refl; lines = c.requires.lines; ids = refl; none = λ n i low there. absurd (omega (arith, low)) }

pub start_in-requires-clause-line : goal.start_in-requires-clause-line
start_in-requires-clause-line c =
    let a : Schedule = c.args.draft.now.content in
    let ls : List GraphRuns = c.loop-place.lines.items in
    let is : List (List ℕ) = ids_of c.args.lines.now.items in
    let p : ℕ = c.loop-place.place in
    let l : GraphRuns = c.index_mut.result.now in
    let ids : ids_of ls ≡ is = c.loop-place.invariant.ids in
    let there : slice_get ls p ≡ Some l = read_at ls p l l (inside_lines ls c.args.lines.now.items p ids (let low = c.loop-place-test.true in let end = c.len-place-end.ensures in omega arith)) c.index_mut.ensures.value in
    subst (λ (x : Schedule). IsLine x l.id.now l) (sym c.loop-place.invariant.same) (c.loop-place.invariant.lines.each p l there)

pub returns-in-Some-clause-first : goal.returns-in-Some-clause-first
returns-in-Some-clause-first c =
    let a : Schedule = c.args.draft.now.content in
    let ls : List GraphRuns = c.loop-place.lines.items in
    let is : List (List ℕ) = ids_of c.args.lines.now.items in
    let p : ℕ = c.loop-place.place in
    let l : GraphRuns = c.index_mut.result.now in
    let ids : ids_of ls ≡ is = c.loop-place.invariant.ids in
    let there : slice_get ls p ≡ Some l = read_at ls p l l (inside_lines ls c.args.lines.now.items p ids (let low = c.loop-place-test.true in let end = c.len-place-end.ensures in omega arith)) c.index_mut.ensures.value in
    let m : GraphRuns = c.start_in.new.line in
    let b : Schedule = c.start_in.new.draft.content in
    let n : ℕ = c.in-Some.position in
    let found : IsStartIn l.id.now m a b n =
    subst (λ (x : Schedule). IsStartIn l.id.now m x b n) c.loop-place.invariant.same
    (subst (λ o. MatchOption o (NoStartIn l.id.now m c.loop-place.draft.content b) (IsStartIn l.id.now m c.loop-place.draft.content b)) c.in-Some.is c.in_ok-position.ensures.started) in
    start_there a b is p n l.id.now m c.requires.keyed.ordered.runs c.requires.lines.rising c.requires.lines.startings (ap (λ (js : List (List ℕ)). slice_get js p) (sym ids) ∙ ids_get ls p l there) c.loop-place.invariant.none found

pub returns-in-Some-clause-started : goal.returns-in-Some-clause-started
returns-in-Some-clause-started c =
    let a : Schedule = c.args.draft.now.content in
    let ls : List GraphRuns = c.loop-place.lines.items in
    let is : List (List ℕ) = ids_of c.args.lines.now.items in
    let p : ℕ = c.loop-place.place in
    let l : GraphRuns = c.index_mut.result.now in
    let ids : ids_of ls ≡ is = c.loop-place.invariant.ids in
    let there : slice_get ls p ≡ Some l = read_at ls p l l (inside_lines ls c.args.lines.now.items p ids (let low = c.loop-place-test.true in let end = c.len-place-end.ensures in omega arith)) c.index_mut.ensures.value in
    let m : GraphRuns = c.start_in.new.line in
    let b : Schedule = c.start_in.new.draft.content in
    let n : ℕ = c.in-Some.position in
    let found : IsStartIn l.id.now m a b n =
    subst (λ (x : Schedule). IsStartIn l.id.now m x b n) c.loop-place.invariant.same
    (subst (λ o. MatchOption o (NoStartIn l.id.now m c.loop-place.draft.content b) (IsStartIn l.id.now m c.loop-place.draft.content b)) c.in-Some.is c.in_ok-position.ensures.started) in
    record { inside = slice_get_within a.runs n found.run found.run_is; after = found.after }

pub returns-in-Some-clause-lines : goal.returns-in-Some-clause-lines
returns-in-Some-clause-lines c =
    let a : Schedule = c.args.draft.now.content in
    let ls : List GraphRuns = c.loop-place.lines.items in
    let is : List (List ℕ) = ids_of c.args.lines.now.items in
    let p : ℕ = c.loop-place.place in
    let l : GraphRuns = c.index_mut.result.now in
    let ids : ids_of ls ≡ is = c.loop-place.invariant.ids in
    let there : slice_get ls p ≡ Some l = read_at ls p l l (inside_lines ls c.args.lines.now.items p ids (let low = c.loop-place-test.true in let end = c.len-place-end.ensures in omega arith)) c.index_mut.ensures.value in
    let m : GraphRuns = c.start_in.new.line in
    let b : Schedule = c.start_in.new.draft.content in
    let n : ℕ = c.in-Some.position in
    let found : IsStartIn l.id.now m a b n =
    subst (λ (x : Schedule). IsStartIn l.id.now m x b n) c.loop-place.invariant.same
    (subst (λ o. MatchOption o (NoStartIn l.id.now m c.loop-place.draft.content b) (IsStartIn l.id.now m c.loop-place.draft.content b)) c.in-Some.is c.in_ok-position.ensures.started) in
    start_lines a b p n ls l m there c.start_in.ensures.id c.loop-place.invariant.lines found

pub loop-place-preserved : goal.loop-place-preserved
loop-place-preserved c =
    let a : Schedule = c.args.draft.now.content in
    let ls : List GraphRuns = c.loop-place.lines.items in
    let is : List (List ℕ) = ids_of c.args.lines.now.items in
    let p : ℕ = c.loop-place.place in
    let l : GraphRuns = c.index_mut.result.now in
    let ids : ids_of ls ≡ is = c.loop-place.invariant.ids in
    let there : slice_get ls p ≡ Some l = read_at ls p l l (inside_lines ls c.args.lines.now.items p ids (let low = c.loop-place-test.true in let end = c.len-place-end.ensures in omega arith)) c.index_mut.ensures.value in
    let m : GraphRuns = c.start_in.new.line in
    let b : Schedule = c.start_in.new.draft.content in
    let none : NoStartIn l.id.now m a b =
    subst (λ (x : Schedule). NoStartIn l.id.now m x b) c.loop-place.invariant.same
    (subst (λ o. MatchOption o (NoStartIn l.id.now m c.loop-place.draft.content b) (IsStartIn l.id.now m c.loop-place.draft.content b)) c.in_default.is c.in_ok-position.ensures.started) in
    record {
      same = none.same;
      base = c.in_ok-position.ensures.base ∙ c.loop-place.invariant.base;
      lines = subst (λ (x : Schedule). AreLines (set ls p m) x) none.same (same_lines a b p ls l m there c.start_in.ensures.id c.loop-place.invariant.lines none);
      ids = ids_set ls p l m there c.start_in.ensures.id ∙ ids;
      none = none_next a is p l.id.now c.loop-place.invariant.none (ap (λ (js : List (List ℕ)). slice_get js p) (sym ids) ∙ ids_get ls p l there) none.none;
    }

pub returns-clause-first : goal.returns-clause-first
returns-clause-first c =
    let a : Schedule = c.args.draft.now.content in
    let over = c.loop-place-test.false in
    let end = c.len-place-end.ensures in
    let line : GraphRuns → List ℕ = λ (l : GraphRuns). l.id.now in
    (start_none a (ids_of c.args.lines.now.items) c.loop-place.place c.requires.lines.startings c.loop-place.invariant.none (omega (arith, over, end, length-map c.args.lines.now.items line)), c.loop-place.invariant.same)
