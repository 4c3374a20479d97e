use Rattle.std.proofs.Common.{◌≡◌, sym, ◌∙◌, ap, refl, true, false, pos, rules, true≢false}
use Rattle.std.specs.Prelude.{int_le}
use Rattle.graph_file.proofs.ListLemmas.{when_none}
use Rattle.record_rows.specs.Rows.{MetaRow}
use Rattle.record_rules.specs.Numbers.{is_moment_column, is_between, natural}
use Rattle.record_rules.specs.Reading.{meta_of, first_or, no_meta, schedule_of}
use Rattle.record_restoring.specs.Keyed.{is_one_meta}
use Rattle.record_restoring.proofs.ColumnLemmas.{when_some}
use Rattle.record_restoring.proofs.PartLemmas.{meta_columns, one_meta, parts_are, restored_by}
use Rattle.record_restoring.proofs.restoring.parts_of.Goals as goal

pub book_of-requires-clause-free : goal.book_of-requires-clause-free
book_of-requires-clause-free c = c.in_ok-graphs.ensures.free

pub book_of-requires-clause-graphs : goal.book_of-requires-clause-graphs
book_of-requires-clause-graphs c = c.deref.ensures.value ∙ c.in_ok-graphs.ensures.graphs

pub book_of-requires-clause-runs : goal.book_of-requires-clause-runs
book_of-requires-clause-runs c = c.deref-2.ensures.value ∙ c.in_ok-graphs.ensures.runs

pub first_meta-meta-requires : goal.first_meta-meta-requires
first_meta-meta-requires c =
    let r : c.deref-3.result.now ≡ c.args.rows.now.metas = search (rules, c.deref-3.ensures.value, c.rows.view_is) in
    ap is_one_meta r ∙ one_meta c.args.rows.now c.requires

pub unreachable-requires : goal.unreachable-requires
unreachable-requires c =
    let r : c.deref-3.result.now ≡ c.args.rows.now.metas = search (rules, c.deref-3.ensures.value, c.rows.view_is) in
    let m : c.first_meta-meta.result.now ≡ meta_of c.args.rows.now = c.first_meta-meta.ensures ∙ ap (first_or no_meta) r in
    let f : is_moment_column c.first_meta-meta.result.now.now ≡ true =
    ap (λ (x : MetaRow). is_moment_column x.now) m ∙ (meta_columns c.args.limits c.args.rows.now c.requires c.in_ok-graphs.ensures.free).clock in
    let none : is_moment_column c.first_meta-meta.result.now.now ≡ false = search (rules, when_none _ _ (sym c.moment_of.ensures ∙ c.in_default.is), c.meta.view_is) in
    true≢false (sym f ∙ none)

pub lanes_of-requires : goal.lanes_of-requires
lanes_of-requires c =
    let r : c.deref-3.result.now ≡ c.args.rows.now.metas = search (rules, c.deref-3.ensures.value, c.rows.view_is) in
    let m : c.first_meta-meta.result.now ≡ meta_of c.args.rows.now = c.first_meta-meta.ensures ∙ ap (first_or no_meta) r in
    let f : is_between 0 c.lanes.result c.first_meta-meta.result.now.lanes ≡ true =
    ap (λ n. is_between 0 n c.first_meta-meta.result.now.lanes) c.lanes.ensures
    ∙ (ap (λ (x : MetaRow). is_between 0 c.args.limits.lanes x.lanes) m ∙ (meta_columns c.args.limits c.args.rows.now c.requires c.in_ok-graphs.ensures.free).lanes) in
    search (rules, f, c.meta.view_is)

pub serial_of-requires : goal.serial_of-requires
serial_of-requires c =
    let r : c.deref-3.result.now ≡ c.args.rows.now.metas = search (rules, c.deref-3.ensures.value, c.rows.view_is) in
    let m : c.first_meta-meta.result.now ≡ meta_of c.args.rows.now = c.first_meta-meta.ensures ∙ ap (first_or no_meta) r in
    let f : int_le (pos 1) c.first_meta-meta.result.now.next_serial ≡ true =
    ap (λ (x : MetaRow). int_le (pos 1) x.next_serial) m ∙ (meta_columns c.args.limits c.args.rows.now c.requires c.in_ok-graphs.ensures.free).serial in
    search (rules, f, c.meta.view_is)

pub returns-clause-restored : goal.returns-clause-restored
returns-clause-restored c =
    let r : c.deref-3.result.now ≡ c.args.rows.now.metas = search (rules, c.deref-3.ensures.value, c.rows.view_is) in
    let m : c.first_meta-meta.result.now ≡ meta_of c.args.rows.now = c.first_meta-meta.ensures ∙ ap (first_or no_meta) r in
    let clock : c.in-Some.clock ≡ natural c.first_meta-meta.result.now.now = search (rules, when_some _ _ c.in-Some.clock (sym c.moment_of.ensures ∙ c.in-Some.is), c.meta.view_is) in
    let lanes : c.lanes_of.result ≡ natural c.first_meta-meta.result.now.lanes = search (rules, c.lanes_of.ensures, c.meta.view_is) in
    let serial : c.serial_of.result ≡ natural c.first_meta-meta.result.now.next_serial = search (rules, c.serial_of.ensures, c.meta.view_is) in
    restored_by c.args.limits c.args.rows.now _ c.requires c.in_ok-graphs.ensures.free c.in_ok-pools.ensures.counted
    (parts_are c.args.limits (schedule_of c.args.limits c.args.rows.now) c.in_ok-graphs.field-0.graphs.items _ c.in-Some.clock c.lanes_of.result c.serial_of.result c.in_ok-graphs.field-0.runs.items
    refl c.in_ok-graphs.ensures.graphs c.in_ok-pools.ensures.pools (clock ∙ ap (λ (x : MetaRow). natural x.now) m) (lanes ∙ ap (λ (x : MetaRow). natural x.lanes) m) (serial ∙ ap (λ (x : MetaRow). natural x.next_serial) m) c.in_ok-graphs.ensures.runs)
    c.in_ok-pools.ensures.taken
