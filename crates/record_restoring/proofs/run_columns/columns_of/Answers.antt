use Rattle.std.proofs.Common.{◌≡◌, ◌∙◌, rules, true, Some, None}
use Rattle.std.specs.Prelude.{int_le}
use Rattle.graph_file.specs.Lists.{when}
use Rattle.record_rows.specs.Rows.{RunRow}
use Rattle.record_rules.specs.Numbers.{natural, is_between, is_moment_column}
use Rattle.record_rules.specs.Reading.{kind_of, phase_of}
use Rattle.record_restoring.proofs.ColumnLemmas.{no_kind, no_phase, all_columns}
use Rattle.record_restoring.proofs.run_columns.columns_of.Goals as goal

pub returns-in_err-kind : goal.returns-in_err-kind
returns-in_err-kind c =
    let r : RunRow = c.args.row.now in
    let none : when (is_between 0 2 r.kind) (kind_of (natural r.kind)) ≡ None = search (rules, c.kind_of.ensures, c.in_err-kind.was, c.row.view_is) in
    c.from_residual-in_err-kind.ensures ∙ no_kind r none

pub returns-in_err-phase : goal.returns-in_err-phase
returns-in_err-phase c =
    let r : RunRow = c.args.row.now in
    let none : when (is_between 0 3 r.phase) (phase_of (natural r.phase)) ≡ None = search (rules, c.phase_of.ensures, c.in_err-phase.was, c.row.view_is) in
    c.from_residual-in_err-phase.ensures ∙ no_phase r none

pub returns : goal.returns
returns c =
    let r : RunRow = c.args.row.now in
    let logical : when (is_moment_column r.logical) (natural r.logical) ≡ Some c.in_ok-logical.logical = search (rules, c.moment_of.ensures, c.in_ok-logical.was, c.row.view_is) in
    let start : when (is_moment_column r.data_start) (natural r.data_start) ≡ Some c.in_ok-start.start = search (rules, c.moment_of-2.ensures, c.in_ok-start.was, c.row.view_is) in
    let end : when (is_moment_column r.data_end) (natural r.data_end) ≡ Some c.in_ok-end.end = search (rules, c.moment_of-3.ensures, c.in_ok-end.was, c.row.view_is) in
    let forward : int_le r.data_start r.data_end ≡ true = search (rules, c.if-row.false, c.row.view_is) in
    let kind : when (is_between 0 2 r.kind) (kind_of (natural r.kind)) ≡ Some c.in_ok-kind.kind = search (rules, c.kind_of.ensures, c.in_ok-kind.was, c.row.view_is) in
    let phase : when (is_between 0 3 r.phase) (phase_of (natural r.phase)) ≡ Some c.in_ok-phase.phase = search (rules, c.phase_of.ensures, c.in_ok-phase.was, c.row.view_is) in
    all_columns r c.in_ok-logical.logical c.in_ok-start.start c.in_ok-end.end c.in_ok-kind.kind c.in_ok-phase.phase logical start end forward kind phase
