-- What the columns of a row of run say.
use Rattle.std.specs.Prelude.{Bool, ◌&&◌, int_le}
use Rattle.record_rows.specs.Rows.{RunRow}
use Rattle.record_rules.specs.Numbers.{natural, is_between, is_moment_column}
use Rattle.record_rules.specs.Reading.{kind_of, phase_of}
use Rattle.record_restoring.specs.declared.run_columns.RunColumns.{RunColumns}

-- the three times are moments, the interval does not end before it starts, and the codes are codes
abbrev pub are_columns_right : RunRow → Bool
are_columns_right r =
    (is_moment_column r.logical && (is_moment_column r.data_start && (is_moment_column r.data_end && int_le r.data_start r.data_end)))
    && (is_between 0 2 r.kind && is_between 0 3 r.phase)

-- what the columns say then
abbrev pub columns_in : RunRow → RunColumns
columns_in r = record {
  logical = natural r.logical;
  interval = record { start = natural r.data_start; end = natural r.data_end };
  kind = kind_of (natural r.kind);
  phase = phase_of (natural r.phase);
}
