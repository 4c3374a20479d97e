use Rattle.std.proofs.Common.{◌∙◌, sym, inl}
use Rattle.record_tables.specs.Holds.{Stores}
use Rattle.meta_store.proofs.LoadLemmas.{none_stands}
use Rattle.meta_store.proofs.laws.a_migrated_record_is_read_as_before.Goals as goal

pub returns-clause-same : goal.returns-clause-same
returns-clause-same c l a b old new rows has migrates before after =
    let stored : Stores new rows = c.migrating_keeps_the_rows.ensures.kept old new rows has migrates in
    (after.read rows (inl stored)).is ∙ sym (before.read rows has).is

pub returns-clause-free : goal.returns-clause-free
returns-clause-free c l a old new rows t n has migrates before fault =
    let stored : Stores new rows = c.migrating_keeps_the_rows.ensures.kept old new rows has migrates in
    none_stands l rows t n (before.read rows has).free (fault.0 rows stored).2
