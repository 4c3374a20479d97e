-- What a query does inside a transaction, whatever its text is: nothing is committed.
use Rattle.std.proofs.Common.{◌⊎◌, inl, inr, ℕ, List, cond, IsTrue, Some, None, Option, ap, ◌∙◌}
use Rattle.sqlite_value.specs.Order.{Row}
use Rattle.sqlite_schema.specs.declared.command.Returning.{Returning}
use Rattle.sqlite_resolve.specs.declared.compiled.Compiled.{Compiled}
use Rattle.sqlite.specs.declared.error.Error.{Error}
use Rattle.sqlite.specs.State.{State, HasCleanDisk, Survives, KeepsCommit, IsUnchanged, IsRolledBack, IsNotRun, FailsToQuery, FailsToShow, IsTooLate, Shown, ShowsRows}
use Rattle.record_tables.specs.Puts.{GoesBy, Stops}
use Rattle.record_tables.specs.Loads.{Anyhow, Stays}

module _ (sql : List ℕ) (params : Row) (old new : State) where
  same : IsUnchanged old new → KeepsCommit old new
  same h = record { was_open = λ _. h.0.was_open; committed = λ _. h.0.committed_is }

  back : IsRolledBack old new → KeepsCommit old new
  back h = record { was_open = h.was_open; committed = λ is_open. (h.undone is_open).1 }

  shown_by : (c : Compiled) (given : Row) (rows : List Row) (o : Option Returning) → IsTrue old.in_transaction → ShowsRows old new sql c given rows o → KeepsCommit old new × IsTrue new.in_transaction
  shown_by c given rows None inside h = (same h.3, h.3.0.mode ∙ inside)
  shown_by c given rows (Some what) inside h =
      let it = h.1.shown in (
        record { was_open = λ _. it.was_open; committed = λ _. it.committed_is ∙ ap (λ b. cond b old.committed new.now) inside },
        it.mode ∙ inside,
      )

  shown_keeps : (rows : List Row) → IsTrue old.in_transaction → Shown sql params old new rows → KeepsCommit old new × IsTrue new.in_transaction
  unfolding Shown
  shown_keeps rows inside h = shown_by h.0 _ rows h.0.returning inside h.2

  not_run : (e : Error) → IsNotRun old new sql params e → KeepsCommit old new
  unfolding IsNotRun
  not_run e (inl h) = same h.1
  not_run e (inr h) = back h.3

  not_shown : (c : Compiled) (given : Row) (e : Error) (o : Option Returning) → FailsToShow old new sql c given e o → KeepsCommit old new
  not_shown c given e None h = same h.3
  not_shown c given e (Some what) (inl h) = same h.1
  not_shown c given e (Some what) (inr h) = back h.3

  fails_keeps : (e : Error) → FailsToQuery sql params old new e ⊎ IsTooLate sql params old new e → KeepsCommit old new
  unfolding FailsToQuery
  fails_keeps e (inl (inl h)) = not_run e h
  fails_keeps e (inl (inr h)) = not_shown h.0 _ e h.0.returning h.2
  fails_keeps e (inr h) = same h.5

  pub goes_anyhow : (rows : List Row) → (HasCleanDisk new → Shown sql params old new rows) → Survives old new (λ _. ⊥) → GoesBy Anyhow old new
  goes_anyhow rows shown survives = record {
    survives = survives;
    kept = λ clean inside. (shown_keeps rows inside (shown clean)).0;
    inside = λ clean inside. (shown_keeps rows inside (shown clean)).1;
    changed = λ clean inside. tt;
  }

  pub query_stops : (e : Error) → (HasCleanDisk new → FailsToQuery sql params old new e ⊎ IsTooLate sql params old new e) → Survives old new (λ _. ⊥) → Stops old new
  query_stops e fails survives = record { survives = survives; kept = λ clean inside. fails_keeps e (fails clean) }

-- a query that leaves a database that stores a record as it was
pub goes_stay : (old new : State) → GoesBy Anyhow old new → (HasCleanDisk new → Stays old.now new.now) → GoesBy Stays old new
goes_stay old new went stays = record { survives = went.survives; kept = went.kept; inside = went.inside; changed = λ clean inside. stays clean }
