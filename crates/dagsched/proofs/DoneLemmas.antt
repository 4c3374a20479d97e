-- What is done on a record, from what the crates below promise.
use Rattle.std.proofs.Common.{◌≡◌, ◌∙◌, ◌⊎◌, ◌==◌, ℕ, Bool, true, false, not, true≢false, List, [], ◌∷◌, length, Option, None, Some, Err, is_some, refl, sym, ap, subst, inl, inr, ne_eqb, arith}
use Rattle.std.specs.Io.KnownBytes.{Appends}
use Rattle.std.specs.List.{list_any}
use Rattle.sqlite.specs.Schema.{Schema}
use Rattle.sqlite.specs.Table.{Table}
use Rattle.sqlite.specs.Held.{Held}
use Rattle.sqlite.specs.State.{State, HasCleanDisk}
use Rattle.meta_store.specs.Faults.{IsOfSqlite}
use Rattle.meta_store.specs.Stores.{has_record_table}
use Rattle.meta_store.specs.declared.faults.StoreFault.{StoreFault}
use Rattle.meta_store.specs.declared.faults.StoreFault.TheVariants as store
use Rattle.director.specs.declared.faults.Fault.TheVariants.{Memory}
use Rattle.director.proofs.ListLemmas.{survives_itself}
use Rattle.operators.specs.declared.operators.Operator as operator
use Rattle.command_words.specs.declared.commands.Command.{Command}
use Rattle.command_words.specs.declared.commands.Command.TheVariants as says
use Rattle.command_words.specs.declared.commands.ScriptOptions.{ScriptOptions}
use Rattle.command_runner.specs.Events.{IsUnopened}
use Rattle.command_runner.specs.Looks.{IsRead}
use Rattle.script_reader.specs.Done.{FileAnswer}
use Rattle.script_runner.proofs.LessLemmas.{by_team_less}
use Rattle.dagsched.specs.Commands.{IsAnsweredOn, IsCommandDone}
use Rattle.dagsched.specs.Records.{has_tables, IsDoneOn, IsNotMade}
use Rattle.dagsched.specs.Scripts.{IsNotOpened, IsScriptDone, IsScriptOf, IsScriptRun}

-- nothing is known of bytes that are not known
no_bytes : (read : Option (List ℕ)) (bytes : List ℕ) → None ≡ Some bytes → read ≡ Some bytes
no_bytes read bytes is = absurd (true≢false (sym (ap is_some is)))

-- a script that was run, where less is known of its streams
pub script_less : {S O F W : Type 0} (look : Held S → State) (o : operator.Ghosts O) (bytes : Option (List ℕ)) (gives : F → List FileAnswer → F → Type 0) (contents : W → Option (List ℕ)) (options : ScriptOptions) (sources : F) (output : W) (before after : Held S) (status : ℕ) (later : F) (written : W)
    → IsScriptOf look o bytes gives contents options sources output before after status later written → IsScriptRun look o options before after status
script_less look o bytes gives contents options sources output before after status later written (inl run) =
    inl
    (by_team_less bytes None (λ given. gives sources given later) (λ _. Unit {0}) (λ _. Unit {0}) (λ _. Unit {0}) (λ shown. Appends (contents output) (contents written) shown) (λ _. Unit {0})
    (no_bytes bytes) (λ _ _. tt) (λ _ _. tt) (λ _ _. tt) look o (later ≡ sources) (Unit {0}) (λ _. tt) options.workers options.lanes (look before) after status run)
script_less look o bytes gives contents options sources output before after status later written (inr (unopened, same, kept)) = inr unopened

-- no tables: none of these
none_named : (is_named : Table → Bool) (tables : List Table) → not (length tables == 0) ≡ false → list_any is_named tables ≡ false
none_named is_named [] none = refl
none_named is_named (t ∷ ts) none = absurd (true≢false (sym (ap not (ne_eqb (length (t ∷ ts)) 0 (λ e. absurd (omega (arith, e))))) ∙ none))

-- the cause for which no record was made in a database that has no tables
pub unmade_cause : (fault : StoreFault) (schema : Schema) → has_tables schema ≡ false → IsOfSqlite fault ⊎ (has_record_table schema ≡ true) → IsOfSqlite fault
unmade_cause fault schema none (inl of_sqlite) = of_sqlite
unmade_cause fault schema none (inr named) = absurd (true≢false (sym named ∙ none_named _ schema.tables none))

-- ---- where memory ran out before anything was done
pub not_made : (status : ℕ) → status ≡ 4 → IsNotMade status
not_made status is = (store.Memory, Memory, inl refl, inl (refl, refl), inr is)

module _ {S : Type 0} (look : Held S → State) (before : Held S) (status : ℕ) (is : status ≡ 4) where
  unopened : IsUnopened look (look before) Memory before
  unopened = record {
    cause = λ _. tt;
    given = λ _. tt;
    kept = λ _ _. inl (refl, refl);
    crash = survives_itself (look before);
    refused_crash = λ refused. absurd refused;
  }

  pub not_opened : IsNotOpened look before before status
  not_opened = (Memory, unopened, inr is)

  unread : IsRead look before before (Err Memory)
  unread = record {
    schedule = tt;
    fault = (store.Memory, inl (refl, refl), λ _. tt);
    given = λ _. tt;
    kept = λ _ _. (refl, refl);
    crash = survives_itself (look before);
  }

  pub not_begun : (c : Command) (output : Option (List ℕ)) → IsAnsweredOn look c output output before before status
  not_begun (says.Step e) output = (false, inr (Memory, unopened, is))
  not_begun (says.List listing) output = (false, (Err Memory, unread, is))
  not_begun (says.Explain question) output = (false, (Err Memory, unread, is))
  not_begun (says.Run options) output = (false, (refl, is))
  not_begun (says.Take how source) output = (false, (refl, is))
  not_begun (says.Tick time) output = (false, (refl, is))
  not_begun says.Drain output = (false, (refl, is))

-- ---- a disk that is in order after a command was so before
module _ {S O : Type 0} (look : Held S → State) (o : operator.Ghosts O) where
  as_it_was : (before after : Held S) → after ≡ before → HasCleanDisk (look after) → HasCleanDisk (look before)
  as_it_was before after same clean = subst (λ (h : Held S). HasCleanDisk (look h)) same clean

  script_clean : (options : ScriptOptions) (before after : Held S) (status : ℕ) → IsScriptDone look o options before after status → HasCleanDisk (look after) → HasCleanDisk (look before)
  script_clean options before after status (inl (inl run)) clean = run.run.run.was_clean clean
  script_clean options before after status (inl (inr (fault, unopened, is))) clean = omega (arith, unopened.crash.clean, clean)
  script_clean options before after status (inr held) clean = as_it_was before after held.0 clean

  pub done_clean : (c : Command) (before after : Held S) (status : ℕ) → IsCommandDone look o c before after status → HasCleanDisk (look after) → HasCleanDisk (look before)
  done_clean (says.Run options) before after status done clean = script_clean options before after status done clean
  done_clean (says.Step e) before after status (old, new, (written, inl (came, a, stepped, told))) clean = stepped.was_clean clean
  done_clean (says.Step e) before after status (old, new, (written, inr (fault, unopened, told))) clean = omega (arith, unopened.crash.clean, clean)
  done_clean (says.List listing) before after status (old, new, (written, (read, looked, told))) clean = omega (arith, looked.crash.clean, clean)
  done_clean (says.Explain question) before after status (old, new, (written, (read, looked, told))) clean = omega (arith, looked.crash.clean, clean)
  done_clean (says.Take how source) before after status (old, new, (written, told)) clean = as_it_was before after told.0 clean
  done_clean (says.Tick time) before after status (old, new, (written, told)) clean = as_it_was before after told.0 clean
  done_clean says.Drain before after status (old, new, (written, told)) clean = as_it_was before after told.0 clean

  pub on_clean : (c : Command) (conn after : Held S) (status : ℕ) → IsDoneOn look o c conn after status → HasCleanDisk (look after) → HasCleanDisk (look conn)
  on_clean c conn after status (inl (first, inl (some, same), done)) clean = as_it_was conn first same (done_clean c first after status done clean)
  on_clean c conn after status (inl (first, inr (none, made), done)) clean =
      let was : HasCleanDisk (look first) = done_clean c first after status done clean in
      omega (arith, made.crash.clean, was)
  on_clean c conn after status (inr unmade) clean = omega (arith, unmade.undone.crash.clean, clean)
