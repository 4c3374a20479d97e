-- What is read of a cron text is what the definition makes of it.
use Rattle.std.proofs.Common.{◌≡◌, ℕ, zero, suc, ◌<◌, true, false, List, [], Option, Some, None, IsOk, not, is_some, is_none, unwrap_or, option_and_then, Result, Ok, Err, refl, arith, inl, inr}
use Rattle.std.proofs.lemmas.Bool.{or_right}
use Rattle.std.proofs.Math.Nat.{eq-or-lt_of_le}
use Rattle.moment_core.specs.Moments.{seconds_end}
use Rattle.cron_timetable.specs.Fields.{Fields, fires}
use Rattle.cron_timetable.specs.Grammar.{fields_of, IsRead, FaultOf}
use Rattle.cron_timetable.specs.declared.faults.CronFault.{CronFault}
use Rattle.cron_timetable.specs.declared.timetables.Timetable.TheVariants.{Cron}
use Rattle.std.specs.Option.{option_or}
use Rattle.std.specs.Result.{result_err}
use Rattle.toml.specs.Data.{Data, as_str}
use Rattle.graph_file.specs.Lists.{holds_at}
use Rattle.graph_file.specs.Classes.{is_text}
use Rattle.graph_file.specs.Values.{text_in}
use Rattle.graph_file.specs.Schedules.{fires_before, firing, timetable_of, schedule_fault}
use Rattle.graph_file.specs.declared.keys.Role.TheVariants as role

one_fires : (n m : ℕ) (c : Fields) → m < n → fires c m ≡ true → fires_before n c ≡ true
unfolding fires_before
one_fires zero m c h fired = absurd (omega arith)
one_fires (suc n) m c h fired = elim (eq-or-lt_of_le {n = m} {m = n} (omega arith)) [
  | inl same ↦ rw (← same, fired) refl
  | inr less ↦ or_right (fires c n) (fires_before n c) (one_fires n m c less fired)
]

none_fires : (n : ℕ) (c : Fields) → ((k : ℕ) → k < n → fires c k ≡ false) → fires_before n c ≡ false
unfolding fires_before
none_fires zero c h = refl
none_fires (suc n) c h = rw (h n (omega arith)) (none_fires n c (λ k less. h k (omega arith)))

pub read_firing : (text : List ℕ) (c : Fields) → IsRead text c → firing (fields_of text) ≡ Ok (Cron c)
read_firing text c r = rw (r.fields, one_fires seconds_end r.has_tick.0 c r.has_tick.1.0 r.has_tick.1.1) refl

pub refused_firing : (text : List ℕ) (e : CronFault) → FaultOf text e → firing (fields_of text) ≡ Err e
refused_firing text e (inl refused) = rw refused refl
refused_firing text e (inr never) = rw (never.1.1, none_fires seconds_end never.1.0 (λ k less. never.1.2 k (omega arith) less), never.0) refl

read_ok : {A E : Type 0} (r : Result A E) → result_err r ≡ None → IsOk r
read_ok (Ok x) h = refl
read_ok (Err e) h = cc

schedule_text : (s : Option (List ℕ)) → not (is_some s) ≡ false → option_and_then (λ x. result_err (timetable_of x)) s ≡ None → IsOk (timetable_of (unwrap_or s []))
schedule_text None wrong good = cc
schedule_text (Some x) wrong good = read_ok (timetable_of x) good

-- a required schedule is read
pub schedule_there : (o a : Option Data) → holds_at (λ d. not (is_text d)) o ≡ false → is_none o ≡ false → option_and_then (schedule_fault role.Schedule) o ≡ None → IsOk (timetable_of (text_in (option_or o a)))
schedule_there None a wrong missing good = cc
schedule_there (Some d) a wrong missing good = schedule_text (as_str d) wrong good
