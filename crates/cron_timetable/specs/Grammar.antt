-- What a cron text says, by crontab(5): five fields, each a list of elements; or in their place a preset, as Airflow 2's page
-- 'DAG Runs' lists them.
use Rattle.std.specs.Prelude.{◌≡◌, ◌⊎◌, ℕ, ◌==◌, if◌then◌else◌, List, [], ◌∷◌, slice_index, codes, find, Option, Some, option_map, Result, Ok, Err}
use Rattle.std.specs.List.{slice_split, list_any}
use Rattle.std.specs.Str.{bytes_eq}
use Rattle.moment_core.specs.Moments.{seconds_end}
use Rattle.text_words.specs.Words.{words}
use Rattle.cron_timetable.specs.Sets.{set_of}
use Rattle.cron_timetable.specs.Fields.{Fields}
use Rattle.cron_timetable.specs.Ticks.{IsTick, NoneBetween}
use Rattle.cron_timetable.specs.Elements.{and_then, element_of, in_element}
use Rattle.cron_timetable.specs.declared.elements.Span.{Span}
use Rattle.cron_timetable.specs.declared.faults.CronFault.{CronFault}
use Rattle.cron_timetable.specs.declared.faults.CronFault.TheVariants.{FieldCount, NeverFires, UnknownPreset}
use Rattle.cron_timetable.specs.declared.fields.Field.{Field}
use Rattle.cron_timetable.specs.declared.fields.Field.TheVariants.{Minute, Hour, DayOfMonth, Month, DayOfWeek}

-- the elements that texts write, or the first fault from the left
abbrev pub elements_of : Field → List (List ℕ) → Result (List Span) CronFault
elements_of f [] = Ok []
elements_of f (text ∷ texts) = and_then (element_of f text) (λ e. and_then (elements_of f texts) (λ es. Ok (e ∷ es)))

-- the numbers that some element has
unfoldable pub union_of : Field → List Span → ℕ
union_of f es = set_of (λ n. list_any (λ e. in_element f e n) es)

-- the bytes `,` and `@`
abbrev pub comma : ℕ
comma = 44

abbrev pub at_sign : ℕ
at_sign = 64

-- the set of a field: elements with commas between them
unfoldable pub field_of : Field → List ℕ → Result ℕ CronFault
field_of f text = and_then (elements_of f (slice_split (λ x. x == comma) text)) (λ es. Ok (union_of f es))

-- the sets of five fields, or the first fault from the left
unfoldable pub five_fields : List ℕ → List ℕ → List ℕ → List ℕ → List ℕ → Result Fields CronFault
five_fields a b c d e =
    and_then (field_of Minute a) (λ minutes.
    and_then (field_of Hour b) (λ hours.
    and_then (field_of DayOfMonth c) (λ days.
    and_then (field_of Month d) (λ months.
    and_then (field_of DayOfWeek e) (λ weekdays.
    Ok (record { minutes = minutes; hours = hours; days = days; months = months; weekdays = weekdays }))))))

abbrev pub fields_of_words : List (List ℕ) → Result Fields CronFault
fields_of_words (a ∷ b ∷ c ∷ d ∷ e ∷ []) = five_fields a b c d e
fields_of_words _ = Err FieldCount

-- Airflow's presets, and the five fields that each stands for
abbrev pub presets : List (List ℕ × List ℕ)
presets =
    (codes "@hourly", codes "0 * * * *")
    ∷ (codes "@daily", codes "0 0 * * *")
    ∷ (codes "@weekly", codes "0 0 * * 0")
    ∷ (codes "@monthly", codes "0 0 1 * *")
    ∷ (codes "@quarterly", codes "0 0 1 */3 *")
    ∷ (codes "@yearly", codes "0 0 1 1 *")
    ∷ []

-- the five fields that a preset stands for
unfoldable pub preset_text : List ℕ → Option (List ℕ)
preset_text word = option_map (λ p. p.1) (find (λ p. bytes_eq word p.0) presets)

-- a preset stands alone
abbrev pub preset_fields : List (List ℕ) → Option (List ℕ) → Result Fields CronFault
preset_fields [] (Some text) = fields_of_words (words text)
preset_fields _ _ = Err UnknownPreset

-- a text whose first word begins with `@` is a preset
abbrev pub fields_or_preset : List (List ℕ) → Result Fields CronFault
fields_or_preset [] = Err FieldCount
fields_or_preset (w ∷ ws) =
    if slice_index w 0 == at_sign then preset_fields ws (preset_text w) else fields_of_words (w ∷ ws)

-- what a text says, before it is asked whether it has a tick
unfoldable pub fields_of : List ℕ → Result Fields CronFault
fields_of text = fields_or_preset (words text)

-- the text says these fields, and they have a tick
pub record IsRead (text : List ℕ) (c : Fields) : Type 0 where
  pub fields : fields_of text ≡ Ok c
  pub has_tick : (m : ℕ) × IsTick c m

-- why a text is refused: the first fault in it, or else that it has no tick
abbrev pub FaultOf : List ℕ → CronFault → Type 0
FaultOf text e =
    (fields_of text ≡ Err e) ⊎ ((e ≡ NeverFires) × ((c : Fields) × (fields_of text ≡ Ok c) × NoneBetween c 0 seconds_end))
