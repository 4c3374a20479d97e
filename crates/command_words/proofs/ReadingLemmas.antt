-- What a command's matches say is never Words, and no event but one that words give.
use Rattle.std.proofs.Common.{◌≡◌, ◌≢◌, Bool, true, false, List, Option, Some, None, refl, ap, ℕ}
use Rattle.std.specs.Prelude.{Result, Ok, Err, if◌then◌else◌, codes, bytes_eq}
use Rattle.clap.specs.Words.{Row, Text, first_of}
use Rattle.graph_file.specs.Names.{is_name}
use Rattle.moment_core.specs.Reading.{read_of}
use Rattle.moment_core.specs.declared.reading.MomentFault.{MomentFault}
use Rattle.sched_events.specs.declared.events.Event.TheVariants as event
use Rattle.command_words.specs.Values.{after, text_at, flag_at, number_at, name_of, moment_from, moment_of, name_at, moment_at, skipped_of, some_name}
use Rattle.command_words.specs.Commands.{command_in, cleared, is_of_words, question_in, time_of}
use Rattle.command_words.specs.declared.commands.Command.{Command}
use Rattle.command_words.specs.declared.commands.Command.TheVariants as command
use Rattle.command_words.specs.declared.commands.Question.{Question}
use Rattle.command_words.specs.declared.commands.TickTime.TheVariants.{At, Now}
use Rattle.command_words.specs.declared.kinds.CommandKind.{CommandKind}
use Rattle.command_words.specs.declared.kinds.CommandKind.TheVariants as kind
use Rattle.command_words.specs.declared.commands.UsageFault.{UsageFault}
use Rattle.command_words.specs.declared.commands.UsageFault.TheVariants.{Words, BadName, BadState}

pub after_not : {A B : Type 0} (r : Result A UsageFault) (f : A → Result B UsageFault) → r ≢ Err Words → ((a : A) → f a ≢ Err Words) → after r f ≢ Err Words
after_not (Ok a) f first rest = rest a
after_not (Err e) f first rest = λ h. first (let same : e ≡ Words = cc in ap Err same)

abbrev NotWords : {A : Type 0} → Result A UsageFault → Type 0
NotWords r = r ≢ Err Words

ok_not : {A : Type 0} (a : A) → NotWords (Ok a)
ok_not a h = cc

name_not : (t : Text) → name_of t ≢ Err Words
name_not t = go (is_name t)
  where
    go : (b : Bool) → (if b then Ok t else Err BadName) ≢ Err Words
    go true h = cc
    go false h = cc

state_not : (t : Text) → skipped_of t ≢ Err Words
state_not t = go (bytes_eq t (codes "skipped"))
  where
    go : (b : Bool) → NotWords {A = Unit {0}} (if b then Ok tt else Err BadState)
    go true = ok_not tt
    go false = λ h. cc

some_not : (o : Option Text) → some_name o ≢ Err Words
some_not None = ok_not None
some_not (Some t) = go (is_name t)
  where
    go : (b : Bool) → (if b then Ok (Some t) else Err BadName) ≢ Err Words
    go true h = cc
    go false h = cc

moment_not : (r : Result ℕ MomentFault) → moment_from r ≢ Err Words
moment_not (Ok m) h = cc
moment_not (Err e) h = cc

time_not : (t : Text) → time_of t ≢ Err Words
time_not t = go (bytes_eq t (codes "now"))
  where
    go : (b : Bool) → (if b then Ok Now else after (moment_of t) (λ m. Ok (At m))) ≢ Err Words
    go true = ok_not Now
    go false = after_not (moment_of t) (λ m. Ok (At m)) (moment_not (read_of t)) (λ m. ok_not (At m))

-- a reading that is not Words, and no event but one that words give
abbrev pub IsFine : Result Command UsageFault → Type 0
IsFine (Ok c) = is_of_words c ≡ true
IsFine (Err e) = e ≢ Words

after_fine : {A : Type 0} (r : Result A UsageFault) (f : A → Result Command UsageFault) → r ≢ Err Words → ((a : A) → IsFine (f a)) → IsFine (after r f)
after_fine (Ok a) f first rest = rest a
after_fine (Err e) f first rest = λ same. first (ap Err same)

name_fine : (id : Text) (rows : List Row) (g : Text → Result Command UsageFault) → ((d : Text) → IsFine (g d)) → IsFine (after (name_at id rows) g)
name_fine id rows g fine = after_fine (name_at id rows) g (name_not (text_at id rows)) fine

moment_fine : (id : Text) (rows : List Row) (g : ℕ → Result Command UsageFault) → ((m : ℕ) → IsFine (g m)) → IsFine (after (moment_at id rows) g)
moment_fine id rows g fine = after_fine (moment_at id rows) g (moment_not (read_of (text_at id rows))) fine

span_fine : (rows : List Row) (g : Text → ℕ → ℕ → Result Command UsageFault) → ((d : Text) (f t : ℕ) → IsFine (g d f t))
    → IsFine (after (name_at (codes "dag") rows) (λ d. after (moment_at (codes "from") rows) (λ f. after (moment_at (codes "to") rows) (g d f))))
span_fine rows g fine = name_fine (codes "dag") rows (λ d. after (moment_at (codes "from") rows) (λ f. after (moment_at (codes "to") rows) (g d f)))
    (λ d. moment_fine (codes "from") rows (λ f. after (moment_at (codes "to") rows) (g d f)) (λ f. moment_fine (codes "to") rows (g d f) (fine d f)))

question_not : (rows : List Row) → question_in rows ≢ Err Words
question_not rows =
    after_not (name_at (codes "dag") rows) (λ d. after (moment_at (codes "logical") rows) (λ l. after (name_at (codes "task") rows) (λ t. Ok (asked d l t)))) (name_not (text_at (codes "dag") rows))
    (λ d. after_not (moment_at (codes "logical") rows) (λ l. after (name_at (codes "task") rows) (λ t. Ok (asked d l t))) (moment_not (read_of (text_at (codes "logical") rows)))
    (λ l. after_not (name_at (codes "task") rows) (λ t. Ok (asked d l t)) (name_not (text_at (codes "task") rows)) (λ t. ok_not (asked d l t))))
  where
    asked : Text → ℕ → Text → Question
    asked d l t = record { graph = d; logical = l; task = t }

pub command_fine : (k : CommandKind) (rows : List Row) → IsFine (command_in k rows)
command_fine kind.Run rows = refl
command_fine kind.List rows = refl
command_fine kind.Explain rows = after_fine (question_in rows) (λ q. Ok (command.Explain q)) (question_not rows) (λ q. refl)
command_fine kind.Trigger rows = name_fine (codes "dag") rows (λ d. Ok (command.Step (event.Trigger d))) (λ d. refl)
command_fine kind.Pause rows = name_fine (codes "dag") rows (λ d. Ok (command.Step (event.Pause d))) (λ d. refl)
command_fine kind.Unpause rows = name_fine (codes "dag") rows (λ d. Ok (command.Step (event.Unpause d))) (λ d. refl)
command_fine kind.Backfill rows = span_fine rows (λ d f t. Ok (command.Step (event.Backfill d f t (flag_at (codes "reset") rows)))) (λ d f t. refl)
command_fine kind.Clear rows = span_fine rows (λ d f t. after (some_name (first_of (codes "task") rows)) (λ k. Ok (cleared rows d f t k)))
    (λ d f t. after_fine (some_name (first_of (codes "task") rows)) (λ k. Ok (cleared rows d f t k)) (some_not (first_of (codes "task") rows)) (λ k. refl))
command_fine kind.Mark rows =
    after_fine (question_in rows) (λ q. after (skipped_of state) (λ s. Ok (marked q))) (question_not rows)
    (λ q. after_fine (skipped_of state) (λ s. Ok (marked q)) (state_not state) (λ s. refl))
  where
    state : Text
    state = text_at (codes "state") rows

    marked : Question → Command
    marked q = command.Step (event.Mark q.graph q.logical q.task)
command_fine kind.Resize rows =
    name_fine (codes "pool") rows (λ p. Ok (command.Step (event.Resize p (number_at 0 1000000 (codes "size") rows)))) (λ p. refl)
command_fine kind.Load rows = refl
command_fine kind.Replace rows = refl
command_fine kind.Tick rows =
    after_fine (time_of (text_at (codes "moment") rows)) (λ t. Ok (command.Tick t)) (time_not (text_at (codes "moment") rows)) (λ t. refl)
command_fine kind.Drain rows = refl
