-- What was done of a script, between two states of its reader.
-- restates: this project's own profile
use Rattle.std.proofs.Common.{true≢false, refl, sym, arith, append-nil}
use Rattle.std.specs.Prelude.{◌≡◌, ◌&&◌, not, ℕ, max, Bool, true, false, List, [], ◌++◌, map, flat_map, All, Option, Some, None, is_some}
use Rattle.std.specs.Io.KnownBytes.{Appends}
use Rattle.sched_model.specs.Schedule.{Schedule}
use Rattle.script_commands.specs.Commands.{Request, commands_in}
use Rattle.answer_lines.specs.sessions.History.{looks, Step}
use Rattle.answer_lines.specs.sessions.declared.line_reading.Line.{Line}
use Rattle.script_reader.specs.Done.{FileAnswer, Done, IsDone, IsOpen, greatest_status}
use Rattle.script_reader.specs.declared.answers.Answers.{Answers}
use Rattle.script_reader.specs.declared.commands.CommandInput.{CommandInput}
use Rattle.script_reader.specs.declared.reader.ScriptReader.{ScriptReader}
use Rattle.script_reader.specs.declared.scripts.Script.{Script}

-- a reader of this script, of which nothing is read yet
pub record IsNew {R W F P : Type 0} (script : Script R W F P) (reader : ScriptReader R W F P) : Type 0 where
  pub input : reader.commands.input ≡ script.input
  pub answers : reader.answers ≡ record { output = script.output; console = script.console; status = 0; is_written = true }
  pub sources : reader.sources ≡ script.sources
  pub failed : reader.failed ≡ None
  pub over : reader.is_over ≡ false

not_both : (b : Bool) → (b && not b) ≡ true → true ≡ false
not_both true e = sym e
not_both false e = sym e

written : (now : Option (List ℕ)) → Appends now now []
written None = tt
written (Some bytes) = sym (append-nil bytes)

module _ {R W F P : Type 0} (remaining : R → Option (List ℕ)) (contents : W → Option (List ℕ)) (gives : F → List FileAnswer → F → Type 0) where
  -- What was done of a script since its reader stood so (s): commands one after another, with these steps of the run and with what the sources answered; this line
  -- waits for its answer. If the bytes of the script are known, these are its commands, and those of the bytes that are left come next, unless it broke off; where
  -- it has ended, none is left. The greatest status counts each; and where all that was put is written, the output has grown by what shows them. Unless it broke
  -- off, this is so if it was so at first.
  pub record AreDone (s : ScriptReader R W F P) (steps : List Step) (waits : Option Line) (commands : CommandInput R) (answers : Answers W P) (sources : F) (is_broken has_ended : Bool) : Type 0 where
    pub done : List Done
    pub open_asked : List Request
    pub open_texts : List FileAnswer
    pub each : All IsDone done
    pub opens : IsOpen waits open_asked open_texts
    pub texts : gives s.sources (flat_map (λ d. d.texts) done ++ open_texts) sources
    pub stepped : steps ≡ flat_map (λ d. d.steps) done
    pub read : (known : List ℕ) → remaining s.commands.input ≡ Some known
        → (rest : List Request) × (commands_in known ≡ map (λ d. d.asked) done ++ (open_asked ++ rest))
        × (has_ended ≡ true → rest ≡ []) × (is_broken ≡ false → (bytes : List ℕ) × (remaining commands.input ≡ Some bytes) × (rest ≡ commands_in bytes))
    pub status_is : answers.status ≡ max s.answers.status (greatest_status done)
    pub output : answers.is_written ≡ true → Appends (contents s.answers.output) (contents answers.output) (flat_map (λ d. d.shown) done)
    pub kept : is_broken ≡ false → answers.is_written ≡ s.answers.is_written

  -- whatever was done of a script up to the first of these states, while no line waited: up to the second one commands more are done, answered of this schedule,
  -- which was looked at so often
  abbrev pub DoMore : ℕ → Schedule → Option Line → Bool → Bool → CommandInput R → Answers W P → F → CommandInput R → Answers W P → F → Type 0
  DoMore times a waits is_broken has_ended commands answers sources commands' answers' sources' =
      (s : ScriptReader R W F P) (steps : List Step) (ended : Bool) → AreDone s steps None commands answers sources false ended
      → AreDone s (steps ++ looks times a) waits commands' answers' sources' is_broken has_ended

  -- what a reader of scripts was told from one state to another
  abbrev pub Tells : ScriptReader R W F P → List Step → Option Line → ScriptReader R W F P → Type 0
  Tells s steps waits t = AreDone s steps waits t.commands t.answers t.sources (is_some t.failed) (t.is_over && not s.is_over)

  -- where nothing was done, nothing was told
  pub tells_nothing : ((f : F) → gives f [] f) → (s : ScriptReader R W F P) → Tells s [] None s
  unfolding greatest_status
  tells_nothing none s = record {
    done = [];
    open_asked = [];
    open_texts = [];
    each = λ k d below. absurd (omega arith);
    opens = (refl, refl);
    texts = none s.sources;
    stepped = refl;
    read = λ known e. (commands_in known, refl, (λ ends. absurd (true≢false (not_both s.is_over ends))), λ _. (known, e, refl));
    status_is = let zero : greatest_status [] ≡ 0 = refl in omega (arith, zero);
    output = λ _. written (contents s.answers.output);
    kept = λ _. refl;
  }
