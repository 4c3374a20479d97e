-- What was done of a script, after one command more.
use Rattle.std.proofs.Common.{◌≡◌, ◌∙◌, inl, inr, ℕ, ◌+◌, Bool, true, false, true≢false, List, [], ◌∷◌, ◌++◌, map, flat_map, Option, Some, None, is_none, Result, Ok, Err, is_err, is_ok, refl, sym, ap, subst, arith, append_assoc, append-nil}
use Rattle.std.proofs.lemmas.Grind.{flat_map-append}
use Rattle.std.proofs.lemmas.List.{map-append, replicate_more}
use Rattle.std.proofs.lemmas.List.Elements.{All-push}
use Rattle.std.specs.Io.KnownBytes.{Appends}
use Rattle.std.specs.Result.{IsErrAnd}
use Rattle.sched_model.specs.Schedule.{Schedule}
use Rattle.sched_model.specs.States.{in_flight}
use Rattle.sched_events.specs.declared.answers.Answer.{Answer}
use Rattle.sched_events.specs.declared.events.Event.{Event}
use Rattle.command_words.specs.Commands.{taken}
use Rattle.command_words.specs.declared.takings.Taking.{Taking}
use Rattle.command_words.specs.declared.takings.Taking.TheVariants as takings
use Rattle.script_commands.specs.Commands.{Request, IsNext, IsFirst, IsGiven, commands_in}
use Rattle.script_commands.specs.declared.commands.ScriptCommand.TheVariants.{Step, TakeFile, TickNow, Drain, List as ListRows, Explain}
use Rattle.answer_lines.specs.sessions.History.{looks, ArePolled, AreReported, Asked, Looked, Step as RunStep, Told}
use Rattle.answer_lines.specs.sessions.Lines.{may_be_read, Takes}
use Rattle.answer_lines.specs.sessions.Faults.{Fault}
use Rattle.answer_lines.specs.sessions.declared.clocks.ClockFault.{ClockFault}
use Rattle.answer_lines.specs.sessions.declared.line_reading.Line.{Line}
use Rattle.answer_lines.specs.sessions.declared.line_reading.Line.TheVariants as Says
use Rattle.answer_lines.specs.RunFaults.{clock_text}
use Rattle.answer_lines.specs.Shown.{shown_text}
use Rattle.answer_lines.specs.declared.shown.Shown.TheVariants.{Done as ShowsDone}
use Rattle.script_reader.specs.Answers.{IsPut}
use Rattle.script_reader.specs.Commands.{Answered, Does, Leaves, is_end, line_of}
use Rattle.script_reader.specs.Done.{AnswersMore, FileAnswer, Done, IsDone, IsEventAnswered, MayBeDone, IsOpen}
use Rattle.script_reader.specs.Readers.{AreDone}
use Rattle.script_reader.specs.Statuses.{shown_for, status_of}
use Rattle.script_reader.specs.declared.answers.Answers.{Answers}
use Rattle.script_reader.specs.declared.commands.CommandInput.{CommandInput}
use Rattle.script_reader.specs.declared.reader.ScriptReader.{ScriptReader}
use Rattle.script_reader.proofs.ShownLemmas.{put_more, still_written}
use Rattle.script_reader.proofs.StatusLemmas.{at_once, given_done, raised}

abbrev pub texts_in : List Done → List FileAnswer
texts_in done = flat_map (λ (d : Done). d.texts) done

abbrev pub asked_in : List Done → List Request
asked_in done = map (λ (d : Done). d.asked) done

abbrev pub shown_in : List Done → List ℕ
shown_in done = flat_map (λ (d : Done). d.shown) done

one_more : {X A : Type 0} (f : X → List A) (xs : List X) (x : X) → flat_map f (xs ++ x ∷ []) ≡ flat_map f xs ++ f x
one_more f xs x = flat_map-append f xs (x ∷ []) ∙ ap (λ l. flat_map f xs ++ l) (append-nil (f x))

asked_more : (done : List Done) (d : Done) (rest : List Request) → asked_in (done ++ d ∷ []) ++ rest ≡ asked_in done ++ (d.asked ∷ rest)
asked_more done d rest = ap (λ l. l ++ rest) (map-append (λ (x : Done). x.asked) done (d ∷ [])) ∙ append_assoc (asked_in done) (d.asked ∷ []) rest

-- the event that takes in a text may be read
pub taken_may_be_read : (taking : Taking) (text : List ℕ) → may_be_read (Says.Event (taken taking text)) ≡ true
taken_may_be_read takings.Load text = refl
taken_may_be_read takings.Replace text = refl

pub is_end_none : (E : Type 0) (next : Option Line) → is_none next ≡ is_end {E = E} (Ok next)
is_end_none E None = refl
is_end_none E (Some line) = refl

pub as_ok : (E : Type 0) (a b : Option Line) → a ≡ b → ◌≡◌ {A = Result (Option Line) E} (Ok a) (Ok b)
as_ok E a b e = ap (λ (x : Option Line). let r : Result (Option Line) E = Ok x in r) e

-- the schedule is looked at once more
pub one_look_more : (told : List RunStep) (times : ℕ) (a : Schedule) → (told ++ looks times a) ++ looks 1 a ≡ told ++ looks (times + 1) a
one_look_more told times a = append_assoc told (looks times a) (looks 1 a) ∙ ap (λ (l : List RunStep). told ++ l) (replicate_more times (Looked a))

-- ---- what a command leaves to the run
leaves_given : (wanted given : Request) (texts : List FileAnswer) (line : Line) → IsGiven wanted given → Leaves given texts line → given ≡ wanted
leaves_given wanted given texts line (inl same) l = same
leaves_given wanted given texts line (inr (memory, lack)) l = absurd (subst (λ (r : Request). Leaves r texts line) memory l)

left_to_run : (r : Request) (texts : List FileAnswer) (line : Line) → Leaves r texts line → IsOpen (Some line) (r ∷ []) texts
left_to_run (Ok (Step e)) texts line (none, is) = subst (λ (l : Line). IsOpen (Some l) (Ok (Step e) ∷ []) texts) (sym is) (inl (refl, none))
left_to_run (Ok (TakeFile taking path)) texts line (text, asked, is) = subst (λ (l : Line). IsOpen (Some l) (Ok (TakeFile taking path) ∷ []) texts) (sym is) (inr (taking, path, text, refl, asked, refl))
left_to_run (Ok TickNow) texts line (none, is) = subst (λ (l : Line). IsOpen (Some l) (Ok TickNow ∷ []) texts) (sym is) (refl, none)
left_to_run (Ok Drain) texts line (none, is) = subst (λ (l : Line). IsOpen (Some l) (Ok Drain ∷ []) texts) (sym is) (refl, none)
left_to_run (Ok (ListRows listing)) texts line is = absurd is
left_to_run (Ok (Explain question)) texts line is = absurd is
left_to_run (Err fault) texts line is = absurd is

-- ---- the line that waits is answered
-- the command that waited, and what may be done of it so
pub record IsClosed (asked : List Request) (texts : List FileAnswer) (told : List RunStep) (status : ℕ) (shown : List ℕ) : Type 0 where
  pub one : Request
  pub is : asked ≡ one ∷ []
  pub done : MayBeDone one texts told status shown

answered : (e : Event) (q : Result Answer Fault) (since : List RunStep) → since ≡ [] → IsEventAnswered e (since ++ Told e q ∷ []) (status_of q) (shown_for e q)
answered e q since none = (q, ap (λ (l : List RunStep). l ++ Told e q ∷ []) none, refl, refl)

pub closed : (line : Line) (asked : List Request) (texts : List FileAnswer) (e : Event) (q : Result Answer Fault) (since : List RunStep) → IsOpen (Some line) asked texts → Takes line e since
    → IsClosed asked texts (since ++ Told e q ∷ []) (status_of q) (shown_for e q)
closed (Says.Event x) asked texts e q since (inl (one, none)) (same, at) = record {
  one = Ok (Step x);
  is = one;
  done = (none, inl (subst (λ (y : Event). IsEventAnswered y (since ++ Told e q ∷ []) (status_of q) (shown_for e q)) (sym same) (answered e q since at)));
}
closed (Says.Event x) asked texts e q since (inr (taking, path, text, one, read, takes)) (same, at) = record {
  one = Ok (TakeFile taking path);
  is = one;
  done = inr (text, read, subst (λ (y : Event). IsEventAnswered y (since ++ Told e q ∷ []) (status_of q) (shown_for e q)) (sym same ∙ takes) (answered e q since at));
}
closed Says.TickNow asked texts e q since (one, none) (moment, b, polled, same, are, at) = record {
  one = Ok TickNow;
  is = one;
  done = (
    none,
    inr (
      b,
      moment,
      polled,
      Told e q ∷ [],
      ap (λ (l : List RunStep). l ++ Told e q ∷ []) at ∙ append_assoc polled (Asked b (Ok moment) ∷ []) (Told e q ∷ []),
      are,
      subst (λ (y : Event). IsEventAnswered y (Told e q ∷ []) (status_of q) (shown_for e q)) same (answered e q [] refl),
    ),
  );
}
closed Says.Drain asked texts e q since waits takes = absurd takes

pub closed_untold : (asked : List Request) (texts : List FileAnswer) (b : Schedule) (fault : ClockFault) (polled : List RunStep) → ArePolled polled → IsOpen (Some Says.TickNow) asked texts
    → IsClosed asked texts (polled ++ Asked b (Err fault) ∷ []) 4 (clock_text fault)
closed_untold asked texts b fault polled are (one, none) = record { one = Ok TickNow; is = one; done = (none, inl (b, fault, polled, refl, are, refl, refl)) }

pub closed_drain : (asked : List Request) (texts : List FileAnswer) (a : Schedule) (heard : List RunStep) → AreReported heard → in_flight a ≡ 0 → IsOpen (Some Says.Drain) asked texts → IsClosed asked texts (heard ++ looks 1 a) 0 (shown_text ShowsDone)
closed_drain asked texts a heard are idle (one, none) = record { one = Ok Drain; is = one; done = (none, ((a, heard, refl, are, idle), refl, refl)) }

-- ---- the command that comes next: what is given for it, and what is left
pub record Next (first left' : Option (List ℕ)) (done : List Request) (given : Request) : Type 0 where
  pub wanted : Request
  pub same : IsGiven wanted given
  pub read : (known : List ℕ) → first ≡ Some known → (bytes : List ℕ) × (left' ≡ Some bytes) × (commands_in known ≡ done ++ (wanted ∷ commands_in bytes))

next : (first left left' : Option (List ℕ)) (done : List Request) (given : Request) → ((known : List ℕ) → first ≡ Some known → (bytes : List ℕ) × (left ≡ Some bytes) × (commands_in known ≡ done ++ commands_in bytes)) → ((known : List ℕ) → left ≡ Some known → IsNext known (Some given) left') → Next first left' done given
next None left left' done given read is = record { wanted = given; same = inl refl; read = λ known e. cc }
next (Some known) left left' done given read is =
    let at : (bytes : List ℕ) × (left ≡ Some bytes) × (commands_in known ≡ done ++ commands_in bytes) = read known refl in
    let now : IsFirst (commands_in at.0) given left' = is at.0 at.1 in
    record {
      wanted = now.wanted;
      same = now.same;
      read = λ other e.
          let here : commands_in other ≡ commands_in known = cc in
          (now.left, now.known, here ∙ (at.2 ∙ ap (λ (rs : List Request). done ++ rs) now.first));
    }

module _ {R W F P : Type 0} (remaining : R → Option (List ℕ)) (contents : W → Option (List ℕ)) (gives : F → List FileAnswer → F → Type 0) (s : ScriptReader R W F P) (steps : List RunStep) where
  -- what a read gives
  abbrev Reads : CommandInput R → CommandInput R → Option Request → Type 0
  Reads commands commands' asked = (known : List ℕ) → remaining commands.input ≡ Some known → IsNext known asked (remaining commands'.input)

  -- ---- the same where more is put, or is told of, and nothing more is done
  pub flushed : {T E : Type 0} (waits : Option Line) (commands : CommandInput R) (answers answers' : Answers W P) (sources : F) (put : Result T E) (is_broken ended : Bool) → (is_broken ≡ false → is_ok put ≡ true) → IsPut contents [] 0 put answers answers'
      → AreDone remaining contents gives s steps waits commands answers sources is_broken ended → AreDone remaining contents gives s steps waits commands answers' sources is_broken ended
  flushed waits commands answers answers' sources put is_broken ended fine p h = record {
    done = h.done;
    open_asked = h.open_asked;
    open_texts = h.open_texts;
    each = h.each;
    opens = h.opens;
    texts = h.texts;
    stepped = h.stepped;
    read = h.read;
    status_is = omega (arith, p.status_is, h.status_is);
    output = λ written. subst (λ l. Appends (contents s.answers.output) (contents answers'.output) l) (append-nil (shown_in h.done)) (put_more contents (contents s.answers.output) [] 0 put answers answers' (shown_in h.done) p h.output written);
    kept = λ sound. still_written contents [] 0 put answers answers' p (fine sound) ∙ h.kept sound;
  }

  -- the console has heard of what comes
  pub heard : (waits : Option Line) (commands : CommandInput R) (answers answers' : Answers W P) (sources : F) (is_broken ended : Bool) → answers' ≡ record answers { console = answers'.console }
      → AreDone remaining contents gives s steps waits commands answers sources is_broken ended → AreDone remaining contents gives s steps waits commands answers' sources is_broken ended
  heard waits commands answers answers' sources is_broken ended same h = record {
    done = h.done;
    open_asked = h.open_asked;
    open_texts = h.open_texts;
    each = h.each;
    opens = h.opens;
    texts = h.texts;
    stepped = h.stepped;
    read = h.read;
    status_is = ap (λ (a : Answers W P). a.status) same ∙ h.status_is;
    output = λ written. subst (λ (o : W). Appends (contents s.answers.output) (contents o) (shown_in h.done)) (sym (ap (λ (a : Answers W P). a.output) same)) (h.output (sym (ap (λ (a : Answers W P). a.is_written) same) ∙ written));
    kept = λ sound. ap (λ (a : Answers W P). a.is_written) same ∙ h.kept sound;
  }

  -- it is not said to have ended where it was not said before
  pub ended_less : (waits : Option Line) (commands : CommandInput R) (answers : Answers W P) (sources : F) (is_broken ended ended' : Bool) → (ended' ≡ true → ended ≡ true)
      → AreDone remaining contents gives s steps waits commands answers sources is_broken ended → AreDone remaining contents gives s steps waits commands answers sources is_broken ended'
  ended_less waits commands answers sources is_broken ended ended' less h = record {
    done = h.done;
    open_asked = h.open_asked;
    open_texts = h.open_texts;
    each = h.each;
    opens = h.opens;
    texts = h.texts;
    stepped = h.stepped;
    read = λ known e. let r = h.read known e in (r.0, r.1, (λ is. r.2 (less is)), r.3);
    status_is = h.status_is;
    output = h.output;
    kept = h.kept;
  }

  -- the console was told something
  pub same_answers : (waits : Option Line) (commands : CommandInput R) (answers answers' : Answers W P) (sources : F) (is_broken ended : Bool) → answers'.status ≡ answers.status → answers'.is_written ≡ answers.is_written → answers'.output ≡ answers.output
      → AreDone remaining contents gives s steps waits commands answers sources is_broken ended → AreDone remaining contents gives s steps waits commands answers' sources is_broken ended
  same_answers waits commands answers answers' sources is_broken ended status written output h = record {
    done = h.done;
    open_asked = h.open_asked;
    open_texts = h.open_texts;
    each = h.each;
    opens = h.opens;
    texts = h.texts;
    stepped = h.stepped;
    read = h.read;
    status_is = status ∙ h.status_is;
    output = λ is. subst (λ (w : W). Appends (contents s.answers.output) (contents w) (shown_in h.done)) (sym output) (h.output (sym written ∙ is));
    kept = λ sound. written ∙ h.kept sound;
  }

  -- ---- one command more
  module _ (commands : CommandInput R) (answers : Answers W P) (sources : F) (ended : Bool) (h : AreDone remaining contents gives s steps None commands answers sources false ended) where
    none_open : gives s.sources (texts_in h.done) sources
    none_open = subst (λ l. gives s.sources l sources) (ap (λ l. texts_in h.done ++ l) h.opens.1 ∙ append-nil (texts_in h.done)) h.texts

    none_left : (known : List ℕ) → remaining s.commands.input ≡ Some known → (bytes : List ℕ) × (remaining commands.input ≡ Some bytes) × (commands_in known ≡ asked_in h.done ++ commands_in bytes)
    none_left known e =
        let r = h.read known e in
        let b = r.3 refl in
        (b.0, b.1, r.1 ∙ ap (λ l. asked_in h.done ++ (l ++ r.0)) h.opens.0 ∙ ap (λ l. asked_in h.done ++ l) b.2)

    -- it could not be read further
    pub broken : (commands' : CommandInput R) → AreDone remaining contents gives s steps None commands' answers sources true false
    broken commands' = record {
      done = h.done;
      open_asked = [];
      open_texts = [];
      each = h.each;
      opens = (refl, refl);
      texts = subst (λ l. gives s.sources l sources) (sym (append-nil (texts_in h.done))) none_open;
      stepped = h.stepped;
      read = λ known e. let l = none_left known e in (commands_in l.0, l.2, (λ no. absurd (true≢false (sym no))), λ no. absurd (true≢false no));
      status_is = h.status_is;
      output = h.output;
      kept = λ no. absurd (true≢false no);
    }

    -- no line is left
    pub over : (commands' : CommandInput R) → Reads commands commands' None → AreDone remaining contents gives s steps None commands' answers sources false true
    unfolding commands_in
    over commands' is = record {
      done = h.done;
      open_asked = [];
      open_texts = [];
      each = h.each;
      opens = (refl, refl);
      texts = subst (λ l. gives s.sources l sources) (sym (append-nil (texts_in h.done))) none_open;
      stepped = h.stepped;
      read = λ known e.
          let l = none_left known e in
          let n = is l.0 l.1 in
          ([], l.2 ∙ ap (λ r. asked_in h.done ++ r) n.0, (λ _. refl), λ _. ([], n.1, refl));
      status_is = h.status_is;
      output = h.output;
      kept = λ _. h.kept refl;
    }

    module _ (commands' : CommandInput R) (given : Request) (is : Reads commands commands' (Some given)) (sources' : F) (texts : List FileAnswer) (to : AnswersMore gives texts sources sources') where
      after : Next (remaining s.commands.input) (remaining commands'.input) (asked_in h.done) given
      after = next (remaining s.commands.input) (remaining commands.input) (remaining commands'.input) (asked_in h.done) given none_left is

      -- it leaves a line to the run
      line_more : (line : Line) → Leaves given texts line → AreDone remaining contents gives s steps (Some line) commands' answers sources' false false
      line_more line leaves =
          let n = after in
          record {
            done = h.done;
            open_asked = n.wanted ∷ [];
            open_texts = texts;
            each = h.each;
            opens = subst (λ (r : Request). IsOpen (Some line) (r ∷ []) texts) (leaves_given n.wanted given texts line n.same leaves) (left_to_run given texts line leaves);
            texts = to s.sources (texts_in h.done) none_open;
            stepped = h.stepped;
            read = λ known e. let r = n.read known e in (commands_in r.0, r.2, (λ no. absurd (true≢false (sym no))), λ _. (r.0, r.1, refl));
            status_is = h.status_is;
            output = h.output;
            kept = λ _. h.kept refl;
          }

      -- it is answered, and its answer is written or not
      answer_more : {T E : Type 0} (a : Schedule) (put : Result T E) (answers' : Answers W P) (is_broken : Bool) → (is_broken ≡ false → is_ok put ≡ true) → Answered contents a given texts put answers answers'
          → AreDone remaining contents gives s (steps ++ looks 1 a) None commands' answers' sources' is_broken false
      answer_more a put answers' is_broken fine (own, text, at, p) =
          let n = after in
          let d : Done = record { asked = n.wanted; texts = texts; steps = looks 1 a; status = own; shown = text } in
          record {
            done = h.done ++ d ∷ [];
            open_asked = [];
            open_texts = [];
            each = All-push IsDone h.done d h.each (given_done n.wanted given texts (looks 1 a) own text n.same (at_once a given texts own text at));
            opens = (refl, refl);
            texts = subst (λ l. gives s.sources l sources') (sym (append-nil (texts_in (h.done ++ d ∷ [])) ∙ one_more (λ (x : Done). x.texts) h.done d)) (to s.sources (texts_in h.done) none_open);
            stepped = ap (λ l. l ++ looks 1 a) h.stepped ∙ sym (one_more (λ (x : Done). x.steps) h.done d);
            read = λ known e. let r = n.read known e in (commands_in r.0, r.2 ∙ sym (asked_more h.done d (commands_in r.0)), (λ no. absurd (true≢false (sym no))), λ _. (r.0, r.1, refl));
            status_is = raised s.answers.status answers.status answers'.status h.done d p.status_is h.status_is;
            output = λ written. subst (λ l. Appends (contents s.answers.output) (contents answers'.output) l) (sym (one_more (λ (x : Done). x.shown) h.done d)) (put_more contents (contents s.answers.output) text own put answers answers' (shown_in h.done) p h.output written);
            kept = λ sound. still_written contents text own put answers answers' p (fine sound) ∙ h.kept refl;
          }

      -- ---- whatever is done of it
      module _ {E : Type 0} (a : Schedule) (answers' : Answers W P) (d : Result (Option Line) E) (does : Does contents a given texts d answers answers') where
        pub left_line : (line : Line) → d ≡ Ok (Some line) → AreDone remaining contents gives s steps (Some line) commands' answers' sources' false false
        left_line line by =
            let l : Leaves given texts line × (answers' ≡ answers) = subst (λ (x : Result (Option Line) E). Does contents a given texts x answers answers') by does in
            subst (λ (n : Answers W P). AreDone remaining contents gives s steps (Some line) commands' n sources' false false) (sym l.1) (line_more line l.0)

        pub left_none : d ≡ Ok None → AreDone remaining contents gives s (steps ++ looks 1 a) None commands' answers' sources' false false
        left_none by =
            let put : Result (Option Line) E = Ok None in
            answer_more a put answers' false (λ _. refl) (subst (λ (x : Result (Option Line) E). Does contents a given texts x answers answers') by does)

        pub left_err : (e : E) → d ≡ Err e → AreDone remaining contents gives s (steps ++ looks 1 a) None commands' answers' sources' true false
        left_err e by =
            let put : Result (Option Line) E = Err e in
            answer_more a put answers' true (λ no. absurd (true≢false no)) (subst (λ (x : Result (Option Line) E). Does contents a given texts x answers answers') by does)

  -- ---- the line that waits is answered
  pub closed_more : {T E : Type 0} (line : Line) (commands : CommandInput R) (answers answers' : Answers W P) (sources : F) (put : Result T E) (is_broken ended : Bool) (added : List RunStep) (own : ℕ) (text : List ℕ) → (is_broken ≡ false → is_ok put ≡ true)
      → (h : AreDone remaining contents gives s steps (Some line) commands answers sources false ended) → IsClosed h.open_asked h.open_texts added own text → IsPut contents text own put answers answers'
      → AreDone remaining contents gives s (steps ++ added) None commands answers' sources is_broken ended
  closed_more line commands answers answers' sources put is_broken ended added own text fine h c p =
      let d : Done = record { asked = c.one; texts = h.open_texts; steps = added; status = own; shown = text } in
      record {
        done = h.done ++ d ∷ [];
        open_asked = [];
        open_texts = [];
        each = All-push IsDone h.done d h.each c.done;
        opens = (refl, refl);
        texts = subst (λ l. gives s.sources l sources) (sym (append-nil (texts_in (h.done ++ d ∷ [])) ∙ one_more (λ (x : Done). x.texts) h.done d)) h.texts;
        stepped = ap (λ l. l ++ added) h.stepped ∙ sym (one_more (λ (x : Done). x.steps) h.done d);
        read = λ known e.
            let r = h.read known e in
            (r.0, r.1 ∙ ap (λ l. asked_in h.done ++ (l ++ r.0)) c.is ∙ sym (asked_more h.done d r.0), r.2, λ _. r.3 refl);
        status_is = raised s.answers.status answers.status answers'.status h.done d p.status_is h.status_is;
        output = λ written. subst (λ l. Appends (contents s.answers.output) (contents answers'.output) l) (sym (one_more (λ (x : Done). x.shown) h.done d)) (put_more contents (contents s.answers.output) text own put answers answers' (shown_in h.done) p h.output written);
        kept = λ sound. still_written contents text own put answers answers' p (fine sound) ∙ h.kept refl;
      }

  -- ---- what was read in error
  pub at_err : {E : Type 0} (Q : E → Type 0) (r : Result (Option Line) E) → IsErrAnd r Q → (commands : CommandInput R) (answers : Answers W P) (sources : F)
      → AreDone remaining contents gives s steps None commands answers sources true false → AreDone remaining contents gives s steps (line_of r) commands answers sources (is_err r) (is_end r)
  at_err Q (Ok x) is commands answers sources h = absurd is
  at_err Q (Err e) is commands answers sources h = h
