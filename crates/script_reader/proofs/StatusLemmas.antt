-- The statuses of what was done.
use Rattle.std.proofs.Common.{◌≡◌, ◌∙◌, ◌≢◌, ◌==◌, ◌<◌, inl, inr, ℕ, max, All, true, true≢false, List, [], ◌∷◌, ◌++◌, length, Result, Ok, Err, refl, sym, ap, subst, arith}
use Rattle.std.proofs.lemmas.Grind.{flat_map-append}
use Rattle.std.proofs.lemmas.List.Elements.{All-cons, All-head, All-nil, All-tail}
use Rattle.sched_model.specs.Schedule.{Schedule}
use Rattle.sched_events.specs.declared.events.Event.{Event}
use Rattle.sched_events.specs.declared.events.Event.TheVariants.{Tick}
use Rattle.sched_events.specs.declared.refusals.Refusal.{Refusal}
use Rattle.sched_events.specs.declared.refusals.Refusal.TheVariants as refusal
use Rattle.answer_lines.specs.sessions.Faults.{Fault}
use Rattle.answer_lines.specs.sessions.Faults.failed
use Rattle.command_words.specs.Commands.{taken}
use Rattle.command_words.specs.declared.commands.UsageFault.{UsageFault}
use Rattle.command_words.specs.declared.commands.UsageFault.TheVariants as usage
use Rattle.script_commands.specs.Commands.{Request, IsGiven}
use Rattle.script_commands.specs.declared.commands.CommandFault.{CommandFault}
use Rattle.script_commands.specs.declared.commands.CommandFault.TheVariants.{Usage, Source}
use Rattle.script_commands.specs.declared.commands.SourceFault.TheVariants as source
use Rattle.script_commands.specs.declared.commands.ScriptCommand.TheVariants.{Step, TakeFile, TickNow, Drain, List as ListRows, Explain}
use Rattle.answer_lines.specs.sessions.History.{is_polled, looks, told_by, told_in, ArePolled, Asked, Looked, NoneThere, Reported, Restarted, Step as RunStep, Told}
use Rattle.answer_lines.specs.CommandFaults.{source_text}
use Rattle.script_reader.specs.Statuses.{command_status, failure_status, refusal_status, usage_status}
use Rattle.script_reader.specs.Done.{FileAnswer, Done, IsAnswered, IsDone, IsEventAnswered, MayBeDone, greatest_status, is_whole}

-- ---- statuses
refuses : (r : Refusal) → 0 < refusal_status r
refuses refusal.Memory = omega arith
refuses _ = omega arith

fails : (f : Fault) → 0 < failure_status f
fails (failed.Refused r) = refuses r
fails (failed.Store f) = omega arith
fails failed.Memory = omega arith

is_used : (f : UsageFault) → 0 < usage_status f
is_used usage.Memory = omega arith
is_used _ = omega arith

is_no_command : (f : CommandFault) → 0 < command_status f
is_no_command (Usage f) = is_used f
is_no_command (Source f) = omega arith

-- ---- what was done with the status 0 is whole
polled_by : (x : RunStep) → is_polled x ≡ true → told_by x ≡ []
polled_by (Reported waited t faults came) is = refl
polled_by NoneThere is = refl
polled_by (Looked b) is = refl
polled_by (Restarted lanes faults came) is = refl
polled_by (Told e came) is = absurd (true≢false (sym is))
polled_by (Asked b reading) is = refl

polled_untold : (h : List RunStep) → All (λ x. is_polled x ≡ true) h → told_in h ≡ []
polled_untold [] are = refl
polled_untold (x ∷ xs) are = ap (λ l. l ++ told_in xs) (polled_by x (All-head (λ (y : RunStep). is_polled y ≡ true) x xs are)) ∙ polled_untold xs (All-tail (λ (y : RunStep). is_polled y ≡ true) x xs are)

-- of reports that were there the lines are not told
polls_untold : (h : List RunStep) → ArePolled h → told_in h ≡ []
polls_untold h polled = ap told_in polled.2 ∙ flat_map-append told_by polled.0 (NoneThere ∷ []) ∙ ap (λ l. l ++ told_in (NoneThere ∷ [])) (polled_untold polled.0 polled.1)

after_polls : (polled told : List RunStep) (b : Schedule) (moment : ℕ) (steps : List RunStep) → steps ≡ polled ++ (Asked b (Ok moment) ∷ told) → ArePolled polled → told_in steps ≡ told_in told
after_polls polled told b moment steps is are =
    ap told_in is ∙ flat_map-append told_by polled (Asked b (Ok moment) ∷ told) ∙ ap (λ l. l ++ told_in (Asked b (Ok moment) ∷ told)) (polls_untold polled are)

accepted : (e : Event) (steps : List RunStep) (status : ℕ) (shown : List ℕ) → IsEventAnswered e steps status shown → status ≡ 0 → (length (told_in steps) == 1) ≡ true
accepted e steps status shown (Ok answer, is, zero, text) z = ap (λ (xs : List RunStep). length (told_in xs) == 1) is
accepted e steps status shown (Err fault, is, own, text) z = let some : 0 < failure_status fault = fails fault in absurd (omega arith)

done_whole : (r : Request) (texts : List FileAnswer) (steps : List RunStep) (status : ℕ) (shown : List ℕ) → MayBeDone r texts steps status shown → status ≡ 0 → is_whole r steps ≡ true
done_whole (Ok (Step e)) texts steps status shown (none, inl may) z = accepted e steps status shown may z
done_whole (Ok (Step e)) texts steps status shown (none, inr (taking, text, takes, seen, four, said)) z = absurd (omega arith)
done_whole (Ok (TakeFile taking path)) texts steps status shown (inl (fault, none, nothing, four, text)) z = absurd (omega arith)
done_whole (Ok (TakeFile taking path)) texts steps status shown (inr (text, read, may)) z = accepted (taken taking text) steps status shown may z
done_whole (Ok TickNow) texts steps status shown (none, inl (b, fault, polled, untold, are, four, text)) z = absurd (omega arith)
done_whole (Ok TickNow) texts steps status shown (none, inr (b, moment, polled, told, heard, are, may)) z =
    ap (λ n. length n == 1) (after_polls polled told b moment steps heard are) ∙ accepted (Tick moment) told status shown may z
done_whole (Ok Drain) texts steps status shown may z = refl
done_whole (Ok (ListRows listing)) texts steps status shown may z = refl
done_whole (Ok (Explain question)) texts steps status shown may z = refl
done_whole (Err fault) texts steps status shown (a, seen, at) z = let some : 0 < command_status fault = is_no_command fault in let own : status ≡ command_status fault = at.1 in absurd (omega (arith, some, own, z))

pub all_whole : (ds : List Done) → All IsDone ds → greatest_status ds ≡ 0 → All (λ d. is_whole d.asked d.steps ≡ true) ds
unfolding greatest_status
all_whole [] each z = All-nil (λ (d : Done). is_whole d.asked d.steps ≡ true)
all_whole (d ∷ ds) each z =
    let is : greatest_status (d ∷ ds) ≡ max d.status (greatest_status ds) = refl in
    All-cons (λ (x : Done). is_whole x.asked x.steps ≡ true) d ds (done_whole d.asked d.texts d.steps d.status d.shown (All-head IsDone d ds each) (omega (arith, is, z)))
    (all_whole ds (All-tail IsDone d ds each) (omega (arith, is, z)))

-- ---- a command that is answered when it is read is done so
pub at_once : (a : Schedule) (r : Request) (texts : List FileAnswer) (status : ℕ) (shown : List ℕ) → IsAnswered a r texts status shown → MayBeDone r texts (looks 1 a) status shown
at_once a (Ok (Step e)) texts status shown is = absurd is
at_once a (Ok (TakeFile taking path)) texts status shown (fault, asked, four, text) = inl (fault, asked, (a, refl), four, text)
at_once a (Ok TickNow) texts status shown is = absurd is
at_once a (Ok Drain) texts status shown is = absurd is
at_once a (Ok (ListRows listing)) texts status shown is = (a, refl, is)
at_once a (Ok (Explain question)) texts status shown is = (a, refl, is)
at_once a (Err fault) texts status shown is = (a, refl, is)

-- a text that could not be had, for want of memory
unhad : (texts : List FileAnswer) (steps : List RunStep) (status : ℕ) (shown : List ℕ) → MayBeDone (Err (Source source.Memory)) texts steps status shown → (texts ≡ []) × ((a : Schedule) × (steps ≡ looks 1 a)) × (status ≡ 4) × (shown ≡ source_text source.Memory)
unhad texts steps status shown (a, seen, at) = (at.0, (a, seen), at.1, at.2)

-- what is done as it was given is done as it is wanted
pub given_done : (wanted given : Request) (texts : List FileAnswer) (steps : List RunStep) (status : ℕ) (shown : List ℕ) → IsGiven wanted given → MayBeDone given texts steps status shown → MayBeDone wanted texts steps status shown
given_done wanted given texts steps status shown (inl same) may = subst (λ (r : Request). MayBeDone r texts steps status shown) same may
given_done wanted given texts steps status shown (inr (memory, (taking, text, takes))) may =
    let lack = unhad texts steps status shown (subst (λ (r : Request). MayBeDone r texts steps status shown) memory may) in
    subst (λ (r : Request). MayBeDone r texts steps status shown) (sym takes) (lack.0, inr (taking, text, refl, lack.1, lack.2, lack.3))

-- ---- the greatest status of one command more
grown : (ds : List Done) (d : Done) → greatest_status (ds ++ d ∷ []) ≡ max (greatest_status ds) d.status
unfolding greatest_status
grown [] d =
    let now : greatest_status ([] ++ d ∷ []) ≡ max d.status 0 = refl in
    let was : greatest_status [] ≡ 0 = refl in
    omega (arith, now, was)
grown (x ∷ ds) d =
    let now : greatest_status ((x ∷ ds) ++ d ∷ []) ≡ max x.status (greatest_status (ds ++ d ∷ [])) = refl in
    let was : greatest_status (x ∷ ds) ≡ max x.status (greatest_status ds) = refl in
    let rest = grown ds d in
    omega (arith, now, was, rest)

pub raised : (before status status' : ℕ) (ds : List Done) (d : Done) → status' ≡ max status d.status → status ≡ max before (greatest_status ds) → status' ≡ max before (greatest_status (ds ++ d ∷ []))
raised before status status' ds d more was = let all = grown ds d in omega (arith, all, more, was)
