use Rattle.script_commands.proofs.RequestLemmas.{left-nothing, left-end, left-this, left-fault, left-text}
use Rattle.script_commands.proofs.requests.next_command.Goals as goal

pub returns-in-None-clause-next : goal.returns-in-None-clause-next
returns-in-None-clause-next g c = λ bytes known.
    let l = c.loop-line.invariant bytes known in
    let ended = rw c.in-None.is at (c.in_ok-next_meaning.ensures.next l.left l.known) in
    (left-end _ (g.R.Read.remaining c.next_meaning.new.input) _ l ended.0, ended.1)

pub returns-in-Some-Ok-Text-clause-next : goal.returns-in-Some-Ok-Text-clause-next
returns-in-Some-Ok-Text-clause-next g c = λ bytes known.
    let l = c.loop-line.invariant bytes known in
    let asked = rw (c.in-Some-Ok-Text.is, c.in-Some-Ok-Text.field-0-is, c.in-Some-Ok-Text.field-0-0-is) at (c.in_ok-next_meaning.ensures.next l.left l.known) in
    left-text _ _ _ _ _ c.in-Some-Ok-Text.taking l asked (c.in_ok-read_text-in-Some-Ok-Text.ensures.first)

pub returns-in-Some-Ok-This-clause-next : goal.returns-in-Some-Ok-This-clause-next
returns-in-Some-Ok-This-clause-next g c = λ bytes known.
    let l = c.loop-line.invariant bytes known in
    let asked = rw (c.in-Some-Ok-This.is, c.in-Some-Ok-This.field-0-is, c.in-Some-Ok-This.field-0-0-is) at (c.in_ok-next_meaning.ensures.next l.left l.known) in
    left-this _ _ _ c.in-Some-Ok-This.command l asked

pub returns-in-Some-Ok-Fault-clause-next : goal.returns-in-Some-Ok-Fault-clause-next
returns-in-Some-Ok-Fault-clause-next g c = λ bytes known.
    let l = c.loop-line.invariant bytes known in
    let asked = rw (c.in-Some-Ok-Fault.is, c.in-Some-Ok-Fault.field-0-is, c.in-Some-Ok-Fault.field-0-0-is) at (c.in_ok-next_meaning.ensures.next l.left l.known) in
    left-fault _ _ _ c.in-Some-Ok-Fault.fault l asked

pub loop-line-preserved : goal.loop-line-preserved
loop-line-preserved g c = λ bytes known.
    let l = c.loop-line.invariant bytes known in
    let asked = rw (c.in-Some-Ok-Nothing.is, c.in-Some-Ok-Nothing.field-0-is, c.in-Some-Ok-Nothing.field-0-0-is) at (c.in_ok-next_meaning.ensures.next l.left l.known) in
    left-nothing _ _ _ l asked
