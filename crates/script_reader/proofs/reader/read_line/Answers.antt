use Rattle.std.proofs.Common.{◌+◌, ◌++◌, List, true, false, true≢false, Some, None, Ok, Err, append-nil, refl, sym, subst}
use Rattle.std.specs.declared.io.Error.{Error}
use Rattle.answer_lines.specs.sessions.History.{looks, Step}
use Rattle.script_reader.specs.Readers.{AreDone}
use Rattle.script_reader.proofs.DoneLemmas.{as_ok, at_err, broken, ended_less, flushed, heard, left_err, left_line, left_none, one_look_more, over}
use Rattle.script_reader.proofs.reader.read_line.Goals as goal

pub loop-command-init : goal.loop-command-init
loop-command-init g c = (
  0,
  λ s steps e h.
      subst
      (λ (t : List Step). AreDone g.R.Read.remaining g.W.Write.contents g.F.Sources.gives s t None c.args.commands.now c.args.answers.now c.args.sources.now false false)
      (sym (append-nil steps))
      (ended_less g.R.Read.remaining g.W.Write.contents g.F.Sources.gives s steps None _ _ _ false e false (λ no. absurd (true≢false (sym no))) h),
)

pub returns-in_err-flush-clause-told : goal.returns-in_err-flush-clause-told
returns-in_err-flush-clause-told g c = (
  c.loop-command.invariant.0,
  λ s steps e h.
      let was = c.loop-command.invariant.1 s steps e h in
      at_err g.R.Read.remaining g.W.Write.contents g.F.Sources.gives s (steps ++ looks c.loop-command.invariant.0 c.args.schedule.now.content) _ _ c.from_residual.ensures.1 _ _ _
      (flushed g.R.Read.remaining g.W.Write.contents g.F.Sources.gives s (steps ++ looks c.loop-command.invariant.0 c.args.schedule.now.content) None _ _ _ _ _ true false (λ no. absurd (true≢false no)) c.in_err-flush.ensures (broken g.R.Read.remaining g.W.Write.contents g.F.Sources.gives s (steps ++ looks c.loop-command.invariant.0 c.args.schedule.now.content) _ _ _ false was _)),
)

pub returns-in_err-next-clause-told : goal.returns-in_err-next-clause-told
returns-in_err-next-clause-told g c = (
  c.loop-command.invariant.0,
  λ s steps e h.
      let was = c.loop-command.invariant.1 s steps e h in
      let now = flushed g.R.Read.remaining g.W.Write.contents g.F.Sources.gives s (steps ++ looks c.loop-command.invariant.0 c.args.schedule.now.content) None _ _ _ _ _ false false (λ _. refl) c.in_ok-flush.ensures was in
      at_err g.R.Read.remaining g.W.Write.contents g.F.Sources.gives s (steps ++ looks c.loop-command.invariant.0 c.args.schedule.now.content) _ _ c.from_residual-in_err-next.ensures.1 _ _ _
      (broken g.R.Read.remaining g.W.Write.contents g.F.Sources.gives s (steps ++ looks c.loop-command.invariant.0 c.args.schedule.now.content) _ _ _ false now c.next.new.self),
)

pub returns-in-None-clause-told : goal.returns-in-None-clause-told
returns-in-None-clause-told g c = (
  c.loop-command.invariant.0,
  λ s steps e h.
      let was = c.loop-command.invariant.1 s steps e h in
      let now = flushed g.R.Read.remaining g.W.Write.contents g.F.Sources.gives s (steps ++ looks c.loop-command.invariant.0 c.args.schedule.now.content) None _ _ _ _ _ false false (λ _. refl) c.in_ok-flush.ensures was in
      over g.R.Read.remaining g.W.Write.contents g.F.Sources.gives s (steps ++ looks c.loop-command.invariant.0 c.args.schedule.now.content) _ _ _ false now c.next.new.self
      (λ known k. let next = rw c.in-None.is at (c.in_ok-next.ensures.next known k) in next),
)

pub returns-in_err-do_command-in-Some-clause-told : goal.returns-in_err-do_command-in-Some-clause-told
returns-in_err-do_command-in-Some-clause-told g c = (
  c.loop-command.invariant.0 + 1,
  λ s steps e h.
      let was = c.loop-command.invariant.1 s steps e h in
      let now = flushed g.R.Read.remaining g.W.Write.contents g.F.Sources.gives s (steps ++ looks c.loop-command.invariant.0 c.args.schedule.now.content) None _ _ _ _ _ false false (λ _. refl) c.in_ok-flush.ensures was in
      let did = c.in_err-do_command-in-Some.ensures.does in
      let more = left_err g.R.Read.remaining g.W.Write.contents g.F.Sources.gives s (steps ++ looks c.loop-command.invariant.0 c.args.schedule.now.content) _ _ _ false now c.next.new.self c.in-Some.request
      (λ known k. let next = rw c.in-Some.is at (c.in_ok-next.ensures.next known k) in next)
      c.do_command.new.sources did.0 did.1 {E = Error} c.args.schedule.now.content c.do_command.new.answers (Err c.in_err-do_command-in-Some.field-0.0) did.2 c.in_err-do_command-in-Some.field-0.0 refl in
      at_err g.R.Read.remaining g.W.Write.contents g.F.Sources.gives s (steps ++ looks (c.loop-command.invariant.0 + 1) c.args.schedule.now.content) _ _ c.from_residual-in_err-do_command-in-Some.ensures.1 _ _ _
      (subst (λ (t : List Step). AreDone g.R.Read.remaining g.W.Write.contents g.F.Sources.gives s t None c.next.new.self c.do_command.new.answers c.do_command.new.sources true false) (one_look_more steps c.loop-command.invariant.0 c.args.schedule.now.content) more),
)

pub returns-in-Some-2-clause-told : goal.returns-in-Some-2-clause-told
returns-in-Some-2-clause-told g c = (
  c.loop-command.invariant.0,
  λ s steps e h.
      let was = c.loop-command.invariant.1 s steps e h in
      let now = flushed g.R.Read.remaining g.W.Write.contents g.F.Sources.gives s (steps ++ looks c.loop-command.invariant.0 c.args.schedule.now.content) None _ _ _ _ _ false false (λ _. refl) c.in_ok-flush.ensures was in
      let did = c.in_ok-do_command-in-Some.ensures.does in
      heard g.R.Read.remaining g.W.Write.contents g.F.Sources.gives s (steps ++ looks c.loop-command.invariant.0 c.args.schedule.now.content) _ _ _ c.announce.new.self _ false false c.announce.ensures
      (left_line g.R.Read.remaining g.W.Write.contents g.F.Sources.gives s (steps ++ looks c.loop-command.invariant.0 c.args.schedule.now.content) _ _ _ false now c.next.new.self c.in-Some.request
      (λ known k. let next = rw c.in-Some.is at (c.in_ok-next.ensures.next known k) in next)
      c.do_command.new.sources did.0 did.1 {E = Error} c.args.schedule.now.content c.do_command.new.answers (Ok c.in_ok-do_command-in-Some.field-0) did.2 _ (as_ok Error _ _ c.in-Some-2.is)),
)

pub loop-command-preserved : goal.loop-command-preserved
loop-command-preserved g c = (
  c.loop-command.invariant.0 + 1,
  λ s steps e h.
      let was = c.loop-command.invariant.1 s steps e h in
      let now = flushed g.R.Read.remaining g.W.Write.contents g.F.Sources.gives s (steps ++ looks c.loop-command.invariant.0 c.args.schedule.now.content) None _ _ _ _ _ false false (λ _. refl) c.in_ok-flush.ensures was in
      let did = c.in_ok-do_command-in-Some.ensures.does in
      let more = left_none g.R.Read.remaining g.W.Write.contents g.F.Sources.gives s (steps ++ looks c.loop-command.invariant.0 c.args.schedule.now.content) _ _ _ false now c.next.new.self c.in-Some.request
      (λ known k. let next = rw c.in-Some.is at (c.in_ok-next.ensures.next known k) in next)
      c.do_command.new.sources did.0 did.1 {E = Error} c.args.schedule.now.content c.do_command.new.answers (Ok c.in_ok-do_command-in-Some.field-0) did.2 (as_ok Error _ _ c.in-None-2.is) in
      subst (λ (t : List Step). AreDone g.R.Read.remaining g.W.Write.contents g.F.Sources.gives s t None c.next.new.self c.do_command.new.answers c.do_command.new.sources false false) (one_look_more steps c.loop-command.invariant.0 c.args.schedule.now.content) more,
)

pub returns-clause-told : goal.returns-clause-told
returns-clause-told g c = (
  c.loop-command.invariant.0,
  λ s steps e h. broken g.R.Read.remaining g.W.Write.contents g.F.Sources.gives s (steps ++ looks c.loop-command.invariant.0 c.args.schedule.now.content) _ _ _ false (c.loop-command.invariant.1 s steps e h) _,
)
