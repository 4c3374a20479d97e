use Rattle.std.proofs.Common.{◌∙◌, true≢false, sym}
use Rattle.conduct.proofs.closing.account_after.Goals as goal

pub account-ends-requires-clause-back : goal.account-ends-requires-clause-back
account-ends-requires-clause-back g c = c.requires.back (sym c.is_unstarted.ensures ∙ c.if-is_unstarted.false)

pub returns-then-is_unstarted-clause-ends : goal.returns-then-is_unstarted-clause-ends
returns-then-is_unstarted-clause-ends g c = λ none. absurd (true≢false (sym c.if-is_unstarted.true ∙ c.is_unstarted.ensures ∙ none))

pub returns-then-is_unstarted-clause-sent : goal.returns-then-is_unstarted-clause-sent
returns-then-is_unstarted-clause-sent g c = λ none. absurd (true≢false (sym c.if-is_unstarted.true ∙ c.is_unstarted.ensures ∙ none))

pub returns-then-is_unstarted-clause-told : goal.returns-then-is_unstarted-clause-told
returns-then-is_unstarted-clause-told g c = λ none. absurd (true≢false (sym c.if-is_unstarted.true ∙ c.is_unstarted.ensures ∙ none))

pub returns-clause-none : goal.returns-clause-none
returns-clause-none g c = λ is. absurd (true≢false (sym is ∙ sym c.is_unstarted.ensures ∙ c.if-is_unstarted.false))

pub returns-clause-sent : goal.returns-clause-sent
returns-clause-sent g c = λ none. c.account-ends.ensures.sent

pub returns-clause-told : goal.returns-clause-told
returns-clause-told g c = λ none. c.account-ends.ensures.told
