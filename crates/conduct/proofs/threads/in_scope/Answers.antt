use denote.Exit.{unseen}
use denote.Param.Send.{Quiet-if}
use mir.Syntax.{of_param}
use Rattle.conduct.proofs.threads.in_scope.Goals as goal

-- what the closure asks, and that what goes to the threads may go there
pub scoped-requires : goal.scoped-requires
scoped-requires g c = record {
  at =
      λ a.
      let bounds = c.type_bounds in (
        c.requires,
        (
          record { owned = bounds.send-D.owned; leaving = λ k. Quiet-if (k (of_param 0)) unseen unseen (λ x w. tt) (λ x w. tt) },
          record { owned = bounds.send-G.owned; leaving = λ k. Quiet-if (k (of_param 2)) unseen unseen (λ x w. tt) (λ x w. tt) },
          record { owned = bounds.send-O.owned; leaving = λ k. Quiet-if (k (of_param 3)) unseen unseen (λ x w. tt) (λ x w. tt) },
          record { shared = bounds.sync-D.shared },
          record { shared = bounds.sync-R.shared },
        ),
      );
}
