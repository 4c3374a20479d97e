use Rattle.conduct.proofs.threads.fn.in_scope.scope+FnOnce.call_once.Goals as goal

-- what it is called with is what it asks
pub scope-requires : goal.scope-requires
scope-requires g c =
    let asks = c.requires.1.1.1.1.1.1.1 in
    let bounds = asks.1 in (
      record { owned = bounds.0.owned; leaving = bounds.0.leaving },
      (
        record { owned = bounds.1.owned; leaving = bounds.1.leaving },
        (record { owned = bounds.2.owned; leaving = bounds.2.leaving }, (record { shared = bounds.3.shared }, (record { shared = bounds.4.shared }, asks.0))),
      ),
    )
