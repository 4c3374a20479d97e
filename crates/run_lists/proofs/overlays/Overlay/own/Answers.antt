use Rattle.std.specs.BTreeSet.{insert_key}
use Rattle.std.specs.Ordering.{nat_cmp}
use Rattle.run_lists.proofs.OverlayLemmas.{viewed}
use Rattle.run_lists.proofs.TouchLemmas.{own_there}
use Rattle.run_lists.proofs.overlays.Overlay.own.Goals as goal

pub returns-clause-ok : goal.returns-clause-ok
returns-clause-ok c =
    viewed (λ rs. rs) (λ ts. insert_key nat_cmp ts c.args.position) c.self.inside.base.now.runs _ _ _ _ c.args.self.now c.self.view_is c.in_ok-own.ensures.ok.same c.in_ok-own.ensures.ok.positions

pub returns-clause-own : goal.returns-clause-own
returns-clause-own c = own_there c.args.position c.in_ok-own.field-0 c.own.new.edits.items (c.in_ok-own.ensures.ok).there
