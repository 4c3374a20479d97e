use Rattle.std.proofs.Common.{◌≡◌, rules, true, false}
use Rattle.sqlite.specs.Held.{state}
use Rattle.record_tables.specs.Ours.{has_limits}
use Rattle.meta_store.proofs.MigrateLemmas.{list_second, list_first, found_second, found_first, if_fault_second, if_fault_first}
use Rattle.meta_store.proofs.stores.Store.load_rows.Goals as goal

pub returns-then-has_limits-clause-list : goal.returns-then-has_limits-clause-list
returns-then-has_limits-clause-list g c clean =
    let has : has_limits c.args.self.now.schema ≡ true = search rules in
    list_second (state g.S.Store c.args.self.now).now c.load_second.result has (c.load_second.ensures.list clean)

pub returns-then-has_limits-clause-fault : goal.returns-then-has_limits-clause-fault
returns-then-has_limits-clause-fault g c clean =
    let has : has_limits c.args.self.now.schema ≡ true = search rules in
    if_fault_second (state g.S.Store c.args.self.now).now c.load_second.result has (c.load_second.ensures.fault clean)

pub returns-else-has_limits-clause-list : goal.returns-else-has_limits-clause-list
returns-else-has_limits-clause-list g c clean =
    let lacks : has_limits c.args.self.now.schema ≡ false = search rules in
    list_first (state g.S.Store c.args.self.now).now c.load_first.result lacks (c.load_first.ensures.list clean)

pub returns-else-has_limits-clause-fault : goal.returns-else-has_limits-clause-fault
returns-else-has_limits-clause-fault g c clean =
    let lacks : has_limits c.args.self.now.schema ≡ false = search rules in
    if_fault_first (state g.S.Store c.args.self.now).now c.load_first.result lacks (c.load_first.ensures.fault clean)

pub returns-then-has_limits-clause-found : goal.returns-then-has_limits-clause-found
returns-then-has_limits-clause-found g c clean =
    let has : has_limits c.args.self.now.schema ≡ true = search rules in
    found_second (state g.S.Store c.args.self.now).now c.load_second.result has (c.load_second.ensures.list clean) c.load_second.ensures.version

pub returns-else-has_limits-clause-found : goal.returns-else-has_limits-clause-found
returns-else-has_limits-clause-found g c clean =
    let lacks : has_limits c.args.self.now.schema ≡ false = search rules in
    found_first (state g.S.Store c.args.self.now).now c.load_first.result lacks (c.load_first.ensures.found clean)
