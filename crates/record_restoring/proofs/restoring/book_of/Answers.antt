use Rattle.std.proofs.Common.{arith, ◌≡◌, ◌∙◌, ◌≤◌, sym, ap, subst, List, length, rules}
use Rattle.std.specs.List.{list_all}
use Rattle.pool_book.specs.Limits.{pool_limit}
use Rattle.record_rows.specs.Rows.{PoolRow}
use Rattle.sched_state.specs.Limits.{ceilings}
use Rattle.sched_model.specs.Lists.{rises}
use Rattle.record_rules.specs.Keys.{pool_row_before}
use Rattle.record_rules.specs.Faults.{is_pool_row_right}
use Rattle.record_restoring.proofs.BookLemmas.{pools_right, pools_few, graphs_by_id, book_made, has_pools, has_taken, has_counted}
use Rattle.record_restoring.proofs.restoring.book_of.Goals as goal

pub read_pools-requires-clause-right : goal.read_pools-requires-clause-right
read_pools-requires-clause-right c =
    let r : c.deref.result.now ≡ c.args.rows.now.pools = search (rules, c.deref.ensures.value, c.rows.view_is) in
    ap (list_all is_pool_row_right) r ∙ pools_right c.args.limits c.args.rows.now c.requires.free

pub read_pools-requires-clause-order : goal.read_pools-requires-clause-order
read_pools-requires-clause-order c =
    let r : c.deref.result.now ≡ c.args.rows.now.pools = search (rules, c.deref.ensures.value, c.rows.view_is) in
    ap (rises pool_row_before) r ∙ c.requires.keyed.pools

pub read_pools-requires-clause-few : goal.read_pools-requires-clause-few
read_pools-requires-clause-few c =
    let r : c.deref.result.now ≡ c.args.rows.now.pools = search (rules, c.deref.ensures.value, c.rows.view_is) in
    let few : length c.args.rows.now.pools ≤ c.args.limits.pools = pools_few c.args.limits c.args.rows.now c.requires.free in
    let most : c.args.limits.pools ≤ pool_limit = subst (λ n. n ≤ pool_limit) c.pools-most_pools.ensures.value c.pools-most_pools.ensures.high in
    subst (λ (ps : List PoolRow). length ps ≤ pool_limit) (sym r) (omega (arith, few, most))

pub occupy_by_runs-requires : goal.occupy_by_runs-requires
occupy_by_runs-requires c = graphs_by_id c.args.limits c.args.rows.now c.requires.free c.requires.keyed c.args.graphs.now c.requires.graphs

pub returns-clause-pools : goal.returns-clause-pools
returns-clause-pools c =
    let r : c.deref.result.now ≡ c.args.rows.now.pools = search (rules, c.deref.ensures.value, c.rows.view_is) in
    has_pools c.args.limits c.args.rows.now c.occupy_by_runs.new.pools.pools
    (book_made c.args.limits c.args.rows.now c.args.graphs.now c.args.runs.now c.deref.result.now c.in_ok-book.book.pools c.occupy_by_runs.new.pools.pools c.requires.graphs c.requires.runs r c.in_ok-book.ensures c.occupy_by_runs.ensures)

pub returns-clause-taken : goal.returns-clause-taken
returns-clause-taken c =
    let r : c.deref.result.now ≡ c.args.rows.now.pools = search (rules, c.deref.ensures.value, c.rows.view_is) in
    let most : c.args.limits.runs ≤ ceilings.runs = subst (λ n. n ≤ ceilings.runs) c.runs-most_runs.ensures.value c.runs-most_runs.ensures.high in
    has_taken c.args.limits c.args.rows.now c.occupy_by_runs.new.pools.pools c.requires.keyed c.requires.free most
    (book_made c.args.limits c.args.rows.now c.args.graphs.now c.args.runs.now c.deref.result.now c.in_ok-book.book.pools c.occupy_by_runs.new.pools.pools c.requires.graphs c.requires.runs r c.in_ok-book.ensures c.occupy_by_runs.ensures)

pub returns-clause-counted : goal.returns-clause-counted
returns-clause-counted c =
    let most : c.args.limits.runs ≤ ceilings.runs = subst (λ n. n ≤ ceilings.runs) c.runs-most_runs.ensures.value c.runs-most_runs.ensures.high in
    has_counted c.args.limits c.args.rows.now c.requires.keyed c.requires.free most
