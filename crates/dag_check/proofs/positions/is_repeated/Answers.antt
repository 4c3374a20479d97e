use Rattle.std.proofs.Common.{◌≡◌, ◌∙◌, ◌<◌, ◌||◌, ◌==◌, ℕ, Bool, List, true, false, length, get_or, take, sym, ap, arith}
use Rattle.std.proofs.lemmas.List.{take_more, get_or_default}
use Rattle.std.proofs.lemmas.List.Folds.{list_any_more}
use Rattle.dag_check.specs.Orders.{is_in, repeated}
use Rattle.dag_check.specs.Searches.{marked}
use Rattle.dag_check.proofs.OrderLemmas.{in-at, marked-set}
use Rattle.dag_check.proofs.NameLemmas.{repeated-at, repeated-push}
use Rattle.dag_check.proofs.positions.is_repeated.Goals as goal

inside : (row : List ℕ) (i count : ℕ) → ((y : ℕ) → is_in row y ≡ true → y < count) → i < length row → get_or row i 0 < count
inside row i count all below = all _ (in-at row i below)

pub index-requires : goal.index-requires
index-requires c = omega (arith, inside c.args.row.now c.loop-position.position-index c.args.count c.requires c.loop-position-test.true, c.loop-position.invariant.long)

pub index_mut-requires : goal.index_mut-requires
index_mut-requires c = omega (arith, inside c.args.row.now c.loop-position.position-index c.args.count c.requires c.loop-position-test.true, c.loop-position.invariant.long)

-- what is read is what the marks say
read : (seen : List Bool) (row : List ℕ) (i p : ℕ) (b : Bool) → p < length seen → b ≡ get_or seen p b → ((y : ℕ) → marked seen y ≡ is_in (take i row) y) → is_in (take i row) p ≡ b
read seen row i p b below is marks = sym (marks p) ∙ (get_or_default seen p false b below ∙ sym is)

pub returns-then-index : goal.returns-then-index
returns-then-index c =
    let below : get_or c.args.row.now c.loop-position.position-index 0 < length c.loop-position.seen.items = omega (arith, inside c.args.row.now c.loop-position.position-index c.args.count c.requires c.loop-position-test.true, c.loop-position.invariant.long, c.loop-position.seen.ok.0) in
    sym (repeated-at c.args.row.now c.loop-position.position-index c.loop-position-test.true
    (read c.loop-position.seen.items c.args.row.now c.loop-position.position-index _ c.index.result.now below c.index.ensures c.loop-position.invariant.marks ∙ c.if-index.true))

pub loop-position-preserved : goal.loop-position-preserved
loop-position-preserved c =
    let below : get_or c.args.row.now c.loop-position.position-index 0 < length c.loop-position.seen.items = omega (arith, inside c.args.row.now c.loop-position.position-index c.args.count c.requires c.loop-position-test.true, c.loop-position.invariant.long, c.loop-position.seen.ok.0) in
    let new = read c.loop-position.seen.items c.args.row.now c.loop-position.position-index _ c.index.result.now below c.index.ensures c.loop-position.invariant.marks ∙ c.if-index.false in
    record {
      long = c.loop-position.invariant.long;
      marks = λ y.
          marked-set c.loop-position.seen.items (get_or c.args.row.now c.loop-position.position-index 0) y below
          ∙ (ap (λ (b : Bool). b || (get_or c.args.row.now c.loop-position.position-index 0 == y)) (c.loop-position.invariant.marks y)
          ∙ sym (list_any_more (λ z. z == y) c.args.row.now c.loop-position.position-index 0 c.loop-position-test.true));
      once =
          ap repeated (take_more c.args.row.now c.loop-position.position-index 0 c.loop-position-test.true)
          ∙ repeated-push (take c.loop-position.position-index c.args.row.now) _ c.loop-position.invariant.once new;
    }
