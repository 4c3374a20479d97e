use Rattle.std.proofs.Common.{◌≡◌, ◌∙◌, ◌==◌, ◌<◌, ◌-◌, ◌||◌, ℕ, Bool, true, false, cond, length, get_or, ap, sym, subst, List, Err, arith, vec_len, vec_capacity}
use Rattle.std.proofs.lemmas.Bool.{false≢true, or_right}
use Rattle.std.specs.List.{list_any, insert}
use Rattle.std.specs.List.Sorted.{IsNonDecreasingBy}
use Rattle.std.specs.Option.{ForSome}
use Rattle.std.specs.Result.{is_ok}
use Rattle.run_planner.specs.Index.{Index, has_date}
use Rattle.run_planner.specs.Walks.{HasPassed}
use Rattle.run_planner.proofs.PassedLemmas.{passed_beside}
use Rattle.run_planner.proofs.IndexLemmas.{Found, place, found-any, added-there, added-new, rises-insert}
use Rattle.run_planner.proofs.run_index.RunIndex.add.Goals as goal

pub returns-in-Ok-clause-added : goal.returns-in-Ok-clause-added
returns-in-Ok-clause-added c m =
    let found = place _ c.deref.result.now c.secs.result c.binary_search.result c.deref.ensures.value c.binary_search.ensures.position c.self.invariant.0 in
    let at = rw c.in-Ok.is at found in
    let here : c.deref.result.now ≡ c.args.self.now.dates = c.deref.ensures.value ∙ ap (λ (v : Index). v.dates) c.self.view_is in
    let below : c.in-Ok.field-0 < length c.args.self.now.dates = omega (arith, at.0, ap length here) in
    added-there c.args.self.now.dates c.args.date m c.in-Ok.field-0 below (sym (ap (λ (l : List ℕ). get_or l c.in-Ok.field-0 0) here) ∙ (at.1 ∙ c.secs.ensures.value))

pub invariant_of-self : goal.invariant_of-self
invariant_of-self c =
    let found = place _ c.deref.result.now c.secs.result c.binary_search.result c.deref.ensures.value c.binary_search.ensures.position c.self.invariant.0 in
    let at : Found c.deref.result.now c.secs.result (Err c.in-Err.at) = rw c.in-Err.is at found in
    let room : 0 < vec_capacity c.self.inside.dates - vec_len c.self.inside.dates = subst (λ (v : Index). 0 < v.room) (sym c.self.view_is) c.requires in
    let ok : is_ok c.insert.result ≡ true = c.insert.ensures.succeeds (omega (arith, room)) in
    let items = c.insert.ensures.items ∙ ap (λ (b : Bool). cond b (insert c.self.inside.dates.items c.in-Err.at c.secs-in-Err.result) c.self.inside.dates.items) ok in
    let same : c.secs.result ≡ c.secs-in-Err.result = c.secs.ensures.value ∙ sym c.secs-in-Err.ensures.value in
    let rises = rises-insert c.self.inside.dates.items c.deref.result.now c.secs-in-Err.result c.in-Err.at c.deref.ensures.value c.self.invariant.0 (subst (λ (n : ℕ). Found c.deref.result.now n (Err c.in-Err.at)) same at) in
    let there : (d : ℕ) → has_date c.self.inside.dates.items d ≡ true → has_date c.insert.new.self.items d ≡ true =
    λ d on. ap (λ (l : List ℕ). has_date l d) items ∙ (added-new c.self.inside.dates.items c.secs-in-Err.result d c.in-Err.at ∙ or_right (c.secs-in-Err.result == d) _ on) in
    let passed : ForSome c.self.inside.passed (λ p. HasPassed c.insert.new.self.items p.timetable p.start p.cursor) =
    λ p is. passed_beside p.timetable c.self.inside.dates.items c.insert.new.self.items p.start p.cursor there (c.self.invariant.1 p is) in
    (subst (λ (l : List ℕ). IsNonDecreasingBy (λ z. z) l) (sym items) rises, passed)

pub returns-in-Err-clause-added : goal.returns-in-Err-clause-added
returns-in-Err-clause-added c m =
    let room : 0 < vec_capacity c.self.inside.dates - vec_len c.self.inside.dates = subst (λ (v : Index). 0 < v.room) (sym c.self.view_is) c.requires in
    let ok : is_ok c.insert.result ≡ true = c.insert.ensures.succeeds (omega (arith, room)) in
    let items = c.insert.ensures.items ∙ ap (λ (b : Bool). cond b (insert c.self.inside.dates.items c.in-Err.at c.secs-in-Err.result) c.self.inside.dates.items) ok in
    ap (list_any (λ z. z == m)) items
    ∙ (added-new c.self.inside.dates.items c.secs-in-Err.result m c.in-Err.at
    ∙ (ap (λ (n : ℕ). (n == m) || list_any (λ z. z == m) c.self.inside.dates.items) c.secs-in-Err.ensures.value ∙ ap (λ (v : Index). (c.args.date == m) || has_date v.dates m) c.self.view_is))

pub returns-in-Err-clause-there : goal.returns-in-Err-clause-there
returns-in-Err-clause-there c there =
    let found = place _ c.deref.result.now c.secs.result c.binary_search.result c.deref.ensures.value c.binary_search.ensures.position c.self.invariant.0 in
    let none : false ≡ list_any (λ z. z == c.secs.result) c.deref.result.now = ap is_ok (sym c.in-Err.is) ∙ found-any c.deref.result.now c.secs.result c.binary_search.result found in
    let new : false ≡ has_date c.args.self.now.dates c.args.date =
    none
    ∙ (ap (λ (n : ℕ). list_any (λ z. z == n) c.deref.result.now) c.secs.ensures.value
    ∙ (ap (λ (l : List ℕ). list_any (λ z. z == c.args.date) l) c.deref.ensures.value
    ∙ ap (λ (v : Index). has_date v.dates c.args.date) c.self.view_is)) in
    absurd (false≢true (new ∙ there))
