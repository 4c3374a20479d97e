-- The numbers of a sound schedule's tries are in the columns' range.
use Rattle.std.proofs.Common.{◌≡◌, refl, sym, ap, ℕ, zero, suc, ◌+◌, ◌<◌, ◌≤◌, List, [], ◌∷◌, Bool, true, length, Option, None, Some, slice_get, nat_le, true≢false, arith}
use Rattle.std.specs.List.{list_all, zip}
use Rattle.std.proofs.lemmas.Bool.{leb-true, ltb-true}
use Rattle.instance_machine.specs.declared.tries.Try.{Try}
use Rattle.sched_state.specs.declared.runs.Run.{Run}
use Rattle.sched_state.proofs.OrderLemmas.{and_left, and_right}
use Rattle.sched_model.specs.Handout.{last_serial}
use Rattle.sched_model.specs.Lists.{rises, all_pairs}
use Rattle.sched_model.specs.Schedule.{Schedule, dag_among}
use Rattle.sched_model.specs.Sound.{IsSound, is_sound_in, is_sound_run, is_used, try_before, tries_rise, all_tries_rise}
use Rattle.record_rules.proofs.sched_laws.InstanceLemmas.{Parts, parts_of}
use Rattle.record_rules.proofs.sched_laws.ListLemmas.{all_get}
use Rattle.record_rules.proofs.sched_laws.RunLemmas.{pairs_of_run}
use Rattle.record_rules.proofs.FoundLemmas.{Stands, held_sound, ids_once}
use Rattle.record_rules.proofs.RisingLemmas.{attempts_rise}
use Rattle.record_rules.proofs.RuleLemmas.{serial_used}
use Rattle.record_writing.specs.Ranges.{FitColumns, FitsTables}

-- numbers that rise are no more than those between their bounds
rising_count : (ts : List Try) (low next : ℕ) → low ≤ next → ((n : ℕ) (u : Try) → slice_get ts n ≡ Some u → (low ≤ u.serial) × (u.serial < next)) → rises try_before ts ≡ true → low + length ts ≤ next
rising_count [] low next l h r = omega (arith, l)
rising_count (t ∷ ts) low next l h r =
    let first : (low ≤ t.serial) × (t.serial < next) = h zero t refl in
    let rest : (low + 1) + length ts ≤ next = rising_count ts (low + 1) next (omega (arith, first.0, first.1))
    (λ n u e. let b : t.serial < u.serial = ltb-true t.serial u.serial (all_get (try_before t) ts n u (and_left _ _ r) e) in (omega (arith, first.0, b), (h (suc n) u e).1))
    (and_right (list_all (try_before t) ts) _ r) in
    omega (arith, rest)

-- what stands in the second of two lists has something beside it in the first
beside_it : {X Y : Type 0} (p : X → Y → Bool) (xs : List X) (ys : List Y) (n : ℕ) (y : Y) → all_pairs p xs ys ≡ true → slice_get ys n ≡ Some y → (x : X) × (slice_get (zip xs ys) n ≡ Some (x, y))
beside_it {Y = Y} p [] [] n y a e = absurd (let c : ◌≡◌ {A = Option Y} None (Some y) = e in cc)
beside_it p [] (z ∷ ys) n y a e = absurd (true≢false (sym a))
beside_it p (x ∷ xs) [] n y a e = absurd (true≢false (sym a))
beside_it {X} {Y} p (x ∷ xs) (z ∷ ys) zero y a e = let c : ◌≡◌ {A = Option Y} (Some z) (Some y) = e in let q : z ≡ y = cc in (x, ap (λ (w : Y). let o : Option (X × Y) = Some (x, w) in o) q)
beside_it p (x ∷ xs) (z ∷ ys) (suc n) y a e = beside_it p xs ys n y (and_right (p x z) _ a) e

below_last : (n next last : ℕ) → 1 + n ≤ next → next ≤ last + 1 → n ≤ last
below_last n next last a b = omega arith

pub fits_columns : (a : Schedule) (n : ℕ) (r : Run) → IsSound a → slice_get a.runs n ≡ Some r → FitColumns r
fits_columns a n r s e place i f =
    let b = beside_it (is_sound_in r.phase) (dag_among a.graphs r.graph).tasks r.instances place i (pairs_of_run a.graphs r (all_get (is_sound_run a.graphs) a.runs n r s.runs e)) f in
    let at : Stands a r b.0 i = record { run = n; place = place; run_is = e; pair_is = b.1 } in
    let p : Parts b.0 i = parts_of b.0 i (held_sound a r b.0 i s at) in
    let high : a.next ≤ last_serial + 1 = leb-true a.next (last_serial + 1) (and_right (nat_le 1 a.next) _ s.serials) in
    let used : (m : ℕ) (u : Try) → slice_get i.tries m ≡ Some u → (1 ≤ u.serial) × (u.serial < a.next) = λ m u g.
    let k : is_used a.next u.serial ≡ true = serial_used a r b.0 i m u s at g in
    (leb-true 1 u.serial (and_left _ _ k), ltb-true u.serial a.next (and_right (nat_le 1 u.serial) _ k)) in
    let risen : tries_rise i ≡ true = all_get tries_rise r.instances place i (all_get all_tries_rise a.runs n r s.tries_by_serial e) f in
    let count : 1 + length i.tries ≤ a.next = rising_count i.tries 1 a.next (leb-true 1 a.next (and_left _ _ s.serials)) used risen in
    let number : length i.tries ≤ last_serial = below_last (length i.tries) a.next last_serial count high in
    record {
      since = no_more i.since (length i.tries) last_serial p.within number;
      number = number;
      serial = λ m u g. below_last u.serial a.next last_serial (under u.serial a.next (used m u g).1) high;
    }
  where
    no_more : (k m last : ℕ) → k ≤ m → m ≤ last → k ≤ last
    no_more k m last x y = omega arith

    under : (k m : ℕ) → k < m → 1 + k ≤ m
    under k m x = omega arith

pub fits_tables : (a : Schedule) → IsSound a → FitsTables a
fits_tables a s = record {
  next = leb-true a.next (last_serial + 1) (and_right (nat_le 1 a.next) _ s.serials);
  runs = λ n r e. fits_columns a n r s e;
  attempts = attempts_rise a s;
  tasks = λ n r e. ids_once a r.graph s;
}
