-- A schedule beside its numbers: what changes leave of them, a pool that gets another size, and rows.
use Rattle.std.proofs.Common.{◌≡◌, ◌∙◌, refl, sym, ap, subst, ℕ, ◌-ℤ◌, pos, ◌≤◌, List, [], ◌∷◌, Bool, true, false, cond, ◌||◌, length, map, min, filter, find, is_some, sum_by, count_by, Option, Some, None, option_map, unwrap_or, arith, leb-true, true≢false}
use Rattle.std.specs.BTreeMap.{insert_entry}
use Rattle.std.specs.List.{list_all, list_any}
use Rattle.std.specs.Ordering.{is_eq, match_ordering}
use Rattle.std.specs.declared.cmp.Ordering.{Ordering}
use Rattle.std.specs.declared.cmp.Ordering.TheVariants.{Less, Equal, Greater}
use Rattle.std.specs.Cmp.Lexicographic.{nat_list_eq_equiv}
use Rattle.std.proofs.Math.Nat.{min-eq_left}
use Rattle.std.proofs.lemmas.Cmp.{nat_list_cmp_total}
use Rattle.std.proofs.lemmas.Map.Text.{is_eq-slice_cmp}
use Rattle.graph_file.specs.Names.{is_name}
use Rattle.instance_machine.specs.Reports.{reported_try}
use Rattle.instance_machine.specs.declared.tries.Stage.{Stage}
use Rattle.pool_book.specs.Limits.{most_taken}
use Rattle.pool_book.specs.Pools.{Entries, PoolUse, pool_of, resized, occupied_of, vacated}
use Rattle.pool_book.proofs.PoolLemmas.{pool_of-put}
use Rattle.sched_state.specs.Lists.{same, name_cmp, is_less, insert_by}
use Rattle.sched_state.proofs.NameLemmas.{same_is, same_itself}
use Rattle.sched_state.proofs.OrderLemmas.{and_left, and_right, or_left, or_right}
use Rattle.sched_model.specs.Changes.{resize_pool, new_pool, with_pool, resize, report, restart}
use Rattle.sched_model.specs.Clearing.{Selection}
use Rattle.sched_model.specs.Handout.{hand_out}
use Rattle.sched_model.specs.Lists.{rises}
use Rattle.sched_model.specs.NamedRuns.{NamedRun, add_runs}
use Rattle.sched_model.specs.Schedule.{Schedule, Pool, has_pool, pool_before}
use Rattle.sched_model.specs.Settle.{settle}
use Rattle.sched_model.specs.Sound.{IsSound, is_sound_pool}
use Rattle.sched_model.specs.States.{OpenTry, active_tries, in_flight, is_of, open_tries, slots_in, occupied}
use Rattle.sched_laws.proofs.OccupyingLemmas.{open_cleared, open_added, open_restarted, ended_by, occupied_reported}
use Rattle.sched_laws.proofs.SlotLemmas.{open_settled, out_filled, none_occupied}
use Rattle.sched_laws.proofs.SoundLemmas.{settle_sound}
use Rattle.sched_events.specs.Events.{set_back}
use Rattle.sched_events.specs.SettledAndSound.{IsSoundAndSaid, IsSettled}
use Rattle.sched_events.specs.Rows.{PoolLine}
use Rattle.sched_draft.specs.Books.{pools_in, Takes, IsBookOf}
use Rattle.sched_draft.proofs.BookLemmas.{has_is}
use Rattle.sched_handout.specs.Active.{count_of}
use Rattle.sched_handout.specs.Occupied.{AreOccupied}
use Rattle.sched_handout.specs.declared.occupied.Occupied.{Occupied}
use Rattle.sched_core.specs.Books.{IsCounted, IsHeldWith}
use Rattle.sched_core.specs.Inside.{row_in}
use Rattle.sched_core.specs.Views.{pool_row, pool_rows}
use Rattle.sched_laws.proofs.RankLemmas.{less_is}
use Rattle.sched_laws.proofs.ResizeLemmas.{resize_other}

-- ---- the same tries take the same slots
pub counted_same : (a b : Schedule) → open_tries b ≡ open_tries a → IsCounted a → IsCounted b
counted_same a b e counted name = subst (λ n. n ≤ most_taken) (ap (sum_by (slots_in name)) (sym e)) (counted name)

-- and so are the numbers, where the pools are the same
pub occupied_as : (a b : Schedule) (t u : Occupied) → open_tries b ≡ open_tries a → b.pools ≡ a.pools → u.in_flight ≡ t.in_flight → u.pools.pools ≡ t.pools.pools → u.active ≡ t.active → AreOccupied a t → AreOccupied b u
occupied_as a b t u e pools flight book active h = record {
  in_flight = flight ∙ (h.in_flight ∙ ap (λ (es : List OpenTry). length es) (sym e));
  pools = subst (IsBookOf b) (sym book) (record {
    pools = h.pools.pools ∙ sym pools;
    taken = λ name p there. h.pools.taken name p there ∙ ap (λ (es : List OpenTry). min (sum_by (slots_in name) es) most_taken) (sym e);
  });
  active = λ id. ap (count_of id) active ∙ (h.active id ∙ ap (count_by (is_of id)) (sym e));
}

pub quiet_held : (a b : Schedule) (t : Occupied) (was : Bool) → IsSoundAndSaid b → IsSettled b → open_tries b ≡ open_tries a → b.pools ≡ a.pools → IsHeldWith was a t → IsHeldWith true b t
quiet_held a b t was kept still e pools held = record {
  kept = kept;
  settled = λ known. still;
  counted = counted_same a b e held.counted;
  occupied = occupied_as a b t t e pools refl refl refl held.occupied;
}

-- ---- what events leave
open_back : (named : Option Selection) (a : Schedule) → open_tries (set_back named a) ≡ open_tries a
open_back None a = refl
open_back (Some named) a = open_cleared named a

pools_back : (named : Option Selection) (a : Schedule) → (set_back named a).pools ≡ a.pools
pools_back None a = refl
pools_back (Some named) a = refl

pub repair_open : (ns : List NamedRun) (named : Option Selection) (a : Schedule) → open_tries (add_runs ns (set_back named a)) ≡ open_tries a
repair_open ns named a = open_added ns (set_back named a) ∙ open_back named a

pub repair_pools : (ns : List NamedRun) (named : Option Selection) (a : Schedule) → (add_runs ns (set_back named a)).pools ≡ a.pools
repair_pools ns named a = pools_back named a

pub report_counted : (serial : ℕ) (stage : Stage) (a : Schedule) → IsCounted a → IsCounted (report serial stage a)
report_counted serial stage a counted name =
    let given_back : ℕ = sum_by (slots_in name) (filter (ended_by (reported_try serial stage a.now)) (open_tries a)) in
    let before = occupied_reported serial stage a name in
    let high = counted name in
    omega (arith, before, high)

pub restart_counted : (lanes : ℕ) (a : Schedule) → IsCounted (restart lanes a)
restart_counted lanes a name = subst (λ es. sum_by (slots_in name) es ≤ most_taken) (sym (open_restarted lanes a)) (leb-true 0 most_taken refl)

-- ---- and what is handed out after them
small : (name : List ℕ) (qs : List Pool) → list_all is_sound_pool qs ≡ true → unwrap_or (option_map (λ (q : Pool). q.size) (find (λ (q : Pool). same q.name name) qs)) 0 ≤ most_taken
small name [] e = leb-true 0 most_taken refl
small name (q ∷ qs) e =
    elim (same q.name name) as (λ b. unwrap_or (option_map (λ (w : Pool). w.size) (cond b (Some q) (find (λ (w : Pool). same w.name name) qs))) 0 ≤ most_taken) [
      | true ↦
          let here : q.size ≤ 1000000 = leb-true _ _ (and_right (is_name q.name) _ (and_left (is_sound_pool q) _ e)) in
          let high : 1000000 ≤ most_taken = leb-true 1000000 most_taken refl in
          omega (arith, here, high)
      | false ↦ small name qs (and_right (is_sound_pool q) _ e)
    ]

pub end_counted : (b : Schedule) → IsSound b → IsCounted b → IsCounted (hand_out (settle b))
end_counted b sound counted name =
    out_filled (settle b) name most_taken (counted_same b (settle b) (open_settled b) counted name) (small name (settle b).pools (settle_sound b sound).pools)

-- a book that counts no further than the most says what is taken, where that is no more
pub book_taken : (a : Schedule) (es : Entries) → IsCounted a → IsBookOf a es → Takes (occupied a) es
book_taken a es counted book name p there = book.taken name p there ∙ min-eq_left (counted name)

-- the numbers of a schedule that was read, whose tries were counted
pub read_occupied : (a : Schedule) (t : Occupied) → IsCounted a → t.in_flight ≡ in_flight a → pools_in t.pools.pools ≡ a.pools → Takes (occupied a) t.pools.pools
    → ((id : List ℕ) → count_of id t.active ≡ active_tries a id) → AreOccupied a t
read_occupied a t counted flight pools taken active = record { in_flight = flight; pools = record { pools = pools; taken = λ name p there. taken name p there ∙ sym (min-eq_left (counted name)) }; active = active }

-- ---- after a restart nothing is taken
vacated_pools : (es : Entries) → pools_in (vacated es) ≡ pools_in es
vacated_pools [] = refl
vacated_pools (e ∷ es) = ap (λ (qs : List Pool). record { name = e.0; size = e.1.size } ∷ qs) (vacated_pools es)

vacant : (name : List ℕ) (p : PoolUse) (es : Entries) → pool_of name (vacated es) ≡ Some p → p.occupied ≡ 0
vacant name p [] e = absurd (let c : ◌≡◌ {A = Option PoolUse} None (Some p) = e in cc)
vacant name p (e ∷ es) f = elim (same name e.0) as (λ b. cond b (Some (record e.1 { occupied = 0 })) (pool_of name (vacated es)) ≡ Some p → p.occupied ≡ 0) [
  | true ↦ λ g. let c : ◌≡◌ {A = Option PoolUse} (Some (record e.1 { occupied = 0 })) (Some p) = g in let is : record e.1 { occupied = 0 } ≡ p = cc in ap (λ (q : PoolUse). q.occupied) (sym is)
  | false ↦ λ g. vacant name p es g
] f

pub restart_occupied : (lanes : ℕ) (a : Schedule) (t u : Occupied) → pools_in t.pools.pools ≡ a.pools → u.in_flight ≡ 0 → u.pools.pools ≡ vacated t.pools.pools → u.active ≡ [] → AreOccupied (restart lanes a) u
restart_occupied lanes a t u pools flight book none = record {
  in_flight = flight ∙ ap (λ (es : List OpenTry). length es) (sym (open_restarted lanes a));
  pools = subst (IsBookOf (restart lanes a)) (sym book) (record {
    pools = vacated_pools t.pools.pools ∙ pools;
    taken = λ name p there. vacant name p t.pools.pools there ∙ ap (λ (es : List OpenTry). min (sum_by (slots_in name) es) most_taken) (sym (open_restarted lanes a));
  });
  active = λ id. ap (count_of id) none ∙ ap (count_by (is_of id)) (sym (open_restarted lanes a));
}

-- ---- of a pool that is resized as much is taken
pub resized_taken : (a : Schedule) (name : List ℕ) (size : ℕ) (es new : Entries) → IsSound a → IsBookOf a es → new ≡ resized name size es → Takes (λ other. min (occupied a other) most_taken) new
resized_taken a name size es new sound book is other p there = by (same name other) refl (sym (pool_of-put name (record { size = size; occupied = occupied_of name es }) other es) ∙ (ap (pool_of other) (sym is) ∙ there))
  where
    known : (o : Option PoolUse) → pool_of name es ≡ o → unwrap_or (option_map (λ (q : PoolUse). q.occupied) o) 0 ≡ min (occupied a name) most_taken
    known None e =
        let none : has_pool a name ≡ false = has_is a es name book.pools ∙ ap is_some e in
        sym (ap (λ n. min n most_taken) (none_occupied a name sound none))
    known (Some q) e = book.taken name q e

    by : (b : Bool) → same name other ≡ b → cond b (Some (record { size = size; occupied = occupied_of name es })) (pool_of other es) ≡ Some p → p.occupied ≡ min (occupied a other) most_taken
    by true e found =
        let c : ◌≡◌ {A = Option PoolUse} (Some (record { size = size; occupied = occupied_of name es })) (Some p) = found in
        let u : record { size = size; occupied = occupied_of name es } ≡ p = cc in
        ap (λ (q : PoolUse). q.occupied) (sym u) ∙ (known (pool_of name es) refl ∙ ap (λ n. min (occupied a n) most_taken) (same_is name other e))
    by false e found = book.taken other p found

-- ---- pools by name
apart_by : (x y : List ℕ) (k : Ordering) → name_cmp x y ≡ k → same x y ≡ is_eq k
apart_by x y k e = sym (is_eq-slice_cmp x y) ∙ ap is_eq e

-- no pool after a name has it
none_after : (x : List ℕ) (qs : List Pool) → list_all (λ (q : Pool). is_less (name_cmp x q.name)) qs ≡ true → list_any (λ (q : Pool). same q.name x) qs ≡ false
none_after x [] e = refl
none_after x (q ∷ qs) e =
    let other : same q.name x ≡ false = nat_list_eq_equiv.symm q.name x ∙ apart_by x q.name Less (less_is _ (and_left (is_less (name_cmp x q.name)) _ e)) in
    rw other (none_after x qs (and_right (is_less (name_cmp x q.name)) _ e))

-- what stands after a name stands after one before it
later_after : (x y : List ℕ) (qs : List Pool) → name_cmp x y ≡ Less → list_all (λ (q : Pool). is_less (name_cmp y q.name)) qs ≡ true → list_all (λ (q : Pool). is_less (name_cmp x q.name)) qs ≡ true
later_after x y [] e f = refl
later_after x y (q ∷ qs) e f =
    let here : is_less (name_cmp x q.name) ≡ true = ap is_less (nat_list_cmp_total.trans x y q.name e (less_is _ (and_left (is_less (name_cmp y q.name)) _ f))) in
    rw here (later_after x y qs e (and_right (is_less (name_cmp y q.name)) _ f))

others_stay : (name : List ℕ) (size : ℕ) (qs : List Pool) → list_any (λ (q : Pool). same q.name name) qs ≡ false → map (resize_pool name size) qs ≡ qs
others_stay name size [] e = refl
others_stay name size (q ∷ qs) e =
    ap (λ w. w ∷ map (resize_pool name size) qs) (resize_other name size q (or_left (same q.name name) _ e))
    ∙ ap (λ ws. q ∷ ws) (others_stay name size qs (or_right (same q.name name) _ e))

-- ---- a pool of a book gets another size
abbrev line : List ℕ × PoolUse → Pool
line e = record { name = e.0; size = e.1.size }

abbrev among : List ℕ → Entries → Bool
among name es = list_any (λ (q : Pool). same q.name name) (pools_in es)

-- behind a pool of another name
behind : (name : List ℕ) (size : ℕ) (q : Pool) (qs : List Pool) (b : Bool) → same q.name name ≡ false → pool_before (new_pool name size) q ≡ false → q ∷ with_pool b name size qs ≡ with_pool b name size (q ∷ qs)
behind name size q qs true e f = ap (λ w. w ∷ map (resize_pool name size) qs) (sym (resize_other name size q e))
behind name size q qs false e f = ap (λ b. elim b [ true ↦ new_pool name size ∷ q ∷ qs | false ↦ q ∷ insert_by pool_before (new_pool name size) qs ]) (sym f)

put : (name : List ℕ) (size taken : ℕ) (es : Entries) → rises pool_before (pools_in es) ≡ true
    → pools_in (insert_entry name_cmp es name (record { size = size; occupied = taken })) ≡ with_pool (among name es) name size (pools_in es)
put name size taken [] order = refl
put name size taken (e ∷ es) order = by (name_cmp name e.0) refl (put name size taken es (and_right (list_all (pool_before (line e)) (pools_in es)) _ order))
  where
    after : list_all (pool_before (line e)) (pools_in es) ≡ true
    after = and_left (list_all (pool_before (line e)) (pools_in es)) _ order

    head : (k : Ordering) → name_cmp name e.0 ≡ k → same e.0 name ≡ is_eq k
    head k at = nat_list_eq_equiv.symm e.0 name ∙ apart_by name e.0 k at

    v : PoolUse
    v = record { size = size; occupied = taken }

    by : (k : Ordering) → name_cmp name e.0 ≡ k → pools_in (insert_entry name_cmp es name v) ≡ with_pool (among name es) name size (pools_in es)
        → pools_in (match_ordering k ((name, v) ∷ e ∷ es) ((e.0, v) ∷ es) (e ∷ insert_entry name_cmp es name v)) ≡ with_pool (among name (e ∷ es)) name size (pools_in (e ∷ es))
    by Less at rest =
        let none : among name es ≡ false = none_after name (pools_in es) (later_after name e.0 (pools_in es) at after) in
        let no_one : among name (e ∷ es) ≡ false = ap (λ b. b || among name es) (head Less at) ∙ none in
        sym (ap (λ b. with_pool b name size (pools_in (e ∷ es))) no_one
        ∙ ap (λ (k : Ordering). elim (is_less k) [ true ↦ new_pool name size ∷ pools_in (e ∷ es) | false ↦ line e ∷ insert_by pool_before (new_pool name size) (pools_in es) ]) at)
    by Equal at rest =
        let mine : same e.0 name ≡ true = head Equal at in
        let none : among name es ≡ false = subst (λ n. among n es ≡ false) (same_is e.0 name mine) (none_after e.0 (pools_in es) after) in
        let resized_one : resize_pool name size (line e) ≡ record { name = e.0; size = size } = ap (λ b. cond b (record { name = e.0; size = size }) (line e)) mine in
        sym (ap (λ b. with_pool (b || among name es) name size (pools_in (e ∷ es))) mine
        ∙ (ap (λ w. w ∷ map (resize_pool name size) (pools_in es)) resized_one
        ∙ ap (λ ws. record { name = e.0; size = size } ∷ ws) (others_stay name size (pools_in es) none)))
    by Greater at rest =
        let other : same e.0 name ≡ false = head Greater at in
        ap (λ ws. line e ∷ ws) rest
        ∙ (behind name size (line e) (pools_in es) (among name es) other (ap is_less at)
        ∙ ap (λ b. with_pool (b || among name es) name size (pools_in (e ∷ es))) (sym other))

pub resized_pools : (name : List ℕ) (size : ℕ) (a : Schedule) (es : Entries) → pools_in es ≡ a.pools → rises pool_before a.pools ≡ true → pools_in (resized name size es) ≡ (resize name size a).pools
resized_pools name size a es pools order =
    put name size (occupied_of name es) es (ap (rises pool_before) pools ∙ order) ∙ ap (λ (qs : List Pool). with_pool (list_any (λ (q : Pool). same q.name name) qs) name size qs) pools

-- ---- rows
later_taken : (a : Schedule) (taken : List ℕ → ℕ) (e : List ℕ × PoolUse) (es : Entries) → list_all (pool_before (line e)) (pools_in es) ≡ true → Takes taken (e ∷ es) → Takes taken es
later_taken a taken e es after h name p there = by (same name e.0) refl
  where
    by : (b : Bool) → same name e.0 ≡ b → p.occupied ≡ taken name
    by true is =
        let none : among name es ≡ false = subst (λ n. among n es ≡ false) (sym (same_is name e.0 is)) (none_after e.0 (pools_in es) after) in
        let some : among name es ≡ true = has_is (record a { pools = pools_in es }) es name refl ∙ ap is_some there in
        absurd (true≢false (sym some ∙ none))
    by false other = h name p (ap (λ b. cond b (Some e.1) (pool_of name es)) other ∙ there)

rows_in : (a : Schedule) (es : Entries) → rises pool_before (pools_in es) ≡ true → Takes (occupied a) es → map row_in es ≡ map (pool_row a) (pools_in es)
rows_in a [] order h = refl
rows_in a (e ∷ es) order h =
    let here : e.1.occupied ≡ occupied a e.0 = h e.0 e.1 (ap (λ b. cond b (Some e.1) (pool_of e.0 es)) (same_itself e.0)) in
    let after : list_all (pool_before (line e)) (pools_in es) ≡ true = and_left (list_all (pool_before (line e)) (pools_in es)) _ order in
    let rest = rows_in a es (and_right (list_all (pool_before (line e)) (pools_in es)) _ order) (later_taken a (occupied a) e es after h) in
    ap (λ (n : ℕ). let w : PoolLine = record { name = e.0; size = e.1.size; occupied = n; open_slots = pos e.1.size -ℤ pos n } in w ∷ map row_in es) here ∙ ap (λ (ws : List PoolLine). pool_row a (line e) ∷ ws) rest

-- the rows of the book are those of the schedule
pub rows_held : (is_settled : Bool) (a : Schedule) (t : Occupied) → IsHeldWith is_settled a t → map row_in t.pools.pools ≡ pool_rows a
rows_held is_settled a t held =
    let es : Entries = t.pools.pools in
    let book : IsBookOf a es = held.occupied.pools in
    rows_in a es (ap (rises pool_before) book.pools ∙ held.kept.sound.pools_by_name) (book_taken a es held.counted book) ∙ ap (map (pool_row a)) book.pools
