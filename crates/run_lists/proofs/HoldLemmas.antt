-- Where the runs stand of which something holds, once a run was put in or written over.
use Rattle.std.proofs.Common.{◌≡◌, ◌∙◌, refl, sym, ap, subst, ℕ, zero, suc, ◌+◌, ◌<◌, ◌≤◌, Bool, List, [], ◌∷◌, ◌++◌, true, false, cond, length, drop, drop-cons, get_or, insert, set, append_assoc, nat_lt, nat_le, nat_eq, arith}
use Rattle.std.specs.List.{list_all}
use Rattle.std.proofs.lemmas.Bool.{eqb-true, eq-eqb, ltb-true, lt-ltb, le-ltb, lt-leb, le-leb, and_from, false_from_ne_true}
use Rattle.std.proofs.lemmas.List.{append-nil}
use Rattle.sched_state.specs.declared.runs.Run.{Run}
use Rattle.sched_state.proofs.OrderLemmas.{and_left}
use Rattle.sched_model.specs.Lists.{at, rises}
use Rattle.run_lists.specs.declared.edits.Edit.{Edit}
use Rattle.run_lists.specs.Edits.{AreEditsOf, RiseFrom, added, added_by, edited, hidden, put_in}
use Rattle.run_lists.specs.Positions.{IsIndex, marked, placed, positions_from, positions_where, with_position, without_position}
use Rattle.run_lists.specs.Touched.{shifted_from}
use Rattle.run_lists.proofs.PlaceLemmas.{by_bool}
use Rattle.run_lists.proofs.PutLemmas.{length_put, parts}
use Rattle.run_lists.proofs.EditLemmas.{length_all, within_puts}

-- ---- they rise, from the first one on
above_places : (p : Run → Bool) (i k : ℕ) (rs : List Run) → k < i → list_all (nat_lt k) (positions_from p i rs) ≡ true
above_places p i k [] l = refl
above_places p i k (r ∷ rs) l = by_bool {C = list_all (nat_lt k) (positions_from p i (r ∷ rs)) ≡ true} (p r)
    (λ f. rw f (and_from (nat_lt k i) _ (lt-ltb k i l) (above_places p (suc i) k rs (omega (arith, l)))))
    (λ f. rw f (above_places p (suc i) k rs (omega (arith, l))))

rise_places : (p : Run → Bool) (i : ℕ) (rs : List Run) → rises nat_lt (positions_from p i rs) ≡ true
rise_places p i [] = refl
rise_places p i (r ∷ rs) = by_bool {C = rises nat_lt (positions_from p i (r ∷ rs)) ≡ true} (p r)
    (λ f. rw f (and_from (list_all (nat_lt i) (positions_from p (suc i) rs)) _ (above_places p (suc i) i rs (omega arith)) (rise_places p (suc i) rs)))
    (λ f. rw f (rise_places p (suc i) rs))

pub places_rise : (p : Run → Bool) (rs : List Run) → rises nat_lt (positions_where p rs) ≡ true
places_rise p rs = rise_places p 0 rs

-- ---- one that stands before all others
not_below : (m n : ℕ) → m ≤ n → nat_lt n m ≡ false
not_below m n l = le-ltb n m l

not_same : (m n : ℕ) → m < n → nat_eq n m ≡ false
not_same m n l = false_from_ne_true (nat_eq n m) (λ e. let k : n ≡ m = eqb-true n m e in omega (arith, k, l))

with_first : (n : ℕ) (ns : List ℕ) → list_all (nat_lt n) ns ≡ true → with_position n ns ≡ n ∷ ns
with_first n [] h = refl
with_first n (x ∷ xs) h =
    let l : n < x = ltb-true n x (and_left _ _ h) in
    let f : nat_lt x n ≡ false = not_below n x (omega (arith, l)) in
    let g : nat_eq x n ≡ false = not_same n x l in
    rw (f, g) refl

without_first : (n : ℕ) (ns : List ℕ) → list_all (nat_lt n) ns ≡ true → without_position n ns ≡ ns
without_first n [] h = refl
without_first n (x ∷ xs) h =
    let l : n < x = ltb-true n x (and_left _ _ h) in
    let f : nat_lt x n ≡ false = not_below n x (omega (arith, l)) in
    let g : nat_eq x n ≡ false = not_same n x l in
    rw (f, g) refl

-- n is one of them exactly where it holds
first_marked : (b : Bool) (n : ℕ) (ns : List ℕ) → list_all (nat_lt n) ns ≡ true → marked b n ns ≡ cond b (n ∷ ns) ns
first_marked true n ns h = with_first n ns h
first_marked false n ns h = without_first n ns h

-- where it stands first already
same_marked : (b : Bool) (n : ℕ) (ns : List ℕ) → marked b n (n ∷ ns) ≡ cond b (n ∷ ns) ns
same_marked true n ns = let f : nat_lt n n ≡ false = not_below n n (omega arith) in let g : nat_eq n n ≡ true = eq-eqb n n refl in rw (f, g) refl
same_marked false n ns = let f : nat_lt n n ≡ false = not_below n n (omega arith) in let g : nat_eq n n ≡ true = eq-eqb n n refl in rw (f, g) refl

-- behind one that stands before it
later_marked : (b : Bool) (n i : ℕ) (ns : List ℕ) → i < n → marked b n (i ∷ ns) ≡ i ∷ marked b n ns
later_marked true n i ns l = let f : nat_lt i n ≡ true = lt-ltb i n l in rw f refl
later_marked false n i ns l = let f : nat_lt i n ≡ true = lt-ltb i n l in rw f refl

-- ---- one position further on
shifted_places : (p : Run → Bool) (n i : ℕ) (rs : List Run) → n ≤ i → shifted_from n (positions_from p i rs) ≡ positions_from p (suc i) rs
shifted_places p n i [] l = refl
shifted_places p n i (r ∷ rs) l = by_bool {C = shifted_from n (positions_from p i (r ∷ rs)) ≡ positions_from p (suc i) (r ∷ rs)} (p r)
    (λ f. let g : nat_le n i ≡ true = le-leb n i l in
    let one : i + 1 ≡ suc i = omega arith in
    rw f (rw g (ap (λ k. k ∷ shifted_from n (positions_from p (suc i) rs)) one ∙ ap (λ ks. suc i ∷ ks) (shifted_places p n (suc i) rs (omega (arith, l))))))
    (λ f. rw f (shifted_places p n (suc i) rs (omega (arith, l))))

-- ---- a run is put in, or written over
later_placed : (b h : Bool) (n i : ℕ) (ns : List ℕ) → i < n → placed b h n (i ∷ ns) ≡ i ∷ placed b h n ns
later_placed true h n i ns l =
    let g : nat_le n i ≡ false = lt-leb n i l in
    rw g (later_marked h n i (shifted_from n ns) l)
later_placed false h n i ns l = later_marked h n i ns l

cond_placed : (b h c : Bool) (n i : ℕ) (ns : List ℕ) → i < n → placed b h n (cond c (i ∷ ns) ns) ≡ cond c (i ∷ placed b h n ns) (placed b h n ns)
cond_placed b h true n i ns l = later_placed b h n i ns l
cond_placed b h false n i ns l = refl

over_first : (h c : Bool) (n : ℕ) (ns : List ℕ) → list_all (nat_lt n) ns ≡ true → marked h n (cond c (n ∷ ns) ns) ≡ cond h (n ∷ ns) ns
over_first h true n ns l = same_marked h n ns
over_first h false n ns l = first_marked h n ns l

put_places : (p : Run → Bool) (b : Bool) (n i k : ℕ) (x : Run) (f : Run → Run) (rs : List Run) → f ≡ (λ _. x) → k ≡ i + n → n + hidden b ≤ length rs
    → positions_from p i (put_in b n x f rs) ≡ placed b (p x) k (positions_from p i rs)
put_places p true zero i k x f rs is e l =
    let q : k ≡ i = omega (arith, e) in
    sym (ap (λ j. marked (p x) j (shifted_from j (positions_from p i rs))) q
    ∙ ap (marked (p x) i) (shifted_places p i i rs (omega arith))
    ∙ first_marked (p x) i (positions_from p (suc i) rs) (above_places p (suc i) i rs (omega arith)))
put_places p false zero i k x f [] is e l = absurd (omega (arith, l))
put_places p false zero i k x f (r ∷ rs) is e l =
    let q : k ≡ i = omega (arith, e) in
    ap (λ (g : Run → Run). positions_from p i (g r ∷ rs)) is
    ∙ sym (ap (λ j. marked (p x) j (positions_from p i (r ∷ rs))) q ∙ over_first (p x) (p r) i (positions_from p (suc i) rs) (above_places p (suc i) i rs (omega arith)))
put_places p true (suc n) i k x f [] is e l = absurd (omega (arith, l))
put_places p false (suc n) i k x f [] is e l = absurd (omega (arith, l))
put_places p true (suc n) i k x f (r ∷ rs) is e l =
    ap (λ ks. cond (p r) (i ∷ ks) ks) (put_places p true n (suc i) k x f rs is (omega (arith, e)) (omega (arith, l)))
    ∙ sym (cond_placed true (p x) (p r) k i (positions_from p (suc i) rs) (omega (arith, e)))
put_places p false (suc n) i k x f (r ∷ rs) is e l =
    ap (λ ks. cond (p r) (i ∷ ks) ks) (put_places p false n (suc i) k x f rs is (omega (arith, e)) (omega (arith, l)))
    ∙ sym (cond_placed false (p x) (p r) k i (positions_from p (suc i) rs) (omega (arith, e)))

pub placed_is : (p : Run → Bool) (b : Bool) (n : ℕ) (x : Run) (rs : List Run) → n + hidden b ≤ length rs → positions_where p (put_in b n x (λ _. x) rs) ≡ placed b (p x) n (positions_where p rs)
placed_is p b n x rs l = put_places p b n 0 n x (λ _. x) rs refl (omega arith) l

-- ---- a search that is under way: those that were found among the first runs, and those behind them
joined : (b : Bool) (i : ℕ) (ks : List ℕ) → cond b (i ∷ []) [] ++ ks ≡ cond b (i ∷ ks) ks
joined true i ks = refl
joined false i ks = refl

pub found_more : (p : Run → Bool) (i j : ℕ) (rs : List Run) (ns ms total : List ℕ) (r : Run) (b : Bool) → j ≡ suc i → i < length rs → r ≡ get_or rs i r → ms ≡ ns ++ cond b (i ∷ []) [] → b ≡ p r → ns ++ positions_from p i (drop i rs) ≡ total
    → ms ++ positions_from p j (drop j rs) ≡ total
found_more p i j rs ns ms total r b one low got made is h =
    let whole : drop i rs ≡ r ∷ drop (suc i) rs = drop-cons rs i r low ∙ ap (λ (q : Run). q ∷ drop (suc i) rs) (sym got) in
    let rest : List ℕ = positions_from p (suc i) (drop (suc i) rs) in
    ap (λ ks. ks ++ positions_from p j (drop j rs)) made
    ∙ (append_assoc ns (cond b (i ∷ []) []) (positions_from p j (drop j rs))
    ∙ (ap (λ ks. ns ++ ks) (ap (λ n. cond b (i ∷ []) [] ++ positions_from p n (drop n rs)) one ∙ (joined b i rest ∙ (ap (λ c. cond c (i ∷ rest) rest) is ∙ sym (ap (positions_from p i) whole)))) ∙ h))

pub found_all : (p : Run → Bool) (i : ℕ) (rs : List Run) (ns total : List ℕ) → length rs ≤ i → ns ++ positions_from p i (drop i rs) ≡ total → ns ≡ total
found_all p i rs ns total past h = sym (append-nil ns) ∙ (ap (λ (qs : List Run). ns ++ positions_from p i qs) (sym (drop_past i rs past)) ∙ h)
  where
    drop_past : (i : ℕ) (qs : List Run) → length qs ≤ i → drop i qs ≡ []
    drop_past zero [] l = refl
    drop_past zero (q ∷ qs) l = absurd (omega (arith, l))
    drop_past (suc i) [] l = refl
    drop_past (suc i) (q ∷ qs) l = drop_past i qs (omega (arith, l))

-- ---- there are no more than runs
few_from : (p : Run → Bool) (i : ℕ) (rs : List Run) → length (positions_from p i rs) ≤ length rs
few_from p i [] = omega arith
few_from p i (r ∷ rs) =
    let t : length (positions_from p (suc i) rs) ≤ length rs = few_from p (suc i) rs in
    by_bool {C = length (positions_from p i (r ∷ rs)) ≤ suc (length rs)} (p r)
    (λ f. rw f (omega (arith, t)))
    (λ f. rw f (omega (arith, t)))

pub few_places : (p : Run → Bool) (rs : List Run) → length (positions_where p rs) ≤ length rs
few_places p rs = few_from p 0 rs

-- each is one of a run, so none is great
small_from : (p : Run → Bool) (i high : ℕ) (rs : List Run) → i + length rs < high → list_all (λ n. nat_lt (n + 1) high) (positions_from p i rs) ≡ true
small_from p i high [] l = refl
small_from p i high (r ∷ rs) l =
    let t : list_all (λ n. nat_lt (n + 1) high) (positions_from p (suc i) rs) ≡ true = small_from p (suc i) high rs (omega (arith, l)) in
    by_bool {C = list_all (λ n. nat_lt (n + 1) high) (positions_from p i (r ∷ rs)) ≡ true} (p r)
    (λ f. rw f (and_from (nat_lt (i + 1) high) _ (lt-ltb (i + 1) high (omega (arith, l))) t))
    (λ f. rw f t)

pub small_places : (p : Run → Bool) (high : ℕ) (rs : List Run) → length rs < high → list_all (λ n. nat_lt (n + 1) high) (positions_where p rs) ≡ true
small_places p high rs l = small_from p 0 high rs (omega (arith, l))

-- ---- what is asked where a run is put in or written over, and what it leaves
pub index_rises : (p : Run → Bool) (rs : List Run) (ns : List ℕ) (capacity : ℕ) → IsIndex p rs ns capacity → rises nat_lt ns ≡ true
index_rises p rs ns capacity h = ap (rises nat_lt) h.positions ∙ places_rise p rs

pub index_small : (p : Run → Bool) (rs : List Run) (ns : List ℕ) (capacity high : ℕ) → IsIndex p rs ns capacity → length rs < high → list_all (λ n. nat_lt (n + 1) high) ns ≡ true
index_small p rs ns capacity high h l = ap (list_all (λ n. nat_lt (n + 1) high)) h.positions ∙ small_places p high rs l

pub index_few : (p : Run → Bool) (rs : List Run) (ns : List ℕ) (capacity : ℕ) → IsIndex p rs ns capacity → length ns ≤ length rs
index_few p rs ns capacity h = let t : length ns ≡ length (positions_where p rs) = ap (λ (ks : List ℕ). length ks) h.positions in let k = few_places p rs in omega (arith, t, k)

placed_at : (p : Run → Bool) (b : Bool) (n : ℕ) (x : Run) (rs : List Run) (ns : List ℕ) (capacity : ℕ) (holds : Bool) → IsIndex p rs ns capacity → n + hidden b ≤ length rs → holds ≡ p x
    → placed b holds n ns ≡ positions_where p (put_in b n x (λ _. x) rs)
placed_at p b n x rs ns capacity holds h l is =
    ap (λ ks. placed b holds n ks) h.positions ∙ (ap (λ c. placed b c n (positions_where p rs)) is ∙ sym (placed_is p b n x rs l))

pub index_room : (p : Run → Bool) (b : Bool) (n : ℕ) (x : Run) (rs : List Run) (ns : List ℕ) (capacity : ℕ) (holds : Bool) → IsIndex p rs ns capacity → n + hidden b ≤ length rs → holds ≡ p x → length rs + added b ≤ capacity
    → length (placed b holds n ns) ≤ capacity
index_room p b n x rs ns capacity holds h l is r =
    let t : length (placed b holds n ns) ≡ length (positions_where p (put_in b n x (λ _. x) rs)) = ap (λ (ks : List ℕ). length ks) (placed_at p b n x rs ns capacity holds h l is) in
    let k = few_places p (put_in b n x (λ _. x) rs) in
    let m : length (put_in b n x (λ _. x) rs) ≡ length rs + added b = length_put b n x (λ _. x) rs (omega (arith, l)) in
    omega (arith, t, k, m, r)

pub index_put : (p : Run → Bool) (b : Bool) (n : ℕ) (x : Run) (rs qs : List Run) (ns ms : List ℕ) (capacity high : ℕ) (holds : Bool) → IsIndex p rs ns capacity → n + hidden b ≤ length rs → holds ≡ p x → length rs + added b ≤ capacity
    → ms ≡ placed b holds n ns → capacity ≤ high → qs ≡ put_in b n x (λ _. x) rs → IsIndex p qs ms high
index_put p b n x rs qs ns ms capacity high holds h l is r made c puts = record {
  positions = made ∙ (placed_at p b n x rs ns capacity holds h l is ∙ ap (positions_where p) (sym puts));
  room =
      let m : length (put_in b n x (λ _. x) rs) ≡ length rs + added b = length_put b n x (λ _. x) rs (omega (arith, l)) in
      let k : length qs ≡ length (put_in b n x (λ _. x) rs) = ap (λ (xs : List Run). length xs) puts in
      omega (arith, m, k, r, c);
}

-- writing one run is a change at its place
set_is : (rs : List Run) (n : ℕ) (r : Run) → set rs n r ≡ at (λ _. r) n rs
set_is [] zero r = refl
set_is [] (suc n) r = refl
set_is (q ∷ qs) zero r = refl
set_is (q ∷ qs) (suc n) r = ap (λ (ps : List Run). q ∷ ps) (set_is qs n r)

pub put_over : (b : Bool) (rs qs : List Run) (n : ℕ) (r : Run) → b ≡ false → qs ≡ set rs n r → qs ≡ put_in b n r (λ _. r) rs
put_over b rs qs n r e made = made ∙ (set_is rs n r ∙ ap (λ c. put_in c n r (λ _. r) rs) (sym e))

pub put_new : (b : Bool) (rs qs : List Run) (n : ℕ) (r : Run) → b ≡ true → qs ≡ insert rs n r → qs ≡ put_in b n r (λ _. r) rs
put_new b rs qs n r e made = made ∙ ap (λ c. put_in c n r (λ _. r) rs) (sym e)

-- ---- at most one more
with_few : (n : ℕ) (ns : List ℕ) → length (with_position n ns) ≤ length ns + 1
with_few n [] = omega arith
with_few n (x ∷ xs) =
    let t : length (with_position n xs) ≤ length xs + 1 = with_few n xs in
    by_bool {C = length (with_position n (x ∷ xs)) ≤ suc (length xs) + 1} (nat_lt x n)
    (λ f. rw f (omega (arith, t)))
    (λ f. by_bool {C = length (with_position n (x ∷ xs)) ≤ suc (length xs) + 1} (nat_eq x n) (λ g. rw (f, g) (omega arith)) (λ g. rw (f, g) (omega arith)))

without_few : (n : ℕ) (ns : List ℕ) → length (without_position n ns) ≤ length ns + 1
without_few n [] = omega arith
without_few n (x ∷ xs) =
    let t : length (without_position n xs) ≤ length xs + 1 = without_few n xs in
    by_bool {C = length (without_position n (x ∷ xs)) ≤ suc (length xs) + 1} (nat_lt x n)
    (λ f. rw f (omega (arith, t)))
    (λ f. by_bool {C = length (without_position n (x ∷ xs)) ≤ suc (length xs) + 1} (nat_eq x n) (λ g. rw (f, g) (omega arith)) (λ g. rw (f, g) (omega arith)))

shifted_long : (n : ℕ) (ns : List ℕ) → length (shifted_from n ns) ≡ length ns
shifted_long n [] = refl
shifted_long n (x ∷ xs) = ap suc (shifted_long n xs)

marked_few : (holds : Bool) (n : ℕ) (ns : List ℕ) → length (marked holds n ns) ≤ length ns + 1
marked_few true n ns = with_few n ns
marked_few false n ns = without_few n ns

pub placed_few : (b holds : Bool) (n : ℕ) (ns : List ℕ) → length (placed b holds n ns) ≤ length ns + 1
placed_few true holds n ns = let t = marked_few holds n (shifted_from n ns) in let k = shifted_long n ns in omega (arith, t, k)
placed_few false holds n ns = marked_few holds n ns

-- ---- those among the runs that edits make, of those that were there
-- the last edits are edits of the runs too
pub record IsPart (es : List Edit) (rs : List Run) : Type 0 where
  pub more : ℕ
  pub from : ℕ
  pub edits : RiseFrom more from es rs

part_dropped : (k s i : ℕ) (es : List Edit) (rs : List Run) → RiseFrom s i es rs → IsPart (drop k es) rs
part_dropped zero s i es rs h = record { more = s; from = i; edits = h }
part_dropped (suc k) s i [] rs h = record { more = s; from = i; edits = h }
part_dropped (suc k) s i (e ∷ es) rs h = part_dropped k (s + added e.is_new) (e.from + hidden e.is_new) es rs h.3

few_added : (k : ℕ) (es : List Edit) → added_by k es ≤ k
few_added zero es = omega arith
few_added (suc k) [] = omega arith
few_added (suc k) (e ∷ es) = let t = few_added k es in let one : added e.is_new + hidden e.is_new ≡ 1 = parts e.is_new in omega (arith, t, one)

edited_few : (es : List Edit) (rs : List Run) → IsPart es rs → length (edited es rs) ≤ length rs + length es
edited_few es rs h =
    let all : length (edited es rs) ≡ length rs + added_by (length es) es = length_all (λ r. r) (λ r _. r) h.more h.from es rs rs h.edits (omega arith) in
    let few = few_added (length es) es in
    omega (arith, all, few)

pub small_edited : (p : Run → Bool) (k high : ℕ) (es : List Edit) (rs : List Run) (ns : List ℕ) → AreEditsOf rs es → length rs + length es < high → ns ≡ positions_where p (edited (drop k es) rs) → list_all (λ n. nat_lt (n + 1) high) ns ≡ true
small_edited p k high es rs ns h l is =
    let part = part_dropped k 0 0 es rs h in
    let few = edited_few (drop k es) rs part in
    let less : length (drop k es) ≤ length es = dropped_few k es in
    ap (list_all (λ n. nat_lt (n + 1) high)) is ∙ small_places p high (edited (drop k es) rs) (omega (arith, few, less, l))
  where
    dropped_few : (k : ℕ) (es : List Edit) → length (drop k es) ≤ length es
    dropped_few zero es = omega arith
    dropped_few (suc k) [] = omega arith
    dropped_few (suc k) (e ∷ es) = let t = dropped_few k es in omega (arith, t)

-- one edit more
pub place_step : (p : Run → Bool) (j k : ℕ) (es : List Edit) (rs : List Run) (e : Edit) (ns ms : List ℕ) → AreEditsOf rs es → k ≡ suc j → j < length es → e ≡ get_or es j e → ns ≡ positions_where p (edited (drop k es) rs)
    → ms ≡ placed e.is_new (p e.run) e.from ns → ms ≡ positions_where p (edited (drop j es) rs)
place_step p j k es rs e ns ms h one low got is made =
    let whole : drop j es ≡ e ∷ drop (suc j) es = drop-cons es j e low ∙ ap (λ (d : Edit). d ∷ drop (suc j) es) (sym got) in
    let part : IsPart (e ∷ drop (suc j) es) rs = subst (λ (xs : List Edit). IsPart xs rs) whole (part_dropped j 0 0 es rs h) in
    let rise = part.edits in
    let within : e.from + hidden e.is_new ≤ length (edited (drop (suc j) es) rs) = within_puts (λ r. r) (λ r _. r) e.is_new e.from e.run (part.more + added e.is_new) (e.from + hidden e.is_new) (drop (suc j) es) rs rs rise.2 rise.3 (omega arith) in
    made ∙ (ap (placed e.is_new (p e.run) e.from) (is ∙ ap (λ n. positions_where p (edited (drop n es) rs)) one)
    ∙ (sym (placed_is p e.is_new e.from e.run (edited (drop (suc j) es) rs) within) ∙ ap (λ (xs : List Edit). positions_where p (edited xs rs)) (sym whole)))

-- none is left
pub place_none : (p : Run → Bool) (k : ℕ) (es : List Edit) (rs : List Run) (ns : List ℕ) → k ≡ length es → ns ≡ positions_where p rs → ns ≡ positions_where p (edited (drop k es) rs)
place_none p k es rs ns is h = h ∙ ap (λ (xs : List Edit). positions_where p (edited xs rs)) (sym (dropped_past k es (omega (arith, is))))
  where
    dropped_past : (k : ℕ) (xs : List Edit) → length xs ≤ k → drop k xs ≡ []
    dropped_past zero [] l = refl
    dropped_past zero (x ∷ xs) l = absurd (omega (arith, l))
    dropped_past (suc k) [] l = refl
    dropped_past (suc k) (x ∷ xs) l = dropped_past k xs (omega (arith, l))
