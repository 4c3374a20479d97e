-- A report is a change of the one instance that has the try with its serial.
use Rattle.std.proofs.Common.{◌≡◌, ◌∙◌, refl, sym, ap, subst, ℕ, zero, suc, ◌+◌, ◌<◌, List, [], ◌∷◌, ◌++◌, Bool, true, false, cond, ◌&&◌, ◌==◌, find, flat_map, length, Option, Some, None, option_map, unwrap_or, slice_get, arith}
use Rattle.std.proofs.lemmas.Bool.{eqb-true}
use Rattle.std.proofs.lemmas.Option.{slice_get-map, slice_get_within}
use Rattle.instance_machine.specs.Instances.{InstanceValue, map_tries}
use Rattle.instance_machine.specs.Reports.{reported_try, report_try}
use Rattle.instance_machine.specs.declared.tries.Stage.{Stage}
use Rattle.instance_machine.specs.declared.tries.Try.{Try}
use Rattle.sched_state.specs.declared.runs.Run.{Run}
use Rattle.sched_state.proofs.NameLemmas.{find_passes}
use Rattle.sched_state.proofs.OrderLemmas.{and_right}
use Rattle.sched_model.specs.Causes.{tries_of}
use Rattle.sched_model.specs.Changes.{report}
use Rattle.sched_model.specs.Handout.{in_instance}
use Rattle.sched_model.specs.Lists.{at}
use Rattle.sched_model.specs.Schedule.{Schedule}
use Rattle.sched_model.specs.Sound.{IsSound, serials_of}
use Rattle.sched_model.specs.States.{is_open}
use Rattle.sched_laws.proofs.KeyLemmas.{serials_differ}
use Rattle.sched_draft.specs.Places.{AreAllAt}
use Rattle.sched_draft.proofs.PlaceLemmas.{changed_at}
use Rattle.sched_core.specs.Finding.{IsFoundAt}
use Rattle.sched_core.specs.declared.finding.Found.{Found}

-- ---- where the elements of a list of lists stand
abbrev offset : {X Y : Type 0} → (X → List Y) → ℕ → List X → ℕ
offset f zero xs = 0
offset f (suc m) [] = 0
offset f (suc m) (x ∷ xs) = length (f x) + offset f m xs

past : {X : Type 0} (xs ys : List X) (k : ℕ) → slice_get (xs ++ ys) (length xs + k) ≡ slice_get ys k
past [] ys k = let e : 0 + k ≡ k = omega arith in ap (slice_get ys) e
past (x ∷ xs) ys k = let e : suc (length xs) + k ≡ suc (length xs + k) = omega arith in ap (slice_get (x ∷ (xs ++ ys))) e ∙ past xs ys k

first : {X : Type 0} (xs ys : List X) (k : ℕ) (y : X) → slice_get xs k ≡ Some y → slice_get (xs ++ ys) k ≡ Some y
first {X} [] ys k y e = absurd (let c : ◌≡◌ {A = Option X} None (Some y) = e in cc)
first (x ∷ xs) ys zero y e = e
first (x ∷ xs) ys (suc k) y e = first xs ys k y e

flat_at : {X Y : Type 0} (f : X → List Y) (xs : List X) (m k : ℕ) (x : X) (y : Y) → slice_get xs m ≡ Some x → slice_get (f x) k ≡ Some y → slice_get (flat_map f xs) (offset f m xs + k) ≡ Some y
flat_at {X} f [] m k x y e g = absurd (let c : ◌≡◌ {A = Option X} None (Some x) = e in cc)
flat_at {X} f (z ∷ xs) zero k x y e g =
    let c : ◌≡◌ {A = Option X} (Some z) (Some x) = e in let i : x ≡ z = cc in let p : 0 + k ≡ k = omega arith in
    ap (slice_get (f z ++ flat_map f xs)) p ∙ first (f z) (flat_map f xs) k y (ap (λ w. slice_get (f w) k) (sym i) ∙ g)
flat_at f (z ∷ xs) (suc m) k x y e g =
    let p : (length (f z) + offset f m xs) + k ≡ length (f z) + (offset f m xs + k) = omega arith in
    ap (slice_get (f z ++ flat_map f xs)) p ∙ (past (f z) (flat_map f xs) (offset f m xs + k) ∙ flat_at f xs m k x y e g)

-- two that stand at one place of the whole stand at one place of one list
flat_same : {X Y : Type 0} (f : X → List Y) (xs : List X) (m n k j : ℕ) (x z : X) (y w : Y) → slice_get xs m ≡ Some x → slice_get xs n ≡ Some z → slice_get (f x) k ≡ Some y → slice_get (f z) j ≡ Some w
    → offset f m xs + k ≡ offset f n xs + j → (m ≡ n) × (k ≡ j)
flat_same {X} f [] m n k j x z y w e g a b q = absurd (let c : ◌≡◌ {A = Option X} None (Some x) = e in cc)
flat_same f (v ∷ xs) zero zero k j x z y w e g a b q = let r : 0 + k ≡ 0 + j = q in (refl, omega (arith, r))
flat_same {X} f (v ∷ xs) zero (suc n) k j x z y w e g a b q =
    let c : ◌≡◌ {A = Option X} (Some v) (Some x) = e in let i : x ≡ v = cc in
    let l : k < length (f x) = slice_get_within (f x) k y a in
    absurd (let s : k < length (f v) = subst (λ u. k < length (f u)) i l in omega arith)
flat_same {X} f (v ∷ xs) (suc m) zero k j x z y w e g a b q =
    let c : ◌≡◌ {A = Option X} (Some v) (Some z) = g in let i : z ≡ v = cc in
    let l : j < length (f z) = slice_get_within (f z) j w b in
    absurd (let s : j < length (f v) = subst (λ u. j < length (f u)) i l in omega arith)
flat_same f (v ∷ xs) (suc m) (suc n) k j x z y w e g a b q =
    let r : offset f m xs + k ≡ offset f n xs + j = omega arith in
    let h = flat_same f xs m n k j x z y w e g a b r in
    (ap suc h.0, h.1)

-- ---- tries by their places
tries_in : Run → List Try
tries_in r = flat_map (λ (i : InstanceValue). i.tries) r.instances

abbrev place : Schedule → ℕ → ℕ → ℕ → Run → ℕ
place a m q k r = offset tries_in m a.runs + (offset (λ (i : InstanceValue). i.tries) q r.instances + k)

try_at : (a : Schedule) (m q k : ℕ) (r : Run) (i : InstanceValue) (t : Try) → slice_get a.runs m ≡ Some r → slice_get r.instances q ≡ Some i → slice_get i.tries k ≡ Some t
    → slice_get (serials_of a) (place a m q k r) ≡ Some t.serial
unfolding tries_in
try_at a m q k r i t e f g =
    let inner : slice_get (tries_in r) (offset (λ (i : InstanceValue). i.tries) q r.instances + k) ≡ Some t = flat_at (λ (i : InstanceValue). i.tries) r.instances q k i t f g in
    let outer : slice_get (tries_of a) (place a m q k r) ≡ Some t = flat_at tries_in a.runs m (offset (λ (i : InstanceValue). i.tries) q r.instances + k) r t e inner in
    slice_get-map (λ (u : Try). u.serial) (tries_of a) (place a m q k r) ∙ ap (option_map (λ (u : Try). u.serial)) outer

-- a try with the serial of another is that one
pub one_place : (a : Schedule) (m q k n p j : ℕ) (r x : Run) (i y : InstanceValue) (t u : Try) → IsSound a
    → slice_get a.runs m ≡ Some r → slice_get r.instances q ≡ Some i → slice_get i.tries k ≡ Some t
    → slice_get a.runs n ≡ Some x → slice_get x.instances p ≡ Some y → slice_get y.tries j ≡ Some u → t.serial ≡ u.serial → ((m ≡ n) × (q ≡ p)) × (k ≡ j)
unfolding tries_in
one_place a m q k n p j r x i y t u sound e f g h v w s =
    let one = try_at a m q k r i t e f g in
    let two = try_at a n p j x y u h v w in
    let same : place a m q k r ≡ place a n p j x = serials_differ a (place a m q k r) (place a n p j x) u.serial sound (one ∙ ap (λ z. Some z) s) two in
    let outer = flat_same tries_in a.runs m n (offset (λ (i : InstanceValue). i.tries) q r.instances + k) (offset (λ (i : InstanceValue). i.tries) p x.instances + j) r x t u e h
    (flat_at (λ (i : InstanceValue). i.tries) r.instances q k i t f g) (flat_at (λ (i : InstanceValue). i.tries) x.instances p j y u v w) same in
    let there : ◌≡◌ {A = Option Run} (Some r) (Some x) = sym e ∙ (ap (slice_get a.runs) outer.0 ∙ h) in
    let is : x ≡ r = cc in
    let inner = flat_same (λ (i : InstanceValue). i.tries) r.instances q p k j i y t u f (ap (λ (o : Run). slice_get o.instances p) (sym is) ∙ v) g w
    (outer.1 ∙ ap (λ (o : Run). offset (λ (i : InstanceValue). i.tries) p o.instances + j) is) in
    ((outer.0, inner.0), inner.1)

-- ---- the report
pub other_serial : (serial : ℕ) (stage : Stage) (now : ℕ) (t : Try) → (t.serial ≡ serial → ⊥) → reported_try serial stage now t ≡ t
other_serial serial stage now t h = elim (t.serial == serial) as (λ b. (t.serial == serial) ≡ b → cond b (unwrap_or (report_try stage now t) t) t ≡ t) [
  | true ↦ λ e. absurd (h (eqb-true t.serial serial e))
  | false ↦ λ e. refl
] refl

pub found_in : {X : Type 0} (p : X → Bool) (xs : List X) (x : X) → find p xs ≡ Some x → (k : ℕ) × (slice_get xs k ≡ Some x)
found_in {X} p [] x e = absurd (let c : ◌≡◌ {A = Option X} None (Some x) = e in cc)
found_in {X} p (y ∷ xs) x e = elim (p y) as (λ b. cond b (Some y) (find p xs) ≡ Some x → (k : ℕ) × (slice_get (y ∷ xs) k ≡ Some x)) [
  | true ↦ λ f. (0, f)
  | false ↦ λ f. let t = found_in p xs x f in (suc t.0, t.1)
] e

pub all_at : (serial : ℕ) (stage : Stage) (a : Schedule) (f : Found) → IsSound a → IsFoundAt serial a.runs f → AreAllAt (reported_try serial stage a.now) f.position f.place a
all_at serial stage a f sound found = λ m q k r i t e g h apart.
    let own : Bool = is_open f.one && f.one.serial == serial in
    let tries = found_in (λ (t : Try). is_open t && t.serial == serial) found.instance.instance.tries f.one found.instance.first in
    let passes : (is_open f.one && f.one.serial == serial) ≡ true = find_passes (λ (t : Try). is_open t && t.serial == serial) found.instance.instance.tries f.one found.instance.first in
    let is : f.one.serial ≡ serial = eqb-true f.one.serial serial (and_right (is_open f.one) (f.one.serial == serial) passes) in
    other_serial serial stage a.now t (λ s. apart (one_place a m q k f.position f.place tries.0 r found.run i found.instance.instance t f.one sound e g h found.there found.instance.there tries.1 (s ∙ sym is)).0)

pub report_at : (serial : ℕ) (stage : Stage) (a b : Schedule) (f : Found) → IsSound a → IsFoundAt serial a.runs f
    → b ≡ record a { runs = at (in_instance (map_tries (reported_try serial stage a.now)) f.place) f.position a.runs } → b ≡ report serial stage a
report_at serial stage a b f sound found is = is ∙ sym (changed_at (reported_try serial stage a.now) f.position f.place a (all_at serial stage a f sound found))

-- where it is found there is a run, and an instance
pub found_run : (serial : ℕ) (rs : List Run) (f : Found) → IsFoundAt serial rs f → f.position < length rs
found_run serial rs f found = slice_get_within rs f.position found.run found.there

pub found_instance : (serial : ℕ) (a d : Schedule) (f : Found) → d ≡ a → IsFoundAt serial a.runs f → f.place < unwrap_or (option_map (λ (r : Run). length r.instances) (slice_get d.runs f.position)) 0
found_instance serial a d f is found =
    let l : f.place < length found.run.instances = slice_get_within found.run.instances f.place found.instance.instance found.instance.there in
    let e : unwrap_or (option_map (λ (r : Run). length r.instances) (slice_get d.runs f.position)) 0 ≡ length found.run.instances =
    ap (λ (s : Schedule). unwrap_or (option_map (λ (r : Run). length r.instances) (slice_get s.runs f.position)) 0) is ∙ ap (λ (o : Option Run). unwrap_or (option_map (λ (r : Run). length r.instances) o) 0) found.there in
    subst (λ n. f.place < n) (sym e) l
