-- Instances of one run set one after another, and one run changed at its position.
use Rattle.std.proofs.Common.{◌≡◌, ◌∙◌, refl, sym, ap, ℕ, zero, suc, ◌+◌, ◌≤◌, List, [], ◌∷◌, Bool, true, false, cond, length, take, min, Option, Some, None, option_map, unwrap_or, slice_get, get_or, arith}
use Rattle.std.specs.List.{zip}
use Rattle.std.proofs.lemmas.Option.{get_or_from_slice_get}
use Rattle.graph_file.specs.declared.task_specs.TaskSpec.{TaskSpec}
use Rattle.trigger_rules.specs.declared.verdicts.Verdict.{Verdict}
use Rattle.instance_machine.specs.Instances.{InstanceValue}
use Rattle.sched_state.specs.declared.runs.Run.{Run}
use Rattle.sched_model.specs.Clearing.{set_pair, set_to}
use Rattle.sched_model.specs.Handout.{in_instance}
use Rattle.sched_model.specs.Lists.{at, map_places}
use Rattle.sched_model.specs.Schedule.{Schedule}
use Rattle.sched_laws.proofs.SweepLemmas.{length_at}
use Rattle.sched_clearing.specs.Setting.{set_from, run_set}

-- ---- one element
pub at_get : {X : Type 0} (f : X → X) (xs : List X) (n : ℕ) (x : X) → slice_get xs n ≡ Some x → slice_get (at f n xs) n ≡ Some (f x)
at_get {X} f [] n x e = absurd (let c : ◌≡◌ {A = Option X} None (Some x) = e in cc)
at_get {X} f (y ∷ xs) zero x e = let c : ◌≡◌ {A = Option X} (Some y) (Some x) = e in let i : y ≡ x = cc in ap (λ z. Some (f z)) i
at_get f (y ∷ xs) (suc n) x e = at_get f xs n x e

pub at_at : {X : Type 0} (f g : X → X) (n : ℕ) (xs : List X) → at g n (at f n xs) ≡ at (λ x. g (f x)) n xs
at_at f g n [] = refl
at_at f g zero (x ∷ xs) = refl
at_at f g (suc n) (x ∷ xs) = ap (λ ys. x ∷ ys) (at_at f g n xs)

pub at_same : {X : Type 0} (f g : X → X) (xs : List X) (n : ℕ) (x : X) → slice_get xs n ≡ Some x → f x ≡ g x → at f n xs ≡ at g n xs
at_same f g [] n x e h = refl
at_same {X} f g (y ∷ xs) zero x e h =
    let c : ◌≡◌ {A = Option X} (Some y) (Some x) = e in let i : y ≡ x = cc in
    ap (λ z. f z ∷ xs) i ∙ (ap (λ z. z ∷ xs) h ∙ ap (λ z. g z ∷ xs) (sym i))
at_same f g (y ∷ xs) (suc n) x e h = ap (λ ys. y ∷ ys) (at_same f g xs n x e h)

pub at_none : {X : Type 0} (f : X → X) (n : ℕ) (xs : List X) → ((x : X) → f x ≡ x) → at f n xs ≡ xs
at_none f n [] h = refl
at_none f zero (x ∷ xs) h = ap (λ z. z ∷ xs) (h x)
at_none f (suc n) (x ∷ xs) h = ap (λ ys. x ∷ ys) (at_none f n xs h)

-- ---- one instance more
abbrev Test : Type 0
Test = ℕ → TaskSpec × InstanceValue → Bool

pub back_none : (v : Option Verdict) (f : Test) (r : Run) (ts : List TaskSpec) → run_set v f (take 0 ts) r ≡ r
back_none v f r [] = refl
back_none v f r (t ∷ ts) = refl

pub back_long : (v : Option Verdict) (f : Test) (i : ℕ) (ts : List TaskSpec) (hs : List InstanceValue) → length (set_from v f i ts hs) ≡ length hs
back_long v f i [] hs = refl
back_long v f i (t ∷ ts) [] = refl
back_long v f i (t ∷ ts) (h ∷ hs) = ap suc (back_long v f (i + 1) ts hs)

-- the next instance is still the old one
pub back_next : (v : Option Verdict) (f : Test) (i n : ℕ) (ts : List TaskSpec) (hs : List InstanceValue) → slice_get (set_from v f i (take n ts) hs) n ≡ slice_get hs n
back_next v f i zero [] hs = refl
back_next v f i (suc n) [] hs = refl
back_next v f i zero (t ∷ ts) hs = refl
back_next v f i (suc n) (t ∷ ts) [] = refl
back_next v f i (suc n) (t ∷ ts) (h ∷ hs) = back_next v f (i + 1) n ts hs

named_there : (f : Test) (i n : ℕ) (e : TaskSpec × InstanceValue) (b : Bool) → f (i + suc n) e ≡ b → f ((i + 1) + n) e ≡ b
named_there f i n e b q = let k : (i + 1) + n ≡ i + suc n = omega arith in ap (λ m. f m e) k ∙ q

named_first : (f : Test) (i : ℕ) (e : TaskSpec × InstanceValue) (b : Bool) → f (i + 0) e ≡ b → f i e ≡ b
named_first f i e b q = let k : i ≡ i + 0 = omega arith in ap (λ m. f m e) k ∙ q

back_suc : (v : Option Verdict) (f : Test) (i n : ℕ) (ts : List TaskSpec) (hs : List InstanceValue) (t : TaskSpec) (h : InstanceValue) → slice_get ts n ≡ Some t → slice_get hs n ≡ Some h → f (i + n) (t, h) ≡ true
    → at (set_to v) n (set_from v f i (take n ts) hs) ≡ set_from v f i (take (suc n) ts) hs
back_suc v f i n [] hs t h e g q = absurd (let c : ◌≡◌ {A = Option TaskSpec} None (Some t) = e in cc)
back_suc v f i n (u ∷ ts) [] t h e g q = absurd (let c : ◌≡◌ {A = Option InstanceValue} None (Some h) = g in cc)
back_suc v f i zero (u ∷ ts) (k ∷ hs) t h e g q =
    let c : ◌≡◌ {A = Option TaskSpec} (Some u) (Some t) = e in let d : ◌≡◌ {A = Option InstanceValue} (Some k) (Some h) = g in
    let x : t ≡ u = cc in let y : h ≡ k = cc in
    let z : f i (u, k) ≡ true = ap (λ v. f i (v, k)) (sym x) ∙ (ap (λ v. f i (t, v)) (sym y) ∙ named_first f i (t, h) true q) in
    ap (λ b. cond b (set_to v k) k ∷ hs) (sym z)
back_suc v f i (suc n) (u ∷ ts) (k ∷ hs) t h e g q = ap (λ js. set_pair v f i (u, k) ∷ js) (back_suc v f (i + 1) n ts hs t h e g (named_there f i n (t, h) true q))

back_stays : (v : Option Verdict) (f : Test) (i n : ℕ) (ts : List TaskSpec) (hs : List InstanceValue) (t : TaskSpec) (h : InstanceValue) → slice_get ts n ≡ Some t → slice_get hs n ≡ Some h → f (i + n) (t, h) ≡ false
    → set_from v f i (take n ts) hs ≡ set_from v f i (take (suc n) ts) hs
back_stays v f i n [] hs t h e g q = absurd (let c : ◌≡◌ {A = Option TaskSpec} None (Some t) = e in cc)
back_stays v f i n (u ∷ ts) [] t h e g q = absurd (let c : ◌≡◌ {A = Option InstanceValue} None (Some h) = g in cc)
back_stays v f i zero (u ∷ ts) (k ∷ hs) t h e g q =
    let c : ◌≡◌ {A = Option TaskSpec} (Some u) (Some t) = e in let d : ◌≡◌ {A = Option InstanceValue} (Some k) (Some h) = g in
    let x : t ≡ u = cc in let y : h ≡ k = cc in
    let z : f i (u, k) ≡ false = ap (λ v. f i (v, k)) (sym x) ∙ (ap (λ v. f i (t, v)) (sym y) ∙ named_first f i (t, h) false q) in
    ap (λ b. cond b (set_to v k) k ∷ hs) (sym z)
back_stays v f i (suc n) (u ∷ ts) (k ∷ hs) t h e g q = ap (λ js. set_pair v f i (u, k) ∷ js) (back_stays v f (i + 1) n ts hs t h e g (named_there f i n (t, h) false q))

back_over : (v : Option Verdict) (f : Test) (i n : ℕ) (ts : List TaskSpec) (hs : List InstanceValue) → min (length ts) (length hs) ≤ n → set_from v f i (take n ts) hs ≡ set_from v f i ts hs
back_over v f i zero [] hs b = refl
back_over v f i (suc n) [] hs b = refl
back_over v f i zero (t ∷ ts) [] b = refl
back_over v f i (suc n) (t ∷ ts) [] b = refl
back_over v f i zero (t ∷ ts) (h ∷ hs) b = absurd (omega arith)
back_over v f i (suc n) (t ∷ ts) (h ∷ hs) b = ap (λ js. set_pair v f i (t, h) ∷ js) (back_over v f (i + 1) n ts hs (omega arith))

-- where there is a task for each instance, all are as the definition says
pub back_pairs : (v : Option Verdict) (f : Test) (i : ℕ) (ts : List TaskSpec) (hs : List InstanceValue) → length hs ≤ length ts → set_from v f i ts hs ≡ map_places (set_pair v f) i (zip ts hs)
back_pairs v f i [] [] b = refl
back_pairs v f i [] (h ∷ hs) b = absurd (omega arith)
back_pairs v f i (t ∷ ts) [] b = refl
back_pairs v f i (t ∷ ts) (h ∷ hs) b = ap (λ js. set_pair v f i (t, h) ∷ js) (back_pairs v f (i + 1) ts hs (omega arith))

-- ---- one turn: the schedule with the instances before the place n of the run at the position set back
abbrev pub back_to : Option Verdict → Test → List TaskSpec → ℕ → ℕ → Schedule → Schedule
back_to v f ts m n a = record a { runs = at (run_set v f (take n ts)) m a.runs }

from_zero : (f : Test) (n : ℕ) (e : TaskSpec × InstanceValue) (b : Bool) → f n e ≡ b → f (0 + n) e ≡ b
from_zero f n e b q = let k : 0 + n ≡ n = omega arith in ap (λ m. f m e) k ∙ q

pub back_begins : (v : Option Verdict) (f : Test) (ts : List TaskSpec) (m : ℕ) (a : Schedule) → a ≡ back_to v f ts m 0 a
back_begins v f ts m a = ap (λ rs. record a { runs = rs }) (sym (at_none (run_set v f (take 0 ts)) m a.runs (λ r. back_none v f r ts)))

pub back_turn : (v : Option Verdict) (f : Test) (ts : List TaskSpec) (m n : ℕ) (a d b : Schedule) (r : Run) (t : TaskSpec) (h : InstanceValue) → slice_get a.runs m ≡ Some r → slice_get ts n ≡ Some t → slice_get r.instances n ≡ Some h
    → f n (t, h) ≡ true → d ≡ back_to v f ts m n a → b ≡ record d { runs = at (in_instance (set_to v) n) m d.runs } → b ≡ back_to v f ts m (n + 1) a
back_turn v f ts m n a d b r t h there task item named is set_is =
    let s : suc n ≡ n + 1 = omega arith in
    let one : at (set_to v) n (set_from v f 0 (take n ts) r.instances) ≡ set_from v f 0 (take (n + 1) ts) r.instances =
    back_suc v f 0 n ts r.instances t h task item (from_zero f n (t, h) true named) ∙ ap (λ k. set_from v f 0 (take k ts) r.instances) s in
    set_is ∙ (ap (λ (x : Schedule). record x { runs = at (in_instance (set_to v) n) m x.runs }) is
    ∙ ap (λ rs. record a { runs = rs }) (at_at (run_set v f (take n ts)) (in_instance (set_to v) n) m a.runs
    ∙ at_same (λ q. in_instance (set_to v) n (run_set v f (take n ts) q)) (run_set v f (take (n + 1) ts)) a.runs m r there (ap (λ is. record r { instances = is }) one)))

pub back_pass : (v : Option Verdict) (f : Test) (ts : List TaskSpec) (m n : ℕ) (a d : Schedule) (r : Run) (t : TaskSpec) (h : InstanceValue) → slice_get a.runs m ≡ Some r → slice_get ts n ≡ Some t → slice_get r.instances n ≡ Some h
    → f n (t, h) ≡ false → d ≡ back_to v f ts m n a → d ≡ back_to v f ts m (n + 1) a
back_pass v f ts m n a d r t h there task item named is =
    let s : suc n ≡ n + 1 = omega arith in
    let one : set_from v f 0 (take n ts) r.instances ≡ set_from v f 0 (take (n + 1) ts) r.instances =
    back_stays v f 0 n ts r.instances t h task item (from_zero f n (t, h) false named) ∙ ap (λ k. set_from v f 0 (take k ts) r.instances) s in
    is ∙ ap (λ rs. record a { runs = rs }) (at_same (run_set v f (take n ts)) (run_set v f (take (n + 1) ts)) a.runs m r there (ap (λ is. record r { instances = is }) one))

pub back_all : (v : Option Verdict) (f : Test) (ts : List TaskSpec) (m n : ℕ) (a : Schedule) (r : Run) → slice_get a.runs m ≡ Some r → min (length ts) (length r.instances) ≤ n
    → back_to v f ts m n a ≡ record a { runs = at (run_set v f ts) m a.runs }
back_all v f ts m n a r there over =
    ap (λ rs. record a { runs = rs }) (at_same (run_set v f (take n ts)) (run_set v f ts) a.runs m r there (ap (λ is. record r { instances = is }) (back_over v f 0 n ts r.instances over)))

-- ---- what is read between two turns
pub back_runs : (v : Option Verdict) (f : Test) (ts : List TaskSpec) (m n : ℕ) (a d : Schedule) → d ≡ back_to v f ts m n a → length d.runs ≡ length a.runs
back_runs v f ts m n a d is = ap (λ (x : Schedule). length x.runs) is ∙ length_at (run_set v f (take n ts)) m a.runs

pub back_run : (v : Option Verdict) (f : Test) (ts : List TaskSpec) (m n : ℕ) (a d : Schedule) (r : Run) → slice_get a.runs m ≡ Some r → d ≡ back_to v f ts m n a → slice_get d.runs m ≡ Some (run_set v f (take n ts) r)
back_run v f ts m n a d r there is = ap (λ (x : Schedule). slice_get x.runs m) is ∙ at_get (run_set v f (take n ts)) a.runs m r there

-- the run that was read in the loop has the old instance at the next place
pub back_same : (v : Option Verdict) (f : Test) (ts : List TaskSpec) (m n : ℕ) (a d : Schedule) (r q : Run) → slice_get a.runs m ≡ Some r → d ≡ back_to v f ts m n a → q ≡ get_or d.runs m q → q.instances ≡ set_from v f 0 (take n ts) r.instances
back_same v f ts m n a d r q there is read =
    ap (λ (x : Run). x.instances) (read ∙ get_or_from_slice_get d.runs m (run_set v f (take n ts) r) q (back_run v f ts m n a d r there is))

pub back_item : (v : Option Verdict) (f : Test) (ts : List TaskSpec) (m n : ℕ) (a d : Schedule) (r q : Run) → slice_get a.runs m ≡ Some r → d ≡ back_to v f ts m n a → q ≡ get_or d.runs m q
    → slice_get q.instances n ≡ slice_get r.instances n
back_item v f ts m n a d r q there is read = ap (λ (hs : List InstanceValue). slice_get hs n) (back_same v f ts m n a d r q there is read) ∙ back_next v f 0 n ts r.instances

pub back_items : (v : Option Verdict) (f : Test) (ts : List TaskSpec) (m n : ℕ) (a d : Schedule) (r q : Run) → slice_get a.runs m ≡ Some r → d ≡ back_to v f ts m n a → q ≡ get_or d.runs m q
    → length q.instances ≡ length r.instances
back_items v f ts m n a d r q there is read = ap length (back_same v f ts m n a d r q there is read) ∙ back_long v f 0 (take n ts) r.instances

pub back_count : (v : Option Verdict) (f : Test) (ts : List TaskSpec) (m n : ℕ) (a d : Schedule) (r : Run) → slice_get a.runs m ≡ Some r → d ≡ back_to v f ts m n a
    → unwrap_or (option_map (λ (q : Run). length q.instances) (slice_get d.runs m)) 0 ≡ length r.instances
back_count v f ts m n a d r there is =
    ap (λ (o : Option Run). unwrap_or (option_map (λ (q : Run). length q.instances) o) 0) (back_run v f ts m n a d r there is) ∙ back_long v f 0 (take n ts) r.instances
