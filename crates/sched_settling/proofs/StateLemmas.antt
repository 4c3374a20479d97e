-- States side by side.
use Rattle.std.proofs.Common.{◌≡◌, ◌∙◌, refl, sym, ap, ℕ, zero, suc, ◌<◌, ◌≤◌, List, [], ◌∷◌, false, length, get_or, slice_get, Option, Some, None, unwrap_or, nat_lt, arith}
use Rattle.sched_state.specs.declared.runs.Run.{Run}
use Rattle.sched_model.specs.Lists.{zip_with}
use Rattle.std.proofs.lemmas.Bool.Decides.{nat_tests}
use Rattle.graph_file.specs.declared.task_specs.TaskSpec.{TaskSpec}
use Rattle.dag_check.specs.Graphs.{Dag, task_of, no_task}
use Rattle.trigger_rules.specs.declared.states.State.TheVariants as state
use Rattle.instance_machine.specs.Instances.{InstanceValue}
use Rattle.instance_machine.specs.States.{state_of}
use Rattle.sched_settling.specs.States.{state_in}

pub zip_get : {X Y Z : Type 0} (f : X → Y → Z) (xs : List X) (ys : List Y) (p : ℕ) (x : X) (y : Y) → slice_get xs p ≡ Some x → slice_get ys p ≡ Some y
    → slice_get (zip_with f xs ys) p ≡ Some (f x y)
zip_get {X} f [] ys p x y e g = absurd (let c : ◌≡◌ {A = Option X} None (Some x) = e in cc)
zip_get {X} {Y} f (a ∷ xs) [] p x y e g = absurd (let c : ◌≡◌ {A = Option Y} None (Some y) = g in cc)
zip_get {X} {Y} f (a ∷ xs) (b ∷ ys) zero x y e g =
    let c : ◌≡◌ {A = Option X} (Some a) (Some x) = e in
    let d : ◌≡◌ {A = Option Y} (Some b) (Some y) = g in
    let i : a ≡ x = cc in
    let j : b ≡ y = cc in
    ap (λ z. Some (f z b)) i ∙ ap (λ z. Some (f x z)) j
zip_get f (a ∷ xs) (b ∷ ys) (suc p) x y e g = zip_get f xs ys p x y e g

pub zip_left : {X Y Z : Type 0} (f : X → Y → Z) (xs : List X) (ys : List Y) (p : ℕ) → length xs ≤ p → slice_get (zip_with f xs ys) p ≡ None
zip_left f [] ys p l = refl
zip_left f (a ∷ xs) [] p l = refl
zip_left f (a ∷ xs) (b ∷ ys) zero l = absurd (omega arith)
zip_left f (a ∷ xs) (b ∷ ys) (suc p) l = zip_left f xs ys p (omega arith)

pub zip_right : {X Y Z : Type 0} (f : X → Y → Z) (xs : List X) (ys : List Y) (p : ℕ) → length ys ≤ p → slice_get (zip_with f xs ys) p ≡ None
zip_right f [] ys p l = refl
zip_right f (a ∷ xs) [] p l = refl
zip_right f (a ∷ xs) (b ∷ ys) zero l = absurd (omega arith)
zip_right f (a ∷ xs) (b ∷ ys) (suc p) l = zip_right f xs ys p (omega arith)

pub zip_inside : {X Y Z : Type 0} (f : X → Y → Z) (xs : List X) (ys : List Y) (p : ℕ) → p < length xs → p < length ys → p < length (zip_with f xs ys)
zip_inside f [] ys p l k = absurd (omega arith)
zip_inside f (a ∷ xs) [] p l k = absurd (omega arith)
zip_inside f (a ∷ xs) (b ∷ ys) zero l k = omega arith
zip_inside f (a ∷ xs) (b ∷ ys) (suc p) l k = let h = zip_inside f xs ys p (omega arith) (omega arith) in omega arith

pub zip_short : {X Y Z : Type 0} (f : X → Y → Z) (xs : List X) (ys : List Y) → length (zip_with f xs ys) ≤ length xs
zip_short f [] ys = omega arith
zip_short f (a ∷ xs) [] = omega arith
zip_short f (a ∷ xs) (b ∷ ys) = let h = zip_short f xs ys in omega arith

pub zip_shorter : {X Y Z : Type 0} (f : X → Y → Z) (xs : List X) (ys : List Y) → length (zip_with f xs ys) ≤ length ys
zip_shorter f [] ys = omega arith
zip_shorter f (a ∷ xs) [] = omega arith
zip_shorter f (a ∷ xs) (b ∷ ys) = let h = zip_shorter f xs ys in omega arith

-- what is read at a place stands there
pub read_at : {X : Type 0} (xs : List X) (i : ℕ) (x d : X) → i < length xs → x ≡ get_or xs i d → slice_get xs i ≡ Some x
read_at [] i x d inside e = absurd (omega arith)
read_at (y ∷ xs) zero x d inside e = ap (λ z. Some z) (sym e)
read_at (y ∷ xs) (suc i) x d inside e = read_at xs i x d (omega arith) e

pub past_end : (p n : ℕ) → false ≡ nat_lt p n → n ≤ p
past_end p n e = grind (arith, nat_tests, e)

-- the state at a place, by what stands there
pub state_there : (g : Dag) (r : Run) (p : ℕ) (t : TaskSpec) (i : InstanceValue) → p < length g.tasks → t ≡ task_of g p → slice_get r.instances p ≡ Some i → state_of t i ≡ state_in g r p
state_there g r p t i inside task there =
    ap (λ o. unwrap_or o state.None) (sym (zip_get state_of g.tasks r.instances p t i (read_at g.tasks p t no_task inside task) there))

pub state_past : (g : Dag) (r : Run) (p : ℕ) → length g.tasks ≤ p → state.None ≡ state_in g r p
state_past g r p over = ap (λ o. unwrap_or o state.None) (sym (zip_left state_of g.tasks r.instances p over))

pub state_without : (g : Dag) (r : Run) (p : ℕ) → length r.instances ≤ p → state.None ≡ state_in g r p
state_without g r p over = ap (λ o. unwrap_or o state.None) (sym (zip_right state_of g.tasks r.instances p over))
