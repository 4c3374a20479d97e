-- Kinds that stand in a list once.
use Rattle.std.proofs.Common.{arith, suc, zero, All, ◌≡◌, ℕ, ◌+◌, ◌<◌, true, List, [], ◌∷◌, ◌++◌, length, map, take, get_or, refl, ap, ◌∙◌, if◌then◌else◌}
use Rattle.std.proofs.lemmas.List.{length-append, map-append, take_more}
use Rattle.graph_file.specs.declared.operators.Operator.{Operator as Kind}
use Rattle.graph_file.specs.declared.operators.Operator.TheVariants as kinds
use Rattle.operators.specs.Kits.{times, each_once}
use Rattle.operators.specs.Kits.{same_kind}

pub times-append : (k : Kind) (xs ys : List Kind) → times k (xs ++ ys) ≡ times k xs + times k ys
times-append k [] ys = omega arith
times-append k (x ∷ xs) ys = let next : times k (xs ++ ys) ≡ times k xs + times k ys = times-append k xs ys in omega arith

-- each item of the list is of one kind
one-of : (x : Kind) → (if same_kind kinds.Noop x then 1 else 0) + ((if same_kind kinds.Command x then 1 else 0) + (if same_kind kinds.Exit x then 1 else 0)) ≡ 1
one-of kinds.Noop = refl
one-of kinds.Command = refl
one-of kinds.Exit = refl

pub all-times : (xs : List Kind) → times kinds.Noop xs + (times kinds.Command xs + times kinds.Exit xs) ≡ length xs
all-times [] = refl
all-times (x ∷ xs) =
    let next : times kinds.Noop xs + (times kinds.Command xs + times kinds.Exit xs) ≡ length xs = all-times xs in
    let here : (if same_kind kinds.Noop x then 1 else 0) + ((if same_kind kinds.Command x then 1 else 0) + (if same_kind kinds.Exit x then 1 else 0)) ≡ 1 = one-of x in
    omega arith

-- one more item
pub times_more : {X : Type 0} (f : X → Kind) (k : Kind) (xs : List X) (i : ℕ) (d : X) → i < length xs → times k (map f (take (i + 1) xs)) ≡ times k (map f (take i xs)) + (if same_kind k (f (get_or xs i d)) then 1 else 0)
times_more f k xs i d h =
    let more : take (i + 1) xs ≡ take i xs ++ get_or xs i d ∷ [] = take_more xs i d h in
    let split : map f (take i xs ++ get_or xs i d ∷ []) ≡ map f (take i xs) ++ f (get_or xs i d) ∷ [] = map-append f (take i xs) (get_or xs i d ∷ []) in
    let sum : times k (map f (take i xs) ++ f (get_or xs i d) ∷ []) ≡ times k (map f (take i xs)) + times k (f (get_or xs i d) ∷ []) = times-append k (map f (take i xs)) (f (get_or xs i d) ∷ []) in
    let all : times k (map f (take (i + 1) xs)) ≡ times k (map f (take i xs)) + times k (f (get_or xs i d) ∷ []) = ap (λ l. times k (map f l)) more ∙ ap (times k) split ∙ sum in
    omega arith

-- one more item, of a known kind
pub times_next : {X : Type 0} (f : X → Kind) (xs : List X) (i : ℕ) (d : X) (x : Kind) → i < length xs → f (get_or xs i d) ≡ x → (k : Kind) → times k (map f (take (i + 1) xs)) ≡ times k (map f (take i xs)) + (if same_kind k x then 1 else 0)
times_next f xs i d x h e k = times_more f k xs i d h ∙ ap (λ y. times k (map f (take i xs)) + (if same_kind k y then 1 else 0)) e

-- three operators, each kind once
pub three-long : (xs : List Kind) → each_once xs ≡ true → length xs ≡ 3
three-long xs h = let all : times kinds.Noop xs + (times kinds.Command xs + times kinds.Exit xs) ≡ length xs = all-times xs in grind (arith, h, all)

-- three that were taken off the end of a list of three
pub are-three : {X : Type 0} (xs ys zs ws : List X) (a b c : X) → xs ≡ ys ++ c ∷ [] → ys ≡ zs ++ b ∷ [] → zs ≡ ws ++ a ∷ [] → length xs ≡ 3 → xs ≡ a ∷ b ∷ c ∷ []
are-three xs ys zs [] a b c e f g h = e ∙ ap (λ l. l ++ c ∷ []) f ∙ ap (λ l. (l ++ b ∷ []) ++ c ∷ []) g
are-three xs ys zs (w ∷ ws) a b c e f g h =
    let all : xs ≡ (((w ∷ ws) ++ a ∷ []) ++ b ∷ []) ++ c ∷ [] = e ∙ ap (λ l. l ++ c ∷ []) f ∙ ap (λ l. (l ++ b ∷ []) ++ c ∷ []) g in
    let long : length xs ≡ suc (length ((ws ++ a ∷ []) ++ b ∷ []) + 1) = ap length all ∙ ap suc (length-append ((ws ++ a ∷ []) ++ b ∷ []) (c ∷ [])) in
    let next : length ((ws ++ a ∷ []) ++ b ∷ []) ≡ length (ws ++ a ∷ []) + 1 = length-append (ws ++ a ∷ []) (b ∷ []) in
    let last : length (ws ++ a ∷ []) ≡ length ws + 1 = length-append ws (a ∷ []) in
    absurd (omega arith)

-- each of three
pub each-of-three : {X : Type 0} (P : X → Type 0) (a b c : X) → P a → P b → P c → All P (a ∷ b ∷ c ∷ [])
each-of-three P a b c p q r zero d h = p
each-of-three P a b c p q r (suc zero) d h = q
each-of-three P a b c p q r (suc (suc zero)) d h = r
each-of-three P a b c p q r (suc (suc (suc k))) d h = absurd (omega arith)
