-- What a writer holds after several writes.
use Rattle.std.proofs.Common.{◌≡◌, ◌<◌, ℕ, ◌+◌, List, [], ◌∷◌, ◌++◌, length, take, get_or, Option, Some, None, append_assoc, append-nil, codes, refl, sym, ap, ◌∙◌}
use Rattle.std.proofs.lemmas.List.{take_more, flat_map_more}
use Rattle.std.specs.List.{flat_map}
use Rattle.std.specs.Io.KnownBytes.{Appends}
use Rattle.answer_lines.specs.Runs.{after_blank}

-- two writes, one after the other
pub appends_both : (a b c : Option (List ℕ)) (xs ys : List ℕ) → Appends a b xs → Appends b c ys → Appends a c (xs ++ ys)
appends_both None b c xs ys h k = tt
appends_both (Some l) None c xs ys h k = absurd h
appends_both (Some l) (Some m) None xs ys h k = k
appends_both (Some l) (Some m) (Some n) xs ys h k = k ∙ (ap (λ (t : List ℕ). t ++ ys) h ∙ append_assoc l xs ys)

-- no write
pub appends_none : (a : Option (List ℕ)) → Appends a a []
appends_none None = tt
appends_none (Some l) = sym (append-nil l)

-- the same bytes by another name
pub appends_same : (a b : Option (List ℕ)) (xs ys : List ℕ) → xs ≡ ys → Appends a b xs → Appends a b ys
appends_same None b xs ys e h = tt
appends_same (Some l) None xs ys e h = h
appends_same (Some l) (Some m) xs ys e h = h ∙ ap (λ (t : List ℕ). l ++ t) e

-- one more element's bytes
pub appends_more : {X : Type 0} (f : X → List ℕ) (xs : List X) (i : ℕ) (x : X) (a b c : Option (List ℕ)) → i < length xs → x ≡ get_or xs i x → Appends a b (flat_map f (take i xs)) → Appends b c (f x) → Appends a c (flat_map f (take (i + 1) xs))
appends_more {X = X} f xs i x a b c inside here h k =
    let more : flat_map f (take i xs) ++ f x ≡ flat_map f (take i xs ++ x ∷ []) = flat_map_more f [] (take i xs) x in
    let next : take (i + 1) xs ≡ take i xs ++ x ∷ [] = take_more xs i x inside ∙ ap (λ (y : X). take i xs ++ y ∷ []) (sym here) in
    appends_same a c (flat_map f (take i xs) ++ f x) (flat_map f (take (i + 1) xs)) (more ∙ ap (flat_map f) (sym next)) (appends_both a b c (flat_map f (take i xs)) (f x) h k)

-- the texts of a try's line, from the right
pub try_texts : (serial graph logical task number : List ℕ) → codes "try " ++ (serial ++ (after_blank graph ++ (after_blank logical ++ (after_blank task ++ (after_blank number ++ codes "\n"))))) ≡ codes "try " ++ serial ++ after_blank graph ++ after_blank logical ++ after_blank task ++ after_blank number ++ codes "\n"
try_texts serial graph logical task number = simp append_assoc refl

-- the texts of a made run's line, from the right
pub made_texts : (graph kind logical : List ℕ) → codes "made " ++ (graph ++ after_blank (kind ++ (codes "__" ++ (logical ++ codes "\n")))) ≡ codes "made " ++ graph ++ after_blank (kind ++ codes "__" ++ logical) ++ codes "\n"
made_texts graph kind logical =
    let id : List ℕ = kind ++ codes "__" ++ logical in
    let end = append_assoc (kind ++ codes "__") logical (codes "\n") ∙ append_assoc kind (codes "__") (logical ++ codes "\n") in
    ap (λ (t : List ℕ). codes "made " ++ (graph ++ after_blank t)) (sym end) ∙ ap (λ (t : List ℕ). codes "made " ++ t) (sym (append_assoc graph (after_blank id) (codes "\n")))
