-- What the code sees of a table and of an array, beside their data.
use Rattle.std.proofs.Common.{◌≡◌, ℕ, Bool, true, List, [], ◌∷◌, ◌++◌, take, ◌&&◌, ◌||◌, map, refl, ap, sym, ◌∙◌, ◌+◌, sum_by, position, length, zero, suc, get_or, nat_le, is_some, ◌<◌, not, arith, String, string_bytes, Global, false, Option, Some, find, option_map, if◌then◌else◌}
use Rattle.std.proofs.lemmas.Bool.{and_parts}
use Rattle.std.proofs.lemmas.List.Sums.{sum_by-cons}
use Rattle.std.specs.List.{list_all, list_any, prefix_len}
use Rattle.std.specs.Map.{keys_of}
use Rattle.toml.specs.Data.{Data}
use Rattle.toml.specs.View.{view, items_view, members_view}
use Rattle.toml.specs.declared.value.Value.{Value}
use Rattle.graph_file.specs.Names.{is_name}
use Rattle.graph_file.specs.Operators.{status_of, names_program, has_no_nul, is_command, are_statuses}
use Rattle.graph_file.specs.Values.{text_of}
use Rattle.graph_file.specs.Tables.{list_of, keys_in, each_item, some_item}

pub each_item-view : (p : Data → Bool) (vs : List Value) → list_all (λ v. p (view v)) vs ≡ each_item p (items_view vs)
each_item-view p [] = refl
each_item-view p (v ∷ vs) = ap (λ b. p (view v) && b) (each_item-view p vs)

pub some_item-view : (p : Data → Bool) (vs : List Value) → list_any (λ v. p (view v)) vs ≡ some_item p (items_view vs)
some_item-view p [] = refl
some_item-view p (v ∷ vs) = ap (λ b. p (view v) || b) (some_item-view p vs)

pub keys_in-view : (p : List ℕ → Bool) (es : List (String Global × Value)) → list_any (λ name. p (string_bytes name)) (keys_of es) ≡ list_any p (keys_in (members_view es))
keys_in-view p [] = refl
keys_in-view p (e ∷ es) = ap (λ b. p (string_bytes e.0) || b) (keys_in-view p es)

found-if : {X Y : Type 0} (f : X → Y) (b : Bool) (x : X) (o : Option X) (o' : Option Y) → option_map f o ≡ o' → option_map f (if b then Some x else o) ≡ (if b then Some (f x) else o')
found-if f true x o o' e = refl
found-if f false x o o' e = e

pub find-view : (p : List ℕ → Bool) (es : List (String Global × Value)) → option_map string_bytes (find (λ name. p (string_bytes name)) (keys_of es)) ≡ find p (keys_in (members_view es))
find-view p [] = refl
find-view p (e ∷ es) = found-if string_bytes (p (string_bytes e.0)) e.0 _ _ (find-view p es)

pub list_of-view : (vs : List Value) → map view vs ≡ list_of (items_view vs)
list_of-view [] = refl
list_of-view (v ∷ vs) = ap (λ ds. view v ∷ ds) (list_of-view vs)

place-view : (p : Data → Bool) (vs : List Value) → prefix_len (λ v. p (view v)) vs ≡ prefix_len p (map view vs)
place-view p [] = refl
place-view p (v ∷ vs) = rw (place-view p vs) refl

length-view : (vs : List Value) → length vs ≡ length (map view vs)
length-view [] = refl
length-view (v ∷ vs) = ap (λ n. suc n) (length-view vs)

pub position-view : (p : Data → Bool) (vs : List Value) → position (λ v. p (view v)) vs ≡ position p (map view vs)
position-view p vs = rw (place-view (λ d. not (p d)) vs, length-view vs) refl

-- a test of each datum holds of the value at an index
pub item_of : (p : Data → Bool) (vs : List Value) (i : ℕ) (d : Value) → list_all p (map view vs) ≡ true → i < length vs → p (view (get_or vs i d)) ≡ true
item_of p [] i d h k = absurd (omega arith)
item_of p (v ∷ vs) zero d h k = (and_parts (p (view v)) (list_all p (map view vs)) h).0
item_of p (v ∷ vs) (suc i) d h k = item_of p vs i d (and_parts (p (view v)) (list_all p (map view vs)) h).1 (omega arith)

-- the texts of the values, seen through their data
pub length-texts : (vs : List Value) → length (map text_of (map view vs)) ≡ length vs
length-texts [] = refl
length-texts (v ∷ vs) = ap (λ n. suc n) (length-texts vs)

list_all-texts : (p : List ℕ → Bool) (vs : List Value) → list_all p (map text_of (map view vs)) ≡ list_all (λ v. p (text_of (view v))) vs
list_all-texts p [] = refl
list_all-texts p (v ∷ vs) = ap (λ b. p (text_of (view v)) && b) (list_all-texts p vs)

sum-texts : (f : List ℕ → ℕ) (vs : List Value) → sum_by f (map text_of (map view vs)) ≡ sum_by (λ v. f (text_of (view v))) vs
sum-texts f [] = refl
sum-texts f (v ∷ vs) =
    sum_by-cons f (text_of (view v)) (map text_of (map view vs)) ∙ ap (λ n. f (text_of (view v)) + n) (sum-texts f vs) ∙ sym (sum_by-cons (λ w. f (text_of (view w))) v vs)

-- a name stands at each index of names
pub name_at : (vs : List Value) (i : ℕ) (d : Value) → list_all is_name (map text_of (map view vs)) ≡ true → i < length vs → is_name (text_of (view (get_or vs i d))) ≡ true
name_at [] i d h k = absurd (omega arith)
name_at (v ∷ vs) zero d h k = (and_parts (is_name (text_of (view v))) (list_all is_name (map text_of (map view vs))) h).0
name_at (v ∷ vs) (suc i) d h k = name_at vs i d (and_parts (is_name (text_of (view v))) (list_all is_name (map text_of (map view vs))) h).1 (omega arith)

pub is_command-texts : (vs : List Value) → is_command (map text_of (map view vs)) ≡ ((names_program (map text_of (map view vs)) && nat_le (length vs) 64) && (nat_le (sum_by (λ v. length (text_of (view v))) vs) 65536 && list_all (λ v. has_no_nul (text_of (view v))) vs))
is_command-texts vs = rw (length-texts vs, sum-texts length vs, list_all-texts has_no_nul vs) refl

pub are_statuses-texts : (vs : List Value) → are_statuses (map text_of (map view vs)) ≡ ((nat_le 1 (length vs) && nat_le (length vs) 16) && list_all (λ v. is_some (status_of (text_of (view v)))) vs)
are_statuses-texts vs = rw (length-texts vs, list_all-texts (λ s. is_some (status_of s)) vs) refl

-- one more value
pub mapped_more : {B : Type 0} (g : Data → B) (vs : List Value) (i : ℕ) (b : B) (d : Value) → i < length vs → b ≡ g (view (get_or vs i d)) → map g (map view (take i vs)) ++ (b ∷ []) ≡ map g (map view (take (i + 1) vs))
mapped_more g [] i b d k e = absurd (omega arith)
mapped_more g (v ∷ vs) zero b d k e = rw e refl
mapped_more g (v ∷ vs) (suc i) b d k e =
    let next : suc i + 1 ≡ suc (i + 1) = omega arith in
    rw next (ap (λ xs. g (view v) ∷ xs) (mapped_more g vs i b d (omega arith) e))
