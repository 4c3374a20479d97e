-- Cells that have the same values are the same, where they are of the same kinds.
use Rattle.std.proofs.Common.{◌≡◌, refl, ap, ap₂, ℕ, ℤ, List, [], ◌∷◌, map, Option, Some, None}
use Rattle.record_rules.specs.Cells.{Cell, Number, Words, Perhaps}
use Rattle.record_tables.specs.Forms.{or_null, value_of, values_of}

abbrev kind_of : Cell → ℕ
kind_of (Number n) = 0
kind_of (Words t) = 1
kind_of (Perhaps o) = 2

abbrev pub kinds_of : List Cell → List ℕ
kinds_of = map kind_of

or_null_apart : (x y : Option ℤ) → or_null x ≡ or_null y → x ≡ y
or_null_apart None None h = refl
or_null_apart None (Some n) h = absurd (cc)
or_null_apart (Some m) None h = absurd (cc)
or_null_apart (Some m) (Some n) h = let same : m ≡ n = cc in ap (λ (z : ℤ). let o : Option ℤ = Some z in o) same

value_apart : (x y : Cell) → kind_of x ≡ kind_of y → value_of x ≡ value_of y → x ≡ y
value_apart (Number m) (Number n) k h = let same : m ≡ n = cc in ap Number same
value_apart (Words s) (Words t) k h = let same : s ≡ t = cc in ap Words same
value_apart (Perhaps o) (Perhaps p) k h = ap Perhaps (or_null_apart o p h)
value_apart (Number m) (Words t) k h = absurd (cc)
value_apart (Number m) (Perhaps p) k h = absurd (cc)
value_apart (Words s) (Number n) k h = absurd (cc)
value_apart (Words s) (Perhaps p) k h = absurd (cc)
value_apart (Perhaps o) (Number n) k h = absurd (cc)
value_apart (Perhaps o) (Words t) k h = absurd (cc)

pub values_apart : (xs ys : List Cell) → kinds_of xs ≡ kinds_of ys → values_of xs ≡ values_of ys → xs ≡ ys
values_apart [] [] k h = refl
values_apart [] (y ∷ ys) k h = absurd (cc)
values_apart (x ∷ xs) [] k h = absurd (cc)
values_apart (x ∷ xs) (y ∷ ys) k h =
    let kind : kind_of x ≡ kind_of y = cc in
    let kinds : kinds_of xs ≡ kinds_of ys = cc in
    let value : value_of x ≡ value_of y = cc in
    let values : values_of xs ≡ values_of ys = cc in
    ap₂ (λ (c : Cell) cs. c ∷ cs) (value_apart x y kind value) (values_apart xs ys kinds values)
