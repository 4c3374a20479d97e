-- When INSERT OR REPLACE of a row finds one with its key.
use Rattle.std.proofs.Common.{◌≡◌, ℕ, suc, List, [], ◌∷◌, drop, ◌&&◌, ◌||◌, Bool, true, false, refl, ap}
use Rattle.sqlite_value.specs.declared.value.Value.{Value}
use Rattle.sqlite_value.specs.declared.value.Value.TheVariants.{Int}
use Rattle.sqlite_value.specs.Order.{Row, column}
use Rattle.sqlite_value.specs.Keys.{plain}
use Rattle.sqlite_schema.specs.Rules.{agree}
use Rattle.sqlite_rules.specs.declared.error.Rowids.TheVariants.{Chosen}
use Rattle.sqlite_rules.specs.Edit.{next_rowid}
use Rattle.sqlite_rules.specs.Lists.{Has}
use Rattle.sqlite_rules.proofs.ListLemmas.{all_has}
use Rattle.sqlite_rules.proofs.PlaceLemmas.{next_is_free}
use Rattle.record_tables.specs.Holds.{IsRising}
use Rattle.record_tables.proofs.RowLemmas.{apart}

-- of a row that has a rowid, the columns are those after it
pub tail_at : (y cells : Row) (v : Value) (at : ℕ) → drop 1 y ≡ v ∷ cells → column y (suc at) ≡ column (v ∷ cells) at
tail_at [] cells v at h = absurd (cc)
tail_at (x ∷ y) cells v at h = ap (λ r. column r at) h

pub key_1 : (a : Bool) → ((a && true) || false) ≡ a
key_1 true = refl
key_1 false = refl

pub key_2 : (a b : Bool) → ((a && (b && true)) || false) ≡ (a && b)
key_2 true b = key_1 b
key_2 false b = refl

pub key_3 : (a b c : Bool) → ((a && (b && (c && true))) || false) ≡ (a && (b && c))
key_3 true b c = key_2 b c
key_3 false b c = refl

-- the rowid that a row gets is that of no other
pub apart_new : (rows : List Row) (values y : Row) → IsRising rows → Has rows y → agree plain (0 ∷ []) y (0 ∷ []) (Int (next_rowid rows) ∷ values) ≡ false
apart_new rows values y rising has =
    apart rows (Int (next_rowid rows) ∷ values) y (next_rowid rows) refl (next_is_free Chosen rows values rising.0 rising.1) has (all_has _ rows y rising.1 has)
