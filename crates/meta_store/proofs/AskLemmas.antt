-- What a statement that was prepared says of the schema.
use Rattle.std.proofs.Common.{◌≡◌, ◌∙◌, List, ℕ, codes, true≢false, Ok, Err, IsOk, is_ok, refl, sym, ap}
use Rattle.sqlite.specs.Listing.{understood}
use Rattle.sqlite.specs.Outline.{Outline}
use Rattle.sqlite.specs.Schema.{Schema}
use Rattle.sqlite.specs.Steps.{Outlines}
use Rattle.record_tables.specs.Schema.{first_schema}
use Rattle.record_tables.proofs.OursLemmas.{no_bounds}

-- it is understood
pub known : (schema : Schema) (sql : List ℕ) (s : Outline) → Outlines (understood schema sql) s → IsOk (understood schema sql)
known schema sql s = elim (understood schema sql) as (λ r. Outlines r s → IsOk r) [
  | Ok c ↦ λ h. refl
  | Err e ↦ λ h. absurd h
]

-- a record of version 1 has no bounds to ask for
pub unbounded : (schema : Schema) → schema ≡ first_schema → IsOk (understood schema (codes "SELECT max_active_tasks FROM dag_limit")) → ⊥
unbounded schema is h = true≢false (sym h ∙ ap (λ s. is_ok (understood s (codes "SELECT max_active_tasks FROM dag_limit"))) is ∙ no_bounds)
