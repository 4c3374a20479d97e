-- The schema of the record has its tables, whatever is beside them.
use Rattle.std.proofs.Common.{◌≡◌, codes, false, is_ok, IsTrue, refl}
use Rattle.sqlite.specs.Listing.{listing_schema, understood}
use Rattle.sqlite_schema.specs.Names.{same_name}
use Rattle.sqlite_tied.specs.Compute.{everything}
use Rattle.record_tables.specs.Others.{Others, with_others}
use Rattle.record_tables.specs.Ours.{has_limits, is_ours}
use Rattle.record_tables.specs.Schema.{first_schema}

pub ours : (o : Others) → IsTrue (is_ours (with_others o))
unfolding same_name
ours o = refl

pub limits : (o : Others) → IsTrue (has_limits (with_others o))
unfolding same_name
limits o = refl

pub first_ours : IsTrue (is_ours first_schema)
unfolding same_name
first_ours = refl

pub no_limits : has_limits first_schema ≡ false
unfolding same_name
no_limits = refl

-- version 1 has no table of bounds
pub no_bounds : is_ok (understood first_schema (codes "SELECT max_active_tasks FROM dag_limit")) ≡ false
unfolding understood everything listing_schema
no_bounds = refl
