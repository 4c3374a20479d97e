-- The positions of the touched runs, which rise.
use Rattle.std.specs.Prelude.{ℕ, ◌+◌, if◌then◌else◌, List, map, nat_le}
use Rattle.std.specs.BTreeSet.{insert_key}
use Rattle.std.specs.Ordering.{nat_cmp}

-- where each of the runs stands once one was put in at position n: those from n on are one position further on
abbrev pub shifted_from : ℕ → List ℕ → List ℕ
shifted_from n ns = map (λ m. if nat_le n m then m + 1 else m) ns

-- the touched positions once a run was put in at position n: it is touched too
abbrev pub touched_with : ℕ → List ℕ → List ℕ
touched_with n ns = insert_key nat_cmp (shifted_from n ns) n
