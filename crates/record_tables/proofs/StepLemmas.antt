-- What statements do inside a transaction, one after another.
use Rattle.std.proofs.Common.{◌≡◌, ℕ, suc, List, [], ◌∷◌, ◌++◌, Ok, Err, Result, OnOk, OnErr, IsTrue, ◌⊎◌, inl, inr, ◌<◌, ◌+◌, length, take, get_or, false, sym, ap, subst, ◌∙◌, arith}
use Rattle.std.specs.List.{AllByRecursion}
use Rattle.std.proofs.lemmas.List.{take_more}
use Rattle.sqlite_rules.proofs.ListLemmas.{all_has, all_from}
use Rattle.sqlite_schema.specs.declared.schema.Schema.{Schema}
use Rattle.sqlite_schema.specs.declared.schema.Table.{Table as Kept}
use Rattle.sqlite_value.specs.Order.{Row}
use Rattle.sqlite.specs.declared.error.Error.{Error}
use Rattle.sqlite.specs.Effect.{Database}
use Rattle.sqlite.specs.State.{State, ExecutesInside, Survives, HasCleanDisk, KeepsCommit, IsUnchanged, IsRolledBack}
use Rattle.sqlite.proofs.StateLemmas.{survives_then}
use Rattle.record_rows.specs.Rows.{Rows}
use Rattle.record_tables.specs.Holds.{Stores}
use Rattle.record_tables.specs.Others.{is_record_tree}
use Rattle.record_tables.specs.Puts.{LeavesOthers, PutsIn, Stops, GoesBy}

commit_kept : (old new : State) → IsUnchanged old new ⊎ IsRolledBack old new → KeepsCommit old new
commit_kept old new (inl same) = record { was_open = λ _. same.0.was_open; committed = λ _. same.0.committed_is }
commit_kept old new (inr back) = record { was_open = back.was_open; committed = λ is_open. (back.undone is_open).1 }

pub stops : (sql : List ℕ) (params : Row) (old new : State) (r : Result ℕ Error) → (HasCleanDisk new → IsTrue old.in_transaction → ExecutesInside 0 sql params old new r)
    → Survives old new (λ _. ⊥) → OnErr r (Stops old new)
stops sql params old new (Ok count) runs survives = tt
stops sql params old new (Err e) runs survives = record {
  survives = survives;
  kept = λ clean inside. elim (runs clean inside) [ inl ran ↦ commit_kept old new ran.1 | inr ends ↦ commit_kept old new (inl ends.2) ];
}

module _ (sql : List ℕ) (params : Row) (old new : State) (R : Database → Database → Type 0) where
  pub goes : (r : Result ℕ Error) → (HasCleanDisk new → IsTrue old.in_transaction → ExecutesInside 0 sql params old new r) → Survives old new (λ _. ⊥)
      → (ExecutesInside 0 sql params old new r → OnOk r (R old.now new.now)) → OnOk r (GoesBy R old new)
  goes (Err e) runs survives puts = tt
  goes (Ok count) runs survives puts = record {
    survives = survives;
    kept = λ clean inside. let it = (runs clean inside).1 in record { was_open = λ _. it.was_open; committed = λ _. it.committed_is };
    inside = λ clean inside. (runs clean inside).1.mode;
    changed = λ clean inside. puts (runs clean inside);
  }

pub keeps_then : (a b c : State) → Survives b c (λ _. ⊥) → KeepsCommit a b → KeepsCommit b c → KeepsCommit a c
keeps_then a b c s p q = record { was_open = λ h. p.was_open (q.was_open h); committed = λ h. q.committed h ∙ p.committed (q.was_open h) }

earlier : (b c : State) → Survives b c (λ _. ⊥) → HasCleanDisk c → HasCleanDisk b
earlier b c s clean = omega (arith, s.clean)

-- one change after the other
pub by_then : (P Q R : Database → Database → Type 0) → ((x y z : Database) → P x y → Q y z → R x z) → (a b c : State) → GoesBy P a b → GoesBy Q b c → GoesBy R a c
by_then P Q R joins a b c p q = record {
  survives = survives_then a b c _ _ _ (λ _ db none. none) (λ _ db none. none) p.survives q.survives;
  kept = λ clean inside. let mid = earlier b c q.survives clean in keeps_then a b c q.survives (p.kept mid inside) (q.kept clean (p.inside mid inside));
  inside = λ clean inside. q.inside clean (p.inside (earlier b c q.survives clean) inside);
  changed = λ clean inside. let mid = earlier b c q.survives clean in joins a.now b.now c.now (p.changed mid inside) (q.changed clean (p.inside mid inside));
}

-- ---- what is of others
leaves_then : (x y z : Database) → LeavesOthers x y → LeavesOthers y z → LeavesOthers x z
leaves_then x y z p q =
    let later = subst (λ (s : Schema). AllByRecursion (λ (t : Kept). is_record_tree t.tree ≡ false → z.trees t.tree ≡ y.trees t.tree) s.tables) p.0 q.1 in
    (q.0 ∙ p.0, all_from _ x.schema.tables (λ t has apart. all_has _ x.schema.tables t later has apart ∙ all_has _ x.schema.tables t p.1 has apart))

-- rows put after others
puts_then : (f g : Rows → Rows) (x y z : Database) → PutsIn f x y → PutsIn g y z → PutsIn (λ t. g (f t)) x z
puts_then f g x y z p q rows stored =
    let first = p rows stored in
    let second = q (f rows) first.0 in
    (second.0, leaves_then x y z first.1 second.1)

pub goes_puts : (f g : Rows → Rows) (a b c : State) → GoesBy (PutsIn f) a b → GoesBy (PutsIn g) b c → GoesBy (PutsIn (λ t. g (f t))) a c
goes_puts f g = by_then (PutsIn f) (PutsIn g) (PutsIn (λ t. g (f t))) (puts_then f g)

pub stops_then : (R : Database → Database → Type 0) (a b c : State) → GoesBy R a b → Stops b c → Stops a c
stops_then R a b c p q = record {
  survives = survives_then a b c _ _ _ (λ _ db none. none) (λ _ db none. none) p.survives q.survives;
  kept = λ clean inside. let mid = earlier b c q.survives clean in keeps_then a b c q.survives (p.kept mid inside) (q.kept clean (p.inside mid inside));
}

-- where the result is of a call that may have failed
pub stops_last : {A : Type 0} (R : Database → Database → Type 0) (a b c : State) (r : Result A Error) → GoesBy R a b → OnErr r (Stops b c) → OnErr r (Stops a c)
stops_last R a b c (Ok x) p q = tt
stops_last R a b c (Err e) p q = stops_then R a b c p q

pub on_err : {A : Type 0} (r : Result A Error) (P : Type 0) → P → OnErr r P
on_err (Ok a) P h = tt
on_err (Err e) P h = h

-- ---- a list of rows, one after another
pub goes_more : {X : Type 0} (change : List X → Rows → Rows) → ((rs ss : List X) (t : Rows) → change (rs ++ ss) t ≡ change ss (change rs t)) → (rows : List X) (i : ℕ) (row : X) → i < length rows → row ≡ get_or rows i row
    → (a b c : State) → GoesBy (PutsIn (change (take i rows))) a b → GoesBy (PutsIn (change (row ∷ []))) b c → GoesBy (PutsIn (change (take (i + 1) rows))) a c
goes_more change joins rows i row low is =
    let same : take (i + 1) rows ≡ take i rows ++ row ∷ [] = take_more rows i row low ∙ ap (λ r. take i rows ++ r ∷ []) (sym is) in
    by_then _ _ _ (λ x y z p q t stored.
    let it = puts_then (change (take i rows)) (change (row ∷ [])) x y z p q t stored in
    (subst (Stores z) (sym (ap (λ rs. change rs t) same ∙ joins (take i rows) (row ∷ []) t)) it.0, it.1))

-- the number of the next table
pub next : (n : ℕ) → suc n ≡ n + 1
next n = omega arith
