-- Rows that rise, put behind others.
use Rattle.std.proofs.Common.{◌≡◌, refl, sym, ap, subst, ◌∙◌, inl, inr, List, [], ◌∷◌, ◌++◌, cond, Bool, true}
use Rattle.std.specs.List.{list_all}
use Rattle.std.proofs.lemmas.List.{append-nil, append_assoc}
use Rattle.sqlite_rules.specs.Lists.{Has}
use Rattle.sched_state.proofs.OrderLemmas.{and_left, and_right}
use Rattle.record_rules.specs.sched_model.Lists.{rises}
use Rattle.record_rules.specs.Between.{put, puts}
use Rattle.record_rules.specs.Keys.{IsOrdered}
use Rattle.record_tables.proofs.OnceLemmas.{stands}

module _ {X : Type 0} {before : X → X → Bool} (order : IsOrdered before) where
  has_middle : (ys : List X) (r : X) (rs : List X) → Has (ys ++ r ∷ rs) r
  has_middle [] r rs = inl refl
  has_middle (y ∷ ys) r rs = inr (has_middle ys r rs)

  put_last : (xs : List X) (r : X) (rs : List X) → rises before (xs ++ r ∷ rs) ≡ true → put before r xs ≡ xs ++ r ∷ []
  put_last [] r rs up = refl
  put_last (y ∷ ys) r rs up =
      let first = stands order (before y) (ys ++ r ∷ rs) r (and_left _ _ up) (has_middle ys r rs) in
      ap (λ b. cond b (y ∷ put before r ys) (cond (before r y) (r ∷ y ∷ ys) (r ∷ ys))) first ∙ ap (λ l. y ∷ l) (put_last ys r rs (and_right (list_all (before y) (ys ++ r ∷ rs)) _ up))

  pub puts_last : (xs rs : List X) → rises before (xs ++ rs) ≡ true → puts before rs xs ≡ xs ++ rs
  puts_last xs [] up = sym (append-nil xs)
  puts_last xs (r ∷ rs) up =
      let moved : (xs ++ r ∷ []) ++ rs ≡ xs ++ r ∷ rs = append_assoc xs (r ∷ []) rs in
      ap (puts before rs) (put_last xs r rs up) ∙ puts_last (xs ++ r ∷ []) rs (subst (λ l. rises before l ≡ true) (sym moved) up) ∙ moved
