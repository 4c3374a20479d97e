-- What columns say, where each is in its range.
use Rattle.std.proofs.Common.{◌≡◌, refl, sym, ap, ◌∙◌, ℕ, Bool, true, false, ◌&&◌, Option, Some, None}
use Rattle.std.specs.Prelude.{int_le}
use Rattle.std.proofs.lemmas.Bool.{and_from}
use Rattle.graph_file.specs.Lists.{when}
use Rattle.graph_file.proofs.ListLemmas.{when_none}
use Rattle.record_rows.specs.Rows.{RunRow}
use Rattle.sched_state.specs.declared.runs.RunKind.{RunKind}
use Rattle.sched_state.specs.declared.runs.RunPhase.{RunPhase}
use Rattle.record_rules.specs.Numbers.{natural, is_between, is_moment_column}
use Rattle.record_rules.specs.Reading.{kind_of, phase_of}
use Rattle.record_restoring.specs.Columns.{are_columns_right, columns_in}
use Rattle.record_restoring.specs.declared.run_columns.RunColumns.{RunColumns}

-- ---- a value that is there where a test passes
pub when_some : {X : Type 0} (b : Bool) (x y : X) → when b x ≡ Some y → y ≡ x
when_some true x y e = cc
when_some {X} false x y e = absurd (let c : ◌≡◌ {A = Option X} None (Some y) = e in cc)

when_true : {X : Type 0} (b : Bool) (x y : X) → when b x ≡ Some y → b ≡ true
when_true true x y e = refl
when_true {X} false x y e = absurd (let c : ◌≡◌ {A = Option X} None (Some y) = e in cc)

-- ---- a row of run
no_right : (b c : Bool) → c ≡ false → (b && c) ≡ false
no_right true c e = e
no_right false c e = refl

no_columns : (r : RunRow) → are_columns_right r ≡ false → None ≡ when (are_columns_right r) (columns_in r)
no_columns r e = ap (λ b. let o : Option RunColumns = when b (columns_in r) in o) (sym e)

pub no_kind : (r : RunRow) → when (is_between 0 2 r.kind) (kind_of (natural r.kind)) ≡ None → None ≡ when (are_columns_right r) (columns_in r)
no_kind r e = no_columns r (no_right _ (is_between 0 2 r.kind && is_between 0 3 r.phase) (ap (λ b. b && is_between 0 3 r.phase) (when_none _ _ e)))

pub no_phase : (r : RunRow) → when (is_between 0 3 r.phase) (phase_of (natural r.phase)) ≡ None → None ≡ when (are_columns_right r) (columns_in r)
no_phase r e = no_columns r (no_right _ (is_between 0 2 r.kind && is_between 0 3 r.phase) (no_right (is_between 0 2 r.kind) _ (when_none _ _ e)))

pub all_columns : (r : RunRow) (l s e : ℕ) (k : RunKind) (p : RunPhase) → when (is_moment_column r.logical) (natural r.logical) ≡ Some l → when (is_moment_column r.data_start) (natural r.data_start) ≡ Some s
    → when (is_moment_column r.data_end) (natural r.data_end) ≡ Some e → int_le r.data_start r.data_end ≡ true → when (is_between 0 2 r.kind) (kind_of (natural r.kind)) ≡ Some k → when (is_between 0 3 r.phase) (phase_of (natural r.phase)) ≡ Some p
    → Some (let c : RunColumns = record { logical = l; interval = record { start = s; end = e }; kind = k; phase = p } in c) ≡ when (are_columns_right r) (columns_in r)
all_columns r l s e k p hl hs he forward hk hp =
    let right : are_columns_right r ≡ true = and_from _ _
    (and_from _ _ (when_true _ _ l hl) (and_from _ _ (when_true _ _ s hs) (and_from _ _ (when_true _ _ e he) forward)))
    (and_from _ _ (when_true _ _ k hk) (when_true _ _ p hp)) in
    let l_is : l ≡ natural r.logical = when_some _ _ l hl in
    let s_is : s ≡ natural r.data_start = when_some _ _ s hs in
    let e_is : e ≡ natural r.data_end = when_some _ _ e he in
    let k_is : k ≡ kind_of (natural r.kind) = when_some _ _ k hk in
    let p_is : p ≡ phase_of (natural r.phase) = when_some _ _ p hp in
    let same : ◌≡◌ {A = RunColumns} (record { logical = l; interval = record { start = s; end = e }; kind = k; phase = p }) (columns_in r) = cc in
    ap (λ (c : RunColumns). let o : Option RunColumns = Some c in o) same ∙ ap (λ b. let o : Option RunColumns = when b (columns_in r) in o) (sym right)
