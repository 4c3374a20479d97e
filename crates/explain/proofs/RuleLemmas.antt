-- A rule whose upstreams are all finished decides.
use Rattle.std.proofs.Common.{◌≡◌, ◌∙◌, refl, sym, Bool, true, false, not, ◌&&◌, ◌||◌, List, [], ◌∷◌}
use Rattle.std.specs.List.{list_any, list_all}
use Rattle.graph_file.specs.declared.rules.Rule.{Rule}
use Rattle.graph_file.specs.declared.rules.Rule.TheVariants as rule
use Rattle.trigger_rules.specs.Rules.{decide, is_done, is_success_or_skipped, is_success_or_bad, row_of, rule_verdict}
use Rattle.trigger_rules.specs.States.{is_success, is_skipped, is_bad, is_finished}
use Rattle.trigger_rules.specs.declared.states.State.{State}
use Rattle.trigger_rules.specs.declared.states.State.TheVariants as state
use Rattle.trigger_rules.specs.declared.verdicts.Verdict.TheVariants.{Wait, Run, Skip, UpstreamFailed}

-- ---- the columns of a row that waits
pub record Waits (runs fails skips : Bool) : Type 0 where
  pub runs_not : runs ≡ false
  pub fails_not : fails ≡ false
  pub skips_not : skips ≡ false

waits : (b c d : Bool) → decide b c d ≡ Wait → Waits b c d
waits true c d e = absurd (let f : Run ≡ Wait = e in cc)
waits false true d e = absurd (let f : UpstreamFailed ≡ Wait = e in cc)
waits false false true e = absurd (let f : Skip ≡ Wait = e in cc)
waits false false false e = record { runs_not = refl; fails_not = refl; skips_not = refl }

-- ---- what a finished state is
success_left : (x : State) → is_finished x ≡ true → is_bad x ≡ false → is_skipped x ≡ false → is_success x ≡ true
success_left state.Success f b k = refl
success_left _ f b k = cc

bad_left : (x : State) → is_finished x ≡ true → is_success_or_skipped x ≡ false → false ≡ false → is_bad x ≡ true
bad_left state.Failed f b k = refl
bad_left state.UpstreamFailed f b k = refl
bad_left _ f b k = cc

skipped_left : (x : State) → is_finished x ≡ true → is_success_or_bad x ≡ false → false ≡ false → is_skipped x ≡ true
skipped_left state.Skipped f b k = refl
skipped_left _ f b k = cc

quiet_left : (x : State) → is_finished x ≡ true → is_bad x ≡ false → false ≡ false → is_success_or_skipped x ≡ true
quiet_left state.Success f b k = refl
quiet_left state.Skipped f b k = refl
quiet_left _ f b k = cc

skipped_rest : (x : State) → is_finished x ≡ true → is_bad x ≡ false → is_success x ≡ false → is_skipped x ≡ true
skipped_rest state.Skipped f b k = refl
skipped_rest _ f b k = cc

done_left : (x : State) → is_finished x ≡ true → is_skipped x ≡ false → false ≡ false → is_success_or_bad x ≡ true
done_left state.Success f b k = refl
done_left state.Failed f b k = refl
done_left state.UpstreamFailed f b k = refl
done_left _ f b k = cc

-- ---- lists
and-parts : (b c : Bool) → (b && c) ≡ true → (b ≡ true) × (c ≡ true)
and-parts true c e = (refl, e)
and-parts false c e = absurd (let f : false ≡ true = e in cc)

or-parts : (b c : Bool) → (b || c) ≡ false → (b ≡ false) × (c ≡ false)
or-parts true c e = absurd (let f : true ≡ false = e in cc)
or-parts false c e = (refl, e)

and-made : (b c : Bool) → b ≡ true → c ≡ true → (b && c) ≡ true
and-made true c e f = f
and-made false c e f = absurd (let g : false ≡ true = e in cc)

none_is_no : (s : List State) → list_any (λ (x : State). false) s ≡ false
none_is_no [] = refl
none_is_no (x ∷ s) = none_is_no s

-- where each finished state that is neither p nor q is r, and none is p or q, all are r
all_left : (p q r : State → Bool) → ((x : State) → is_finished x ≡ true → p x ≡ false → q x ≡ false → r x ≡ true) → (s : List State) → list_all is_finished s ≡ true → list_any p s ≡ false → list_any q s ≡ false
    → list_all r s ≡ true
all_left p q r each [] f g h = refl
all_left p q r each (x ∷ s) f g h =
    let fs = and-parts (is_finished x) (list_all is_finished s) f in
    let gs = or-parts (p x) (list_any p s) g in
    let hs = or-parts (q x) (list_any q s) h in
    and-made (r x) (list_all r s) (each x fs.0 gs.0 hs.0) (all_left p q r each s fs.1 gs.1 hs.1)

both : {b : Bool} → b ≡ true → b ≡ false → ⊥
both {b} e f = let g : true ≡ false = sym e ∙ f in cc

-- of all finished ones none passes, or one does
any_not : (b c : Bool) → b ≡ true → (b && not c) ≡ false → c ≡ true
any_not true true e f = refl
any_not true false e f = absurd (let g : true ≡ false = f in cc)
any_not false c e f = absurd (let g : false ≡ true = e in cc)

three : (b c d : Bool) → b ≡ true → c ≡ false → (b && not c && d) ≡ false → d ≡ false
three true false d e f g = g
three true true d e f g = absurd (let h : true ≡ false = f in cc)
three false c d e f g = absurd (let h : false ≡ true = e in cc)

three_not : (b c d : Bool) → b ≡ true → c ≡ false → (b && not c && not d) ≡ false → d ≡ true
three_not true false true e f g = refl
three_not true false false e f g = absurd (let h : true ≡ false = g in cc)
three_not true true d e f g = absurd (let h : true ≡ false = f in cc)
three_not false c d e f g = absurd (let h : false ≡ true = e in cc)

row_decides : (r : Rule) (s : List State) → list_all is_finished s ≡ true → row_of r s ≡ Wait → ⊥
row_decides rule.AllSuccess s f e =
    let w = waits (list_all is_success s) (list_any is_bad s) (list_any is_skipped s) e in
    both (all_left is_bad is_skipped is_success success_left s f w.fails_not w.skips_not) w.runs_not
row_decides rule.AllFailed s f e =
    let w = waits (list_all is_bad s) false (list_any is_success_or_skipped s) e in
    both (all_left is_success_or_skipped (λ (x : State). false) is_bad bad_left s f w.skips_not (none_is_no s)) w.runs_not
row_decides rule.AllDone s f e =
    let w = waits (list_all is_finished s) false false e in
    both f w.runs_not
row_decides rule.AllSkipped s f e =
    let w = waits (list_all is_skipped s) false (list_any is_success_or_bad s) e in
    both (all_left is_success_or_bad (λ (x : State). false) is_skipped skipped_left s f w.skips_not (none_is_no s)) w.runs_not
row_decides rule.OneFailed s f e =
    let w = waits (list_any is_bad s) false (list_all is_finished s && not (list_any is_bad s)) e in
    both (any_not (list_all is_finished s) (list_any is_bad s) f w.skips_not) w.runs_not
row_decides rule.OneSuccess s f e =
    let w = waits (list_any is_success s) (list_all is_finished s && not (list_any is_success s) && not (list_all is_skipped s)) (list_all is_skipped s) e in
    both (three_not (list_all is_finished s) (list_any is_success s) (list_all is_skipped s) f w.runs_not w.fails_not) w.skips_not
row_decides rule.OneDone s f e =
    let w = waits (list_any is_done s) false (list_all is_finished s && not (list_any is_done s)) e in
    both (any_not (list_all is_finished s) (list_any is_done s) f w.skips_not) w.runs_not
row_decides rule.NoneFailed s f e =
    let w = waits (list_all is_success_or_skipped s) (list_any is_bad s) false e in
    both (all_left is_bad (λ (x : State). false) is_success_or_skipped quiet_left s f w.fails_not (none_is_no s)) w.runs_not
row_decides rule.NoneFailedMinOneSuccess s f e =
    let w = waits (list_all is_finished s && not (list_any is_bad s) && list_any is_success s) (list_any is_bad s) (list_all is_skipped s) e in
    let none : list_any is_success s ≡ false = three (list_all is_finished s) (list_any is_bad s) (list_any is_success s) f w.fails_not w.runs_not in
    both (all_left is_bad is_success is_skipped skipped_rest s f w.fails_not none) w.skips_not
row_decides rule.NoneSkipped s f e =
    let w = waits (list_all is_success_or_bad s) false (list_any is_skipped s) e in
    both (all_left is_skipped (λ (x : State). false) is_success_or_bad done_left s f w.skips_not (none_is_no s)) w.runs_not
row_decides rule.Always s f e = absurd (let g : Run ≡ Wait = e in cc)

pub finished_decides : (r : Rule) (s : List State) → list_all is_finished s ≡ true → rule_verdict r s ≡ Wait → ⊥
finished_decides r [] f e = absurd (let g : Run ≡ Wait = e in cc)
finished_decides r (x ∷ s) f e = row_decides r (x ∷ s) f e
