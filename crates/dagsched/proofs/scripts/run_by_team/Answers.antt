use Rattle.std.proofs.Common.{◌∙◌, map, vec_items, All, refl, inl, inr}
use Rattle.std.proofs.lemmas.List.{length-map}
use Rattle.std.proofs.lemmas.List.Elements.{All-map}
use Rattle.sqlite.specs.Held.{state}
use Rattle.script_runner.specs.TaskOperators.{IsFresh, runs_of, refused_by, taken_by}
use Rattle.script_runner.specs.Teams.{IsWhole}
use Rattle.script_runner.proofs.LessLemmas.{by_team}
use Rattle.dagsched.proofs.DoneLemmas.{not_opened, script_less}
use Rattle.dagsched.proofs.scripts.run_by_team.Goals as goal

pub returns-in_default-clause-known : goal.returns-in_default-clause-known
returns-in_default-clause-known g c = inr (not_opened (state g.S.Store) c.args.store c.out_of_memory.result c.out_of_memory.ensures, refl, refl)

pub returns-in_default-clause-done : goal.returns-in_default-clause-done
returns-in_default-clause-done g c = inr (not_opened (state g.S.Store) c.args.store c.out_of_memory.result c.out_of_memory.ensures)

pub returns-in-Ok-run_team-clause-known : goal.returns-in-Ok-run_team-clause-known
returns-in-Ok-run_team-clause-known g c =
    let team = vec_items c.in-Ok.team in
    let made = c.in-Ok.ensures in
    let ran = c.in-Ok-run_team.ran in
    let run = rw c.get-2.ensures.value at c.in-Ok-run_team.ensures.run in
    inl
    (by_team (g.R.Read.remaining c.args.script.input) _ _ _ _ (λ _. Unit {0}) _ _ (λ _ is. is) (λ _ given. given) (λ _ _. tt) (λ _ shown. shown)
    (state g.S.Store) _ _ _ (λ both. both.0) c.args.options.now.workers c.args.options.now.lanes (state g.S.Store c.args.store) ran.store ran.status
    (map (λ w. w.0.items) team) ran.minutes.items (vec_items ran.ends) ran.outcome ran.told
    (length-map team (λ w. w.0.items) ∙ made.workers ∙ c.get.ensures.value) (All-map (IsWhole _) (λ w. w.0.items) team made.whole) (All-map (All (IsFresh (runs_of _) (refused_by _) (taken_by _))) (λ w. w.0.items) team made.fresh) run)

pub returns-in-Ok-run_team-clause-done : goal.returns-in-Ok-run_team-clause-done
returns-in-Ok-run_team-clause-done g c =
    let ran = c.in-Ok-run_team.ran in
    script_less (state g.S.Store) _ (g.R.Read.remaining c.args.script.input) g.F.Sources.gives g.W.Write.contents c.args.options.now c.args.script.sources c.args.script.output c.args.store ran.store ran.status ran.sources ran.output
    (returns-in-Ok-run_team-clause-known g c)

pub returns-in-Err-clause-done : goal.returns-in-Err-clause-done
returns-in-Err-clause-done g c =
    inr (
      c.in-Err.unopened.fault,
      record {
        cause = c.in-Err.ensures.fault;
        given = c.in-Err.ensures.given;
        kept = c.in-Err.ensures.kept;
        crash = c.in-Err.ensures.crash;
        refused_crash = c.in-Err.ensures.refused_crash;
      },
      c.put_failure-status.ensures,
    )

pub returns-in-Err-clause-known : goal.returns-in-Err-clause-known
returns-in-Err-clause-known g c =
    inr (
      (
        c.in-Err.unopened.fault,
        record {
          cause = c.in-Err.ensures.fault;
          given = c.in-Err.ensures.given;
          kept = c.in-Err.ensures.kept;
          crash = c.in-Err.ensures.crash;
          refused_crash = c.in-Err.ensures.refused_crash;
        },
        c.put_failure-status.ensures,
      ),
      c.in-Err.ensures.untouched.2,
      c.in-Err.ensures.untouched.1,
    )
