-- Reports and restarts change open tries alone, and leave a sound try sound.
use Rattle.std.proofs.Common.{◌≡◌, refl, sym, ℕ, Bool, true, false, ◌==◌, if◌then◌else◌, Option, Some, None, unwrap_or, true≢false}
use Rattle.sched_model.specs.instance_machine.Reports.{report_try}
use Rattle.sched_model.specs.instance_machine.declared.tries.Try.{Try}
use Rattle.sched_model.specs.instance_machine.declared.tries.End.{End}
use Rattle.sched_model.specs.instance_machine.declared.tries.Stage.{Stage}
use Rattle.sched_model.specs.instance_machine.declared.tries.Stage.TheVariants.{Started, Ended}
use Rattle.sched_model.specs.instance_machine.declared.tries.Outcome.{Outcome}
use Rattle.sched_model.specs.instance_machine.declared.tries.Outcome.TheVariants as outcome
use Rattle.sched_model.proofs.sched_state.OrderLemmas.{and_left, and_right}
use Rattle.sched_model.specs.instance_machine.Reports.{reported_try, lost_if, lost_try}
use Rattle.sched_model.specs.Sound.{is_sound_try, is_sound_end, is_moment, has_end}
use Rattle.sched_laws.proofs.InstanceLemmas.{IsQuiet}
use Rattle.std.proofs.lemmas.Bool.{and_from}

abbrev try_of : ℕ → ℕ → Option ℕ → Option End → Try
try_of s k b e = record { serial = s; slots = k; started = b; ended = e }

-- v comes of u: not where u has an end
record Comes (u v : Try) : Type 0 where
  over : has_end u ≡ true → v ≡ u
  sound : (k : ℕ) → is_sound_try k u ≡ true → is_sound_try k v ≡ true
  serial : v.serial ≡ u.serial

stays : (u : Try) → Comes u u
stays u = record { over = λ e. refl; sound = λ k e. e; serial = refl }

starts : (s k now : ℕ) → is_moment now ≡ true → Comes (try_of s k None None) (try_of s k (Some now) None)
starts s k now m = record {
  over = λ e. absurd (true≢false (sym e));
  sound = λ n e. and_from _ _ (and_left _ _ e) (and_from _ _ m refl);
  serial = refl;
}

ends : (s k b now : ℕ) (o : Outcome) → is_sound_end (Some b) (Some (record { moment = now; outcome = o })) ≡ true → Comes (try_of s k (Some b) None) (try_of s k (Some b) (Some (record { moment = now; outcome = o })))
ends s k b now o m = record {
  over = λ e. absurd (true≢false (sym e));
  sound = λ n e. and_from _ _ (and_left _ _ e) (and_from _ _ (and_left _ _ (and_right (k == n) _ e)) m);
  serial = refl;
}

reports : (stage : Stage) (now : ℕ) → is_moment now ≡ true → (s k : ℕ) (b : Option ℕ) (e : Option End) → Comes (try_of s k b e) (unwrap_or (report_try stage now (try_of s k b e)) (try_of s k b e))
reports stage now m s k b (Some x) = stays (try_of s k b (Some x))
reports Started now m s k None None = starts s k now m
reports Started now m s k (Some b) None = stays (try_of s k (Some b) None)
reports (Ended o) now m s k None None = stays (try_of s k None None)
reports (Ended outcome.Success) now m s k (Some b) None = ends s k b now outcome.Success (and_from _ _ m refl)
reports (Ended outcome.Skipped) now m s k (Some b) None = ends s k b now outcome.Skipped (and_from _ _ m refl)
reports (Ended outcome.Failed) now m s k (Some b) None = ends s k b now outcome.Failed (and_from _ _ m refl)
reports (Ended outcome.Lost) now m s k (Some b) None = stays (try_of s k (Some b) None)

chosen : (b : Bool) (u v : Try) → Comes u v → Comes u (if b then v else u)
chosen true u v c = c
chosen false u v c = stays u

report_comes : (serial : ℕ) (stage : Stage) (now : ℕ) → is_moment now ≡ true → (u : Try) → Comes u (reported_try serial stage now u)
report_comes serial stage now m u = chosen (u.serial == serial) u (unwrap_or (report_try stage now u) u) (reports stage now m u.serial u.slots u.started u.ended)

lost_comes : (now : ℕ) → is_moment now ≡ true → (s k : ℕ) (b : Option ℕ) (e : Option End) → Comes (try_of s k b e) (lost_if now e (try_of s k b e))
lost_comes now m s k b (Some x) = stays (try_of s k b (Some x))
lost_comes now m s k b None = record {
  over = λ e. absurd (true≢false (sym e));
  sound = λ n e. and_from _ _ (and_left _ _ e) (and_from _ _ (and_left _ _ (and_right (k == n) _ e)) (and_from _ _ m refl));
  serial = refl;
}

quiet_of : (f : Try → Try) → ((u : Try) → Comes u (f u)) → IsQuiet f
quiet_of f c = record {
  over = λ u. let h = c u in h.over;
  sound = λ k u. let h = c u in h.sound k;
  serial = λ u. let h = c u in h.serial;
}

pub report_quiet : (serial : ℕ) (stage : Stage) (now : ℕ) → is_moment now ≡ true → IsQuiet (reported_try serial stage now)
report_quiet serial stage now m = quiet_of (reported_try serial stage now) (report_comes serial stage now m)

pub lost_quiet : (now : ℕ) → is_moment now ≡ true → IsQuiet (lost_try now)
lost_quiet now m = quiet_of (lost_try now) (λ u. lost_comes now m u.serial u.slots u.started u.ended)
