-- What a script has shown, after more was put.
use Rattle.std.proofs.Common.{◌≡◌, ◌∙◌, ◌&&◌, ℕ, max, Bool, true, false, true≢false, List, [], ◌∷◌, ◌++◌, Option, Some, None, is_some, Result, Ok, Err, is_err, is_ok, OnOk, MatchResult, refl, sym, ap, subst, append_assoc, append-nil}
use Rattle.std.specs.Prelude.{IsOk}
use Rattle.std.specs.Io.KnownBytes.{Appends, Keeps}
use Rattle.sched_model.specs.Schedule.{Schedule}
use Rattle.script_commands.specs.Commands.{Request}
use Rattle.answer_lines.specs.sessions.declared.line_reading.Line.{Line}
use Rattle.script_reader.specs.Answers.{IsPut}
use Rattle.script_reader.specs.Commands.{Answered, Does}
use Rattle.script_reader.specs.Done.{FileAnswer}
use Rattle.script_reader.specs.declared.answers.Answers.{Answers}

-- what is written one after another
pub appends_then : (a b c : Option (List ℕ)) (xs ys : List ℕ) → Appends a b xs → Appends b c ys → Appends a c (xs ++ ys)
appends_then None b c xs ys p q = tt
appends_then (Some first) None c xs ys p q = absurd p
appends_then (Some first) (Some second) None xs ys p q = absurd q
appends_then (Some first) (Some second) (Some third) xs ys p q = q ∙ ap (λ l. l ++ ys) p ∙ append_assoc first xs ys

pub appends_keep : (a b c : Option (List ℕ)) (xs : List ℕ) → Appends a b xs → Keeps b c → Appends a c xs
appends_keep None b c xs p q = tt
appends_keep (Some first) None c xs p q = absurd p
appends_keep (Some first) (Some second) None xs p q = absurd q
appends_keep (Some first) (Some second) (Some third) xs p q = q ∙ p

-- what is kept is the same with nothing behind it
pub keeps_appends : (a b : Option (List ℕ)) → Keeps a b → Appends a b []
keeps_appends None b p = tt
keeps_appends (Some first) None p = absurd p
keeps_appends (Some first) (Some second) p = p ∙ sym (append-nil first)

-- nothing was written
pub appends_nothing : (a : Option (List ℕ)) → Appends a a []
appends_nothing None = tt
appends_nothing (Some bytes) = sym (append-nil bytes)

pub first_of : (b c : Bool) → (b && c) ≡ true → b ≡ true
first_of true c e = refl
first_of false c e = e

pub second_of : (b c : Bool) → (b && c) ≡ true → c ≡ true
second_of true c e = e
second_of false c e = absurd (true≢false (sym e))

pub with_true : (b : Bool) → (b && true) ≡ b
with_true true = refl
with_true false = refl

pub with_false : (b : Bool) → (b && false) ≡ false
with_false true = refl
with_false false = refl

-- it was written, where nothing was failed in
pub put_fine : {A B E F : Type 0} (put : Result A E) (r : Result B F) (was now : Option F) → is_err r ≡ is_err put → MatchResult r (λ _. now ≡ was) (λ fault. now ≡ Some fault) → is_some now ≡ false → is_ok put ≡ true
put_fine (Ok v) r was now same failed sound = refl
put_fine (Err e) (Ok v) was now same failed sound = absurd (true≢false (sym same))
put_fine (Err e) (Err f) was now same failed sound = absurd (true≢false (sym (ap is_some failed) ∙ sound))

pub on_ok : {T E : Type 0} (P : Type 0) (r : Result T E) → is_ok r ≡ true → OnOk r P → P
on_ok P (Ok v) well p = p
on_ok P (Err e) well p = absurd (true≢false (sym well))

-- a run that ended well puts nothing last
pub well_so : {A F T E : Type 0} (o : Result A F) (r : Result T E) (was now : Bool) → OnOk o (IsOk r) → now ≡ (was && is_ok r) → OnOk o (now ≡ was)
well_so (Ok v) (Ok u) was now ok is = is ∙ with_true was
well_so (Ok v) (Err e) was now ok is = absurd (true≢false (sym ok))
well_so (Err f) r was now ok is = tt

module _ {W P : Type 0} (contents : W → Option (List ℕ)) where
  -- what was put so was counted
  pub counted_put : {T E : Type 0} (text : List ℕ) (status : ℕ) (put r : Result T E) (old mid new : Answers W P) → OnOk put (Appends (contents old.output) (contents mid.output) text) → mid.status ≡ old.status → mid.is_written ≡ old.is_written
      → new ≡ record mid { status = max mid.status status; is_written = mid.is_written && is_ok put } → r ≡ put → IsPut contents text status r old new
  counted_put {T} {E} text status put r old mid new shown s w is same =
      subst (λ (x : Result T E). IsPut contents text status x old new) (sym same)
      (record {
        status_is = ap (λ (a : Answers W P). a.status) is ∙ ap (λ n. max n status) s;
        written_is = ap (λ (a : Answers W P). a.is_written) is ∙ ap (λ b. b && is_ok put) w;
        shown = subst (λ (o : W). OnOk put (Appends (contents old.output) (contents o) text)) (sym (ap (λ (a : Answers W P). a.output) is)) shown;
      })

  -- what was shown before is shown, and then this
  pub put_more : {T E : Type 0} (first : Option (List ℕ)) (text : List ℕ) (status : ℕ) (put : Result T E) (old new : Answers W P) (xs : List ℕ) → IsPut contents text status put old new
      → (old.is_written ≡ true → Appends first (contents old.output) xs) → new.is_written ≡ true → Appends first (contents new.output) (xs ++ text)
  put_more first text status put old new xs p before written =
      let both : (old.is_written && is_ok put) ≡ true = sym p.written_is ∙ written in
      appends_then first (contents old.output) (contents new.output) xs text (before (first_of old.is_written (is_ok put) both)) (on_ok _ put (second_of old.is_written (is_ok put) both) p.shown)

  -- what was written before is, where this is
  pub still_written : {T E : Type 0} (text : List ℕ) (status : ℕ) (put : Result T E) (old new : Answers W P) → IsPut contents text status put old new → is_ok put ≡ true → new.is_written ≡ old.is_written
  still_written text status put old new p well = p.written_is ∙ ap (λ b. old.is_written && b) well ∙ with_true old.is_written

  -- a command whose answer was put so leaves no line
  pub done_so : {U E : Type 0} (a : Schedule) (asked : Request) (texts : List FileAnswer) (put : Result U E) (r : Result (Option Line) E) (old new : Answers W P)
      → MatchResult put (λ _. r ≡ Ok None) (λ error. r ≡ Err error) → Answered contents a asked texts put old new → Does contents a asked texts r old new
  done_so {U} {E} a asked texts (Ok u) r old new same (status, shown, is, p) = subst (λ (x : Result (Option Line) E). Does contents a asked texts x old new) (sym same) (status, shown, is, record { status_is = p.status_is; written_is = p.written_is; shown = p.shown })
  done_so {U} {E} a asked texts (Err e) r old new same (status, shown, is, p) = subst (λ (x : Result (Option Line) E). Does contents a asked texts x old new) (sym same) (status, shown, is, record { status_is = p.status_is; written_is = p.written_is; shown = p.shown })
