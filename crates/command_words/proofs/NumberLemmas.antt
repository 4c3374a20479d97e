-- A number that clap reads is that of its text.
use Rattle.std.proofs.Common.{◌≡◌, ◌∙◌, ℕ, Bool, true, false, Option, Some, None, refl, ap, arith}
use Rattle.std.specs.Prelude.{Result, Ok, Err, option_and_then}
use Rattle.std.specs.Str.Parse.{ParsesUnsigned}
use Rattle.clap.specs.Words.{Text, ReadsOne, one_of, one_text, rows_of}
use Rattle.clap.specs.ValueTests.{accepts}
use Rattle.clap.specs.declared.builder.value_parser.ValueParser.TheVariants as vp
use Rattle.clap.specs.declared.parser.matches.Found.{Found}
use Rattle.clap.proofs.ValueTestLemmas.{accepts-Accepts, Accepts-accepts}
use Rattle.clap.proofs.WalkLemmas.{one_text-rows}
use Rattle.command_words.specs.Values.{number_of}

read_one : (E : Type 0) (G : Text → Result ℕ E → Type 0) → ((u : Text) (x : Result ℕ E) → G u x → ParsesUnsigned 32 10 u x)
    → (t : Text) (r : Option ℕ) → ReadsOne G t r → r ≡ number_of t
read_one E G only t (Some v) g =
    let p = only t (Ok v) g in
    let passes = Accepts-accepts false (vp.Unsigned 0 4294967295) t (p.0.0, omega arith, omega arith, omega arith) in
    rw passes (ap Some p.1)
read_one E G only t None g = go (accepts false (vp.Unsigned 0 4294967295) t) refl
  where
    go : (b : Bool) → accepts false (vp.Unsigned 0 4294967295) t ≡ b → None ≡ number_of t
    go true e =
        let a = accepts-Accepts false (vp.Unsigned 0 4294967295) t e in
        absurd (only t (Err g.0) g.1 (a.0, omega arith))
    go false e = rw e refl

pub number_read : (E : Type 0) (G : Text → Result ℕ E → Type 0) → ((u : Text) (x : Result ℕ E) → G u x → ParsesUnsigned 32 10 u x)
    → (f : Found) (id : Text) (r : Option ℕ) → (one_text f id ≡ None → r ≡ None) → ((t : Text) → one_text f id ≡ Some t → ReadsOne G t r)
    → r ≡ option_and_then number_of (one_of id (rows_of f))
number_read E G only f id r none value = go (one_text f id) refl ∙ ap (option_and_then number_of) (one_text-rows f id)
  where
    go : (o : Option Text) → one_text f id ≡ o → r ≡ option_and_then number_of (one_text f id)
    go None e = rw e (none e)
    go (Some t) e = rw e (read_one E G only t r (value t e))
