-- What is added to a command that was built.
use Rattle.std.proofs.Common.{◌≡◌, Result, Ok, Err, IfOk, IsOkAnd, ap, ◌∙◌}
use Rattle.clap.specs.Words.{App, Rule, with_rule, with_subcommand}

module _ {T E : Type 0} (app_of : T → App) where
  pub takes : (built result : Result T E) (app : App) {is rule : Rule} → is ≡ rule → IfOk built (λ c. app_of c ≡ app)
      → IfOk result (λ r. IsOkAnd built (λ c. app_of r ≡ with_rule (app_of c) is)) → IfOk result (λ r. app_of r ≡ with_rule app rule)
  takes (Ok c) (Ok r) app {is} {rule} same old new = new ∙ ap (λ a. with_rule a is) old ∙ ap (λ x. with_rule app x) same
  takes (Err e) (Ok r) app same old new = absurd new
  takes (Ok c) (Err e) app same old new = tt
  takes (Err d) (Err e) app same old new = tt

  pub holds : (built added result : Result T E) (app sub : App) → IfOk built (λ c. app_of c ≡ app) → IfOk added (λ c. app_of c ≡ sub)
      → IfOk result (λ r. IsOkAnd built (λ c. IsOkAnd added (λ a. app_of r ≡ with_subcommand (app_of c) (app_of a).top))) → IfOk result (λ r. app_of r ≡ with_subcommand app sub.top)
  holds (Ok c) (Ok a) (Ok r) app sub old under new = new ∙ ap (λ x. with_subcommand (app_of c) x.top) under ∙ ap (λ x. with_subcommand x sub.top) old
  holds (Ok c) (Err d) (Ok r) app sub old under new = absurd new
  holds (Err e) added (Ok r) app sub old under new = absurd new
  holds built added (Err e) app sub old under new = tt
