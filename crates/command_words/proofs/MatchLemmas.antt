-- The name and the rows of a subcommand, together.
use Rattle.std.proofs.Common.{◌≡◌, List, refl, Option, Some, None}
use Rattle.std.specs.Prelude.{option_map, Box}
use Rattle.std.specs.Box.{box_value}
use Rattle.clap.specs.Words.{Text, Row}
use Rattle.clap.specs.Simple.{subcommand_rows}
use Rattle.clap.specs.declared.parser.matches.ArgMatches.TheViews.{out-SubCommand}
use Rattle.clap.specs.declared.parser.matches.SubCommand.{SubCommand}

pub paired : {X : Type 0} (f : X → Text) (g : X → List Row) (o : Option X) (s : Option (Text × List Row))
    → option_map f o ≡ option_map (λ p. p.0) s → option_map g o ≡ option_map (λ p. p.1) s → option_map (λ x. (f x, g x)) o ≡ s
paired f g None None e h = refl
paired f g None (Some p) e h = cc
paired f g (Some x) None e h = cc
paired f g (Some x) (Some p) e h =
    let n : f x ≡ p.0 = cc in
    let r : g x ≡ p.1 = cc in
    rw (n, r) refl

pub name_of_rows : {Z : Type 0} (o : Option (Box SubCommand Z))
    → option_map (λ b. (out-SubCommand (box_value b)).name.now) o ≡ option_map (λ p. p.0) (subcommand_rows o)
name_of_rows None = refl
name_of_rows (Some b) = refl
