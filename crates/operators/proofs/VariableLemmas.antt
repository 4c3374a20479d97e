-- The values of variables that stand in two lists.
use Rattle.std.proofs.Common.{◌≡◌, ◌∙◌, Bool, true, false, cond, List, [], ◌∷◌, ◌++◌, Option, Some, option_map, ℕ, refl, sym, ap, take, drop}
use Rattle.std.specs.List.{find}
use Rattle.std.specs.Option.{option_or}
use Rattle.std.specs.Str.{bytes_eq}
use Rattle.sched_state.specs.declared.jobs.Job.{Job}
use Rattle.operators.specs.Variables.{VariableText, variables_of, value_of}

-- what a command says of a name once these variables are set over what it said
abbrev pub said : List ℕ → List VariableText → Option (Option (List ℕ)) → Option (Option (List ℕ))
said name vs old = option_or (option_map (λ v. Some v) (value_of name vs)) old

pub said_both : (name : List ℕ) (xs ys : List VariableText) (old : Option (Option (List ℕ))) → said name xs (said name ys old) ≡ said name (xs ++ ys) old
said_both name [] ys old = refl
said_both name (x ∷ xs) ys old = by (bytes_eq x.name name) refl (said_both name xs ys old)
  where
    found : Bool → List VariableText → Option VariableText
    found b zs = cond b (Some x) (find (λ (v : VariableText). bytes_eq v.name name) zs)

    over : Bool → List VariableText → Option (Option (List ℕ)) → Option (Option (List ℕ))
    over b zs o = option_or (option_map (λ v. Some v) (option_map (λ (v : VariableText). v.value) (found b zs))) o

    by : (b : Bool) → bytes_eq x.name name ≡ b → said name xs (said name ys old) ≡ said name (xs ++ ys) old → over (bytes_eq x.name name) xs (said name ys old) ≡ over (bytes_eq x.name name) (xs ++ ys) old
    by true e rest = ap (λ b. over b xs (said name ys old)) e ∙ sym (ap (λ b. over b (xs ++ ys) old) e)
    by false e rest = ap (λ b. over b xs (said name ys old)) e ∙ (rest ∙ sym (ap (λ b. over b (xs ++ ys) old) e))

-- those of a try are told in two parts
pub said_of_try : (name : List ℕ) (job : Job) (folder : List ℕ) (old : Option (Option (List ℕ))) → said name (take 5 (variables_of job [])) (said name (drop 5 (variables_of job folder)) old) ≡ said name (variables_of job folder) old
said_of_try name job folder old = said_both name (take 5 (variables_of job [])) (drop 5 (variables_of job folder)) old
