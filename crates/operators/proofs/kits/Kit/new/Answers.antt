use Rattle.std.proofs.Common.{rules, ◌≡◌, [], ◌∷◌, ◌++◌, true, map, length, ap, sym, subst, ◌∙◌, All}
use Rattle.std.proofs.lemmas.List.{length-map}
use Rattle.operators.specs.Kits.{each_once, of_kind}
use Rattle.operators.proofs.Times.{three-long, are-three, each-of-three}
use Rattle.operators.proofs.kits.Kit.new.Goals as goal

pub arrange-requires : goal.arrange-requires
arrange-requires g c =
    let f = g.O.Operator.kind_of in
    let xs = c.args.operators.items in
    let a = c.in-Some-Some-Some.first in
    let b = c.in-Some-Some-Some.second in
    let d = c.in-Some-Some-Some.third in
    let once : each_once (map f xs) ≡ true = search rules in
    let three : length (map f xs) ≡ 3 = three-long (map f xs) once in
    let len : length xs ≡ 3 = sym (length-map xs f) ∙ three in
    let p : xs ≡ c.pop.new.self.items ++ d ∷ [] = search rules in
    let q : c.pop.new.self.items ≡ c.pop-2.new.self.items ++ b ∷ [] = search rules in
    let r : c.pop-2.new.self.items ≡ c.pop-3.new.self.items ++ a ∷ [] = search rules in
    let is : xs ≡ a ∷ b ∷ d ∷ [] = are-three xs c.pop.new.self.items c.pop-2.new.self.items c.pop-3.new.self.items a b d p q r len in
    ap (λ l. each_once (map f l)) (sym is) ∙ once

pub returns-clause-kit : goal.returns-clause-kit
returns-clause-kit g c =
    let f = g.O.Operator.kind_of in
    let xs = c.args.operators.items in
    let a = c.in-Some-Some-Some.first in
    let b = c.in-Some-Some-Some.second in
    let d = c.in-Some-Some-Some.third in
    let once : each_once (map f xs) ≡ true = search rules in
    let three : length (map f xs) ≡ 3 = three-long (map f xs) once in
    let len : length xs ≡ 3 = sym (length-map xs f) ∙ three in
    let p : xs ≡ c.pop.new.self.items ++ d ∷ [] = search rules in
    let q : c.pop.new.self.items ≡ c.pop-2.new.self.items ++ b ∷ [] = search rules in
    let r : c.pop-2.new.self.items ≡ c.pop-3.new.self.items ++ a ∷ [] = search rules in
    let is : xs ≡ a ∷ b ∷ d ∷ [] = are-three xs c.pop.new.self.items c.pop-2.new.self.items c.pop-3.new.self.items a b d p q r len in
    let all : All (λ x. of_kind c.arrange.result (f x) ≡ x) (a ∷ b ∷ d ∷ []) = each-of-three (λ x. of_kind c.arrange.result (f x) ≡ x) a b d c.arrange.ensures.all.0 c.arrange.ensures.all.1 c.arrange.ensures.all.2 in
    (c.arrange.ensures.kit, subst (λ l. All (λ x. of_kind c.arrange.result (f x) ≡ x) l) (sym is) all)
