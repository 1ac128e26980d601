use Rattle.std.proofs.Common.{◌≡◌, ℕ, ◌+◌, cond, List, [], ◌∷◌, refl, ap, ◌∙◌, rules, tests}
use Rattle.std.specs.List.{position_from}
use Rattle.std.proofs.lemmas.Iterator.{YieldsList-from_slice}
use Rattle.std.proofs.lemmas.Iterator.Adapters.{position_from-zero}
use Rattle.std.proofs.lemmas.Iterator.Search.{position_from_yields_List}
use Rattle.forms.specs.declared.contents.GroupName.{GroupName}
use Rattle.groups.specs.Groups.{groups_of, same_name, number_of}
use Rattle.groups.specs.declared.kept.Group.{Group}
use Rattle.groups.proofs.kept.GroupTable.find.Goals as goal

number : (name : GroupName) (n : ℕ) (gs : List Group) → position_from (λ g. same_name g.name name) n gs ≡ number_of name n gs
number name n [] = refl
number name n (g ∷ gs) = ap (cond (same_name g.name name) _) (number name (n + 1) gs)

pub returns-clause-value : goal.returns-clause-value
returns-clause-value c =
    let groups = groups_of c.args.self.now in
    position_from_yields_List (λ g. same_name g.name c.args.name) _ _ c.position.result c.position.ensures.ran (YieldsList-from_slice groups (c.iter.ensures.rest ∙ c.groups.ensures)) (λ x b q k. search (rules, tests))
    ∙ position_from-zero (λ g. same_name g.name c.args.name) groups
    ∙ number c.args.name 0 groups
