use Rattle.std.proofs.Common.{◌≡◌, ap, subst, ◌∙◌, List, ◌++◌, map, OnOk, false}
use Rattle.std.specs.List.{flat_map}
use Rattle.std.proofs.lemmas.List.{map-id}
use Rattle.pddl_names.specs.Declarations.{with_new}
use Rattle.ground_world.specs.Conditions.{Part, condition_parts}
use Rattle.ground_world.specs.declared.parts.CondPart.{CondPart}
use Rattle.ground_world.specs.Shown.{env_of, world_of, parts_of, turned}
use Rattle.grounder.specs.Terms.{part_atoms}
use Rattle.grounder.proofs.mentioned_atoms.add_condition_atoms.Goals as goal

pub returns : goal.returns
returns c =
    let ps = condition_parts (world_of c.args.tables.now) (env_of c.args.env.now) c.args.condition.now in
    subst (λ (l : List Part). OnOk c.add_part_atoms.result (c.add_part_atoms.new.atoms ≡ with_new c.args.atoms.now (flat_map part_atoms l)))
    (ap parts_of c.as_slice.ensures ∙ c.in_ok-push_parts.ensures ∙ ap (λ (l : List CondPart). parts_of l ++ map (turned false) ps) c.new-parts.ensures ∙ map-id ps)
    c.add_part_atoms.ensures
