use Rattle.std.proofs.Common.{◌≡◌, ◌≤◌, ap, subst, ◌∙◌, List, OnOk, arith}
use Rattle.std.specs.List.{flat_map}
use Rattle.pddl_names.specs.Declarations.{with_new}
use Rattle.ground_world.specs.Counts.{soft_count, part_limit}
use Rattle.ground_world.specs.Shown.{env_of, world_of}
use Rattle.grounder.specs.ShownPreferences.{preferences_of, preferences_count}
use Rattle.grounder.specs.Terms.{PreferencePart, preference_parts, preference_atoms}
use Rattle.grounder.proofs.PreferenceSteps.{preference-counted}
use Rattle.grounder.proofs.mentioned_atoms.add_preference_atoms.Goals as goal

pub add_preference_parts-requires : goal.add_preference_parts-requires
add_preference_parts-requires c =
    let w = (world_of c.args.tables.now) in
    let e : preferences_of c.as_slice.result.now ≡ preference_parts w c.args.tree.now = ap preferences_of c.as_slice.ensures ∙ c.in_ok-parts.ensures in
    let k : preferences_count w (preferences_of c.as_slice.result.now) ≡ preferences_count w (preference_parts w c.args.tree.now) = ap (preferences_count w) e in
    let h : preferences_count w (preference_parts w c.args.tree.now) ≤ soft_count w c.args.tree.now = preference-counted w c.args.tree.now in
    let r : soft_count w c.args.tree.now ≤ part_limit = c.requires in
    omega arith

pub returns : goal.returns
returns c =
    subst (λ (l : List PreferencePart). OnOk c.add_preference_parts.result (c.add_preference_parts.new.atoms ≡ with_new c.args.atoms.now (flat_map (preference_atoms (world_of c.args.tables.now) (env_of c.args.env.now)) l)))
    (ap preferences_of c.as_slice.ensures ∙ c.in_ok-parts.ensures) c.add_preference_parts.ensures
