use Rattle.std.proofs.Common.{ap, ap₂, ◌∙◌, ℕ, List, ◌++◌}
use Rattle.std.specs.List.{flat_map}
use Rattle.ground_world.specs.FirstState.{unvalued_places}
use Rattle.ground_world.specs.Conditions.{Test, tests_in}
use Rattle.ground_world.specs.Expressions.{mentioned}
use Rattle.ground_world.specs.Shown.{env_of, world_of, parts_of}
use Rattle.ground_world.specs.ShownBounds.{bounds_of}
use Rattle.ground_world.specs.ShownChanges.{changes_of}
use Rattle.ground_world.specs.ShownParts.{staged_parts_of}
use Rattle.ground_world.specs.declared.changes.StagedChange.{StagedChange}
use Rattle.ground_world.specs.declared.durations.DurationBound.{DurationBound}
use Rattle.ground_world.specs.declared.parts.CondPart.{CondPart}
use Rattle.grounder.specs.Instances.{test_mentions, change_mentions}
use Rattle.grounder.specs.Bindings.{tests_among}
use Rattle.grounder.proofs.MentionSteps.{valued-by}
use Rattle.grounder.proofs.PieceLists.{tests-among}
use Rattle.grounder.proofs.mentions.has_values.Goals as goal

pub returns : goal.returns
returns c =
    let w = world_of c.args.tables.now in
    let e = env_of c.args.env.now in
    let x = c.args.parts.now in
    let o = c.args.outline.now in
    valued-by w (flat_map (λ l. mentioned w e l.expression) (bounds_of o.bounds)) (flat_map (test_mentions w) (tests_among (staged_parts_of x)))
    (flat_map (λ y. change_mentions w e y.part) (changes_of o.changes)) c.push_in_bounds.new.out c.push_in_parts.new.out c.push_in_changes.new.out c.is_empty.result
    (c.in_ok-push_in_bounds.ensures
    ∙ ap₂ (λ (l : List ℕ) (bs : List DurationBound). l ++ unvalued_places w (flat_map (λ b. mentioned w e b.expression) (bounds_of bs))) c.new-places.ensures c.as_slice.ensures)
    (c.in_ok-push_in_parts.ensures
    ∙ ap (λ (ps : List CondPart). c.push_in_bounds.new.out ++ unvalued_places w (flat_map (test_mentions w) (flat_map tests_in (parts_of ps)))) c.as_slice-2.ensures
    ∙ ap (λ (ts : List Test). c.push_in_bounds.new.out ++ unvalued_places w (flat_map (test_mentions w) ts)) (tests-among x))
    (c.in_ok-push_in_changes.ensures
    ∙ ap (λ (cs : List StagedChange). c.push_in_parts.new.out ++ unvalued_places w (flat_map (λ y. change_mentions w e y.part) (changes_of cs))) c.as_slice-3.ensures)
    c.is_empty.ensures
