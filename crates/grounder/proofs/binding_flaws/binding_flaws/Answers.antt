use Rattle.std.proofs.Common.{ap, ap₂, ◌∙◌, List, ◌++◌}
use Rattle.std.specs.List.{flat_map}
use Rattle.ground_world.specs.Conditions.{Test, tests_in}
use Rattle.ground_world.specs.Shown.{env_of, world_of, parts_of}
use Rattle.ground_world.specs.ShownBounds.{bounds_of}
use Rattle.ground_world.specs.ShownChanges.{changes_of}
use Rattle.ground_world.specs.declared.changes.StagedChange.{StagedChange}
use Rattle.ground_world.specs.declared.durations.DurationBound.{DurationBound}
use Rattle.ground_world.specs.declared.operations.Flaw.{Flaw}
use Rattle.ground_world.specs.declared.parts.CondPart.{CondPart}
use Rattle.grounder.specs.Bindings.{bound_flaws, test_flaws, change_flaws}
use Rattle.grounder.proofs.PieceLists.{tests-among}
use Rattle.grounder.proofs.binding_flaws.binding_flaws.Goals as goal

pub returns : goal.returns
returns c =
    let w = world_of c.args.tables.now in
    let e = env_of c.args.env.now in
    let x = c.args.parts.now in
    let o = c.args.outline.now in
    let one = c.in_ok-push_of_bounds.ensures ∙ ap₂ (λ (l : List Flaw) (bs : List DurationBound). l ++ bound_flaws w e (bounds_of bs)) c.new-flaws.ensures c.as_slice.ensures in
    let two = c.in_ok-push_of_parts.ensures
    ∙ ap₂ (λ (l : List Flaw) (ps : List CondPart). l ++ test_flaws w (flat_map tests_in (parts_of ps))) one c.as_slice-2.ensures
    ∙ ap (λ (ts : List Test). bound_flaws w e (bounds_of o.bounds) ++ test_flaws w ts) (tests-among x) in
    c.in_ok-push_of_changes.ensures ∙ ap₂ (λ (l : List Flaw) (cs : List StagedChange). l ++ change_flaws w e (changes_of cs)) two c.as_slice-3.ensures
