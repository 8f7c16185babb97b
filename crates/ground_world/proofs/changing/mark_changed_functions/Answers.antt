use Rattle.std.proofs.Common.{List, take, ◌++◌, ap, sym, subst, ◌∙◌}
use Rattle.std.specs.List.{flat_map}
use Rattle.std.proofs.lemmas.List.Folds.{flat_map-map}
use Rattle.pddl_terms.specs.declared.files.ActionDef.{ActionDef}
use Rattle.pddl_names.specs.Declarations.{Text}
use Rattle.ground_world.specs.Changes as changes
use Rattle.ground_world.specs.Changes.{Staged}
use Rattle.ground_world.specs.FirstState.{changed_function}
use Rattle.ground_world.specs.ShownChanges.{change_of, changes_of}
use Rattle.ground_world.specs.Building.{Marks}
use Rattle.ground_world.specs.declared.changes.StagedChange.{StagedChange}
use Rattle.ground_world.proofs.Marking.{marks_none, marks_loop}
use Rattle.ground_world.proofs.changing.mark_changed_functions.Goals as goal

pub loop-action-init : goal.loop-action-init
loop-action-init c = λ before h. marks_none _ _ before h

pub loop-action-preserved : goal.loop-action-preserved
loop-action-preserved c = λ before h.
    let part : Staged changes.Change → List Text = λ s. changed_function s.part in
    let own : ActionDef → List Text = λ a. flat_map part (changes.changes a) in
    let done : List Text = before ++ flat_map own (take c.loop-action.action-index c.args.actions.now) in
    let same = ap (λ (cs : List StagedChange). flat_map (λ s. changed_function (change_of s.change)) cs) c.as_slice.ensures
    ∙ sym (flat_map-map part (λ (s : StagedChange). record { stage = s.stage; part = change_of s.change }) c.in_ok-found.found)
    ∙ ap (flat_map part) c.in_ok-found.ensures in
    marks_loop own c.args.names.now _ before c.args.actions.now c.loop-action.action-index c.action-item.result c.loop-action-test.true c.action-item.is
    (subst (λ (l : List Text). Marks c.args.names.now c.mark_functions.new.places (done ++ l)) same
    (c.in_ok-mark_functions.ensures done (c.loop-action.invariant before h)))
