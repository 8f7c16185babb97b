use Rattle.std.proofs.Common.{◌∙◌, ap, sym, [], ◌++◌}
use Rattle.std.specs.Option.{option_map_or}
use Rattle.pddl_names.specs.Declarations.{with_new}
use Rattle.pddl_names.specs.Files.{constraint_preferences, goal_preferences}
use Rattle.pddl_names.proofs.Doubling.{with_new-append}
use Rattle.pddl_names.proofs.preferences.add_preferences.Goals as goal

pub returns : goal.returns
returns c =
    let before = c.args.names.now in
    let first = option_map_or constraint_preferences c.args.always.now [] in
    let asked = goal_preferences c.args.goal.now in
    let last = option_map_or constraint_preferences c.args.constraints.now [] in
    c.in_ok-note_constraints-2.ensures ∙ ap (λ l. with_new l last) (c.in_ok-note_goal.ensures ∙ ap (λ l. with_new l asked) c.in_ok-note_constraints.ensures)
    ∙ ap (λ l. with_new l last) (sym (with_new-append before first asked)) ∙ sym (with_new-append before (first ++ asked) last)
