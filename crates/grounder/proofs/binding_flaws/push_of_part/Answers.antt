use Rattle.std.proofs.Common.{◌≡◌, sym, ap, subst, ◌∙◌, OnOk, List, ◌++◌}
use Rattle.std.proofs.lemmas.List.{append-nil}
use Rattle.ground_world.specs.Conditions.{tests_in, difference}
use Rattle.ground_world.specs.Shown.{world_of, part_of, test_of}
use Rattle.ground_world.specs.declared.operations.Flaw.{Flaw}
use Rattle.ground_world.specs.declared.parts.CondPart.{CondPart}
use Rattle.grounder.specs.Instances.{no_unknowns}
use Rattle.grounder.specs.Bindings.{test_flaws}
use Rattle.grounder.proofs.binding_flaws.push_of_part.Goals as goal

pub returns-in-Compares : goal.returns-in-Compares
returns-in-Compares c =
    let w = world_of c.args.tables.now in
    subst (λ (l : List Flaw). OnOk c.push_of_test.result (c.push_of_test.new.flaws ≡ c.args.flaws.now ++ l))
    (sym (append-nil (difference w no_unknowns (test_of c.in-Compares.test)).flaws) ∙ sym (ap (λ (p : CondPart). test_flaws w (tests_in (part_of p))) c.in-Compares.is))
    c.push_of_test.ensures
