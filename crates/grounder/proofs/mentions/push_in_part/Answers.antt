use Rattle.std.proofs.Common.{◌≡◌, sym, ap, subst, ◌∙◌, ℕ, OnOk, List, ◌++◌}
use Rattle.std.specs.List.{flat_map}
use Rattle.std.proofs.lemmas.List.{append-nil}
use Rattle.ground_world.specs.World.{GroundAtom}
use Rattle.ground_world.specs.Conditions.{tests_in}
use Rattle.ground_world.specs.FirstState.{unvalued_places}
use Rattle.ground_world.specs.Shown.{world_of, part_of, test_of}
use Rattle.ground_world.specs.declared.parts.CondPart.{CondPart}
use Rattle.grounder.specs.Instances.{test_mentions}
use Rattle.grounder.proofs.mentions.push_in_part.Goals as goal

pub returns-in-Compares : goal.returns-in-Compares
returns-in-Compares c =
    let w = world_of c.args.tables.now in
    subst (λ (l : List (ℕ × GroundAtom)). OnOk c.push_test_unvalued.result (c.push_test_unvalued.new.out ≡ c.args.out.now ++ unvalued_places w l))
    (sym (append-nil (test_mentions w (test_of c.in-Compares.test))) ∙ sym (ap (λ (p : CondPart). flat_map (test_mentions w) (tests_in (part_of p))) c.in-Compares.is))
    c.push_test_unvalued.ensures
