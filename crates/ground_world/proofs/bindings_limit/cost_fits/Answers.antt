use Rattle.std.proofs.Common.{refl, sym, ap, ◌∙◌}
use Rattle.std.specs.List.{list_all}
use Rattle.std.proofs.Math.Bool.{and-true}
use Rattle.pddl_terms.specs.declared.files.TimeCost.{TimeCost}
use Rattle.ground_world.specs.Leaves.{cost_of}
use Rattle.ground_world.specs.Counts.{fit_limits, formula_count}
use Rattle.ground_world.specs.Counting.{cost_fits}
use Rattle.ground_world.specs.Shown.{world_of}
use Rattle.ground_world.proofs.bindings_limit.cost_fits.Goals as goal

pub returns-in_ok-parts-in-Named : goal.returns-in_ok-parts-in-Named
returns-in_ok-parts-in-Named c =
    let w = world_of c.args.tables.now in
    let n = formula_count w c.in-Named.formula in
    c.fit_limits.ensures 1 n refl c.in_ok-parts-in-Named.ensures ∙ sym (and-true (fit_limits 1 n))
    ∙ ap (λ (t : TimeCost). list_all (cost_fits w) (cost_of t)) (sym c.in-Named.is)

pub returns-in-LeftOut : goal.returns-in-LeftOut
returns-in-LeftOut c = ap (λ (t : TimeCost). list_all (cost_fits (world_of c.args.tables.now)) (cost_of t)) (sym c.in-LeftOut.is)
