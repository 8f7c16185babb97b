use Rattle.std.proofs.Common.{◌≡◌, refl, sym, ap, ◌∙◌, ℕ, min, Option, []}
use Rattle.std.specs.List.{list_all}
use Rattle.std.proofs.lemmas.Result.{IfOk-weaker}
use Rattle.pddl_terms.specs.declared.trees.ConForm.{ConForm}
use Rattle.ground_world.specs.World.{either}
use Rattle.ground_world.specs.Leaves.{constraint_leaves}
use Rattle.ground_world.specs.Counting.{constraint_fits}
use Rattle.ground_world.specs.Shown.{world_of}
use Rattle.ground_world.proofs.leaf_limits.some_constraints_fit.Goals as goal

pub returns-in-Some : goal.returns-in-Some
returns-in-Some c =
    let w = world_of c.args.tables.now in
    let own = λ (t : Option ConForm). list_all (constraint_fits w 1) (either [] constraint_leaves t) in
    IfOk-weaker c.constraint_fits.result
    (λ fit. (n : ℕ) → 1 ≡ min 1048577 n → fit ≡ list_all (constraint_fits w n) (constraint_leaves c.in-Some.tree))
    (λ fit. fit ≡ own c.args.tree.now)
    (λ fit h. h 1 refl ∙ ap own (sym c.in-Some.is)) c.constraint_fits.ensures

pub returns-in-None : goal.returns-in-None
returns-in-None c = ap (λ (t : Option ConForm). list_all (constraint_fits (world_of c.args.tables.now) 1) (either [] constraint_leaves t)) (sym c.in-None.is)
