use Rattle.std.proofs.Common.{◌≡◌, subst, ◌++◌, Option}
use Rattle.std.specs.Prelude.{IfOk, OnOk}
use Rattle.exact_lin.specs.Forms.{LinearForm}
use Rattle.ground_world.specs.Expressions.{Unknowns, reckoned}
use Rattle.ground_world.specs.Shown.{env_of, world_of}
use Rattle.grounder.proofs.reckonings.reckon_alone.Goals as goal

pub returns-clause-value : goal.returns-clause-value
returns-clause-value c =
    subst (λ (us : Unknowns). IfOk c.reckon.result (λ (v : Option LinearForm). v ≡ (reckoned (world_of c.args.tables.now) us (env_of c.args.env.now) c.args.tree.now).value))
    c.no_names-names.ensures c.reckon.ensures.value

pub returns-clause-flaws : goal.returns-clause-flaws
returns-clause-flaws c =
    subst (λ (us : Unknowns). OnOk c.reckon.result (c.reckon.new.flaws ≡ c.args.flaws.now ++ (reckoned (world_of c.args.tables.now) us (env_of c.args.env.now) c.args.tree.now).flaws))
    c.no_names-names.ensures c.reckon.ensures.flaws
