use Rattle.std.proofs.Common.{sym, ◌∙◌}
use Rattle.ground_world.proofs.FirstDeclared.{lists-there, lists-new}
use Rattle.ground_world.proofs.firsts.Firsts.add.Goals as goal

pub returns-then-has : goal.returns-then-has
returns-then-has g c = lists-there c.args.self.now.names c.args.self.now.values c.args.name.now c.args.value (sym c.has.ensures ∙ c.if-has.true)

pub returns : goal.returns
returns g c =
    lists-new c.args.self.now.names _ c.args.self.now.values _ c.args.name.now c.args.value (sym c.has.ensures ∙ c.if-has.false) c.in_ok-add.ensures c.in_ok-push.ensures.ok
