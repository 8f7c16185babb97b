use Rattle.std.proofs.Common.{◌≡◌, ◌∙◌, sym, ap, subst, List, ℕ, OnOk}
use Rattle.pddl_names.specs.Declarations.{Text, with_first}
use Rattle.ground_world.specs.Building.{Lists, column_of}
use Rattle.ground_world.proofs.FirstDeclared.{lists-there}
use Rattle.ground_world.proofs.columns.add_column.Goals as goal

pub returns-then-has : goal.returns-then-has
returns-then-has c = lists-there c.args.columns.now.names c.args.columns.now.values c.args.sort.now _ (sym c.has.ensures ∙ c.if-has.true)

pub returns : goal.returns
returns c =
    subst (λ (l : List ℕ). OnOk c.add.result ((es : List (Text × List ℕ)) → Lists c.args.columns.now.names c.args.columns.now.values es
    → Lists c.add.new.self.names c.add.new.self.values (with_first es (c.args.sort.now, l))))
    c.in_ok-places.ensures c.add.ensures
