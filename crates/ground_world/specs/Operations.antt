-- Private: the operations of expressions by their names, and what the code's operands stand for.
use Rattle.std.specs.Prelude.{ℕ, if◌then◌else◌, List, [], ◌∷◌, ◌++◌, Option, Some, None}
use Rattle.exact_lin.specs.Forms.{LinearForm}
use Rattle.ground_world.specs.World.{either}
use Rattle.ground_world.specs.Expressions.{Reckoned, one_by_one, sum_forms, product_forms, minus_form, quotient_form}
use Rattle.ground_world.specs.Conditions.{difference_form}
use Rattle.ground_world.specs.declared.operations.Operation.{Operation}
use Rattle.ground_world.specs.declared.operations.Operation.TheVariants.{Sum, Product, Minus, Quotient, Sides}
use Rattle.ground_world.specs.declared.operations.Operands.{Operands}

abbrev pub operation : Operation → List LinearForm → Option LinearForm
operation Sum forms = one_by_one sum_forms forms
operation Product forms = one_by_one product_forms forms
operation Minus forms = minus_form forms
operation Quotient forms = quotient_form forms
operation (Sides order) forms = difference_form order forms

-- the values of some operands, where all have one
abbrev pub operands_of : Operands → Option (List LinearForm)
operands_of o = if o.lacking then None else Some o.forms

-- one operand more
abbrev pub joined : Option (List LinearForm) → Option LinearForm → Option (List LinearForm)
joined forms value = either None (λ fs. either None (λ f. Some (fs ++ (f ∷ []))) value) forms

-- a value by itself, of an operand that begins at a place
abbrev pub bare : ℕ → Option LinearForm → Reckoned
bare at value = record { place = at; value = value; flaws = [] }
