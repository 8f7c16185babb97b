-- Believed: what follows from the definition of which type fits which, and of the first offence.
use Rattle.std.specs.Prelude.{◌≡◌, ◌≤◌, ◌<◌, true, false, List, [], ◌∷◌, ◌++◌, All, Some, None, ◌↔◌}
use Rattle.pddl_names.specs.declared.offences.Offence.{Offence}
use Rattle.pddl_names.specs.Declarations.{Text, Typed}
use Rattle.pddl_names.specs.Fitting.{is_nothing, fits}
use Rattle.pddl_names.specs.Offences.{least}

-- Each type fits itself, and what fits a type that isn't left out fits what that type fits, also in a ring of types.
pub record FittingIsAnOrder (types : List Typed) (t u v : Text) : Type 0 where
  pub itself : fits types t t ≡ true
  pub onward : is_nothing u ≡ false → fits types t u ≡ true → fits types u v ≡ true → fits types t v ≡ true

-- one of the offences, none of which stands at a lesser place, and none before it in the list at the same place
pub record IsFirst (offences : List Offence) (o : Offence) : Type 0 where
  pub before : List Offence
  pub behind : List Offence
  pub whole : offences ≡ before ++ (o ∷ behind)
  pub all : All (λ x. o.place ≤ x.place) offences
  pub apart : All (λ x. o.place < x.place) before

-- The least offence of a list is its first, and there is none exactly where the list is empty.
pub record LeastIsFirst (offences : List Offence) (o : Offence) : Type 0 where
  pub some : least offences ≡ Some o → IsFirst offences o
  pub none : (least offences ≡ None) ↔ (offences ≡ [])
