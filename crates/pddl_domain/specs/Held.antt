-- Private: what may be there, as a list of one or none.
use Rattle.std.specs.Prelude.{List, [], ◌∷◌, Option, Some, None}

abbrev pub held : {A : Type 0} → Option A → List A
held None = []
held (Some x) = x ∷ []
