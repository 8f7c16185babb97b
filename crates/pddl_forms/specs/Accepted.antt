-- Believed: what domains and problems without an offence keep to, for those that build on them.
use Rattle.std.specs.Prelude.{◌≡◌, ◌+◌, ◌≤◌, false, List, [], ◌∷◌, ◌++◌, length}
use Rattle.std.specs.List.{list_any, AllByRecursion}
use Rattle.rational.specs.Rational.{zeroℚ, ◌<ℚ◌}
use Rattle.pddl_terms.specs.declared.files.Domain.{Domain}
use Rattle.pddl_terms.specs.declared.files.Problem.{Problem}
use Rattle.pddl_terms.specs.declared.files.TimedLiteral.{TimedLiteral}
use Rattle.pddl_forms.specs.TimedLiterals.{timed_literals, contradict}
use Rattle.pddl_forms.specs.Forms.{problem_forms}
use Rattle.pddl_forms.specs.Limits.{objects_limit, parameters_limit, names_in, domain_limits, problem_limits}

abbrev pub MomentsLieAboveZero : Type 0
MomentsLieAboveZero = (d : Domain) (p : Problem) → problem_forms d p ≡ []
    → AllByRecursion (λ l. zeroℚ <ℚ l.moment) (timed_literals p.init)

abbrev pub LiteralsAgree : Type 0
LiteralsAgree = (d : Domain) (p : Problem) → problem_forms d p ≡ []
    → (before behind : List TimedLiteral) (l : TimedLiteral) → timed_literals p.init ≡ before ++ l ∷ behind
    → list_any (contradict l) before ≡ false

abbrev pub ParametersAreFew : Type 0
ParametersAreFew = (d : Domain) → domain_limits d ≡ []
    → AllByRecursion (λ a. length (names_in a.parameters) ≤ parameters_limit) d.actions

abbrev pub ObjectsAreFew : Type 0
ObjectsAreFew = (d : Domain) (p : Problem) → domain_limits d ≡ [] → problem_limits d p ≡ []
    → length (names_in d.constants) + length (names_in p.objects) ≤ objects_limit
