-- Believed: what is claimed of domains and problems in which no phase finds an offence, and of those that readers accept.
use Rattle.std.specs.Prelude.{ℕ, ◌*◌, ◌≤◌, IsTrue, List, length}
use Rattle.std.specs.List.{AllByRecursion, flat_map, list_all}
use Rattle.task_types.specs.WellMade.{is_task_name}
use Rattle.pddl_terms.specs.declared.files.ActionDef.{ActionDef}
use Rattle.pddl_terms.specs.declared.files.Domain.{Domain}
use Rattle.pddl_terms.specs.declared.files.Problem.{Problem}
use Rattle.pddl_names.specs.Declarations.{Signature, declared_predicates, declared_functions}
use Rattle.pddl_names.specs.Calls.{names_of}
use Rattle.pddl_names.specs.Files.{texts_of}
use Rattle.pddl_domain.specs.Accepted.{action_names}
use Rattle.pddl_domain.specs.Readings.{IsDomain}
use Rattle.pddl_problem.specs.Readings.{IsProblem}
use Rattle.ground_world.specs.FirstState.{given_value, world}
use Rattle.ground_world.specs.Changes.{changes}
use Rattle.ground_world.specs.Conditions.{body_bounds}
use Rattle.ground_world.specs.Leaves.{costs}
use Rattle.grounder.specs.Instances.{instances_of}
use Rattle.grounder.specs.Accepted.{is_binding, instance_atoms, curve_fits, IsAccepted}
use Rattle.grounder.specs.Task.{mentioned_atoms, timings}
use Rattle.accepted_files.specs.Clean.{IsClean, TypesAreNamed}

-- Every ground atom is a binding of its predicate, and every fluent with a value of its function: those of each binding of
-- an action, those that goal and constraints mention, those of `:init`.
pub record AtomsAreBindings (d : Domain) (p : Problem) : Type 0 where
  pub bound : IsTrue (list_all (λ a. list_all (λ i. list_all (is_binding (world d p) d.predicates) (instance_atoms (world d p) i)) (instances_of (world d p) a)) d.actions)
  pub mentioned : IsTrue (list_all (is_binding (world d p) d.predicates) (mentioned_atoms (world d p) d p))
  pub valued : IsTrue (list_all (λ e. is_binding (world d p) d.functions e.0) (flat_map (given_value (world d p)) p.init))
  pub timed : IsTrue (list_all (λ l. is_binding (world d p) d.predicates l.atom) (timings (world d p) p.init))

abbrev pub CleanAtomsAreBindings : Type 0
CleanAtomsAreBindings = (d : Domain) (p : Problem) → IsClean d p → TypesAreNamed d → AtomsAreBindings d p

-- ---- what readers accept

-- No name, no type, no form and no limit is wrong.
abbrev pub AcceptedFilesAreClean : Type 0
AcceptedFilesAreClean = (domain problem : List ℕ) (d : Domain) (p : Problem) → IsDomain domain d → IsProblem d problem p → IsClean d p

-- The names of types, constants, objects and actions are names of a task: in lower case, not empty and not too long.
pub record HaveTaskNames (d : Domain) (p : Problem) : Type 0 where
  pub types : IsTrue (list_all is_task_name (texts_of (names_of d.types)))
  pub constants : IsTrue (list_all is_task_name (texts_of (names_of d.constants)))
  pub objects : IsTrue (list_all is_task_name (texts_of (names_of p.objects)))
  pub actions : IsTrue (list_all is_task_name (action_names d))

abbrev pub NamesAreTaskNames : Type 0
NamesAreTaskNames = (domain problem : List ℕ) (d : Domain) (p : Problem) → IsDomain domain d → IsProblem d problem p → HaveTaskNames d p

-- And so each type has a name.
abbrev pub AcceptedTypesAreNamed : Type 0
AcceptedTypesAreNamed = (d : Domain) (p : Problem) → HaveTaskNames d p → TypesAreNamed d

-- A predicate or a function whose name has no more bytes than this, and which has no more parameters.
abbrev pub IsSymbolWithin : ℕ → Signature → Type 0
IsSymbolWithin bytes s = (length s.0 ≤ bytes) × (length s.1 ≤ bytes)

-- An action with no more changes than this, and half as many bounds of its duration: a bound takes a list and its mark.
pub record IsActionWithin (bytes : ℕ) (a : ActionDef) : Type 0 where
  pub bounds : length (body_bounds a.body) * 2 ≤ bytes
  pub changes : length (changes a) ≤ bytes

-- No part of a domain and of a problem is longer than its text.
pub record PartsAreNoLonger (d : Domain) (p : Problem) (domain_bytes problem_bytes : ℕ) : Type 0 where
  pub predicates : AllByRecursion (IsSymbolWithin domain_bytes) (declared_predicates d)
  pub functions : AllByRecursion (IsSymbolWithin domain_bytes) (declared_functions d)
  pub actions : AllByRecursion (IsActionWithin domain_bytes) d.actions
  pub entries : length p.init ≤ problem_bytes

abbrev pub AcceptedPartsAreNoLonger : Type 0
AcceptedPartsAreNoLonger = (domain problem : List ℕ) (d : Domain) (p : Problem) → IsDomain domain d → IsProblem d problem p
    → PartsAreNoLonger d p (length domain) (length problem)

-- Time costs rise, and those in pieces have 1 to 16 of them.
abbrev pub AcceptedTimeCostsFit : Type 0
AcceptedTimeCostsFit = (domain problem : List ℕ) (d : Domain) (p : Problem) → IsDomain domain d → IsProblem d problem p
    → IsTrue (list_all (λ c. curve_fits c.curve) (costs p))

-- the longest text of a domain or a problem
abbrev pub text_limit : ℕ
text_limit = 1048576

-- What the readers accept the grounder accepts, where no text is too long.
abbrev pub ReadersPromise : Type 0
ReadersPromise = (domain problem : List ℕ) (d : Domain) (p : Problem) → length domain ≤ text_limit → length problem ≤ text_limit
    → IsDomain domain d → IsProblem d problem p → IsAccepted d p
