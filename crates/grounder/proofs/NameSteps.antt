-- The names that are declared, each once, gathered in loops; and the names of a world.
use Rattle.std.proofs.Common.{◌≡◌, refl, sym, ap, ◌∙◌, Bool, true, false, List, [], ◌∷◌, ◌++◌, map, is_some, if◌then◌else◌}
use Rattle.std.specs.List.{flat_map}
use Rattle.std.proofs.lemmas.List.{map-append}
use Rattle.pddl_terms.specs.declared.trees.Group.{Group}
use Rattle.pddl_terms.specs.declared.files.Declared.{Declared}
use Rattle.pddl_terms.specs.declared.files.Domain.{Domain}
use Rattle.pddl_terms.specs.declared.files.Problem.{Problem}
use Rattle.pddl_names.specs.Declarations.{Text, among, value_of, with_new, with_firsts, typed, signature_of, signatures, declared_objects}
use Rattle.pddl_names.proofs.Doubling.{with_new-append}
use Rattle.ground_world.specs.World.{World, variable_names}
use Rattle.ground_world.specs.FirstState.{world, names_of, objects_of, signatures_of}
use Rattle.ground_world.proofs.FirstDeclared.{known}
use Rattle.ground_world.proofs.Groups.{variable_names-cons}

-- ---- the names of first declarations

module _ {V : Type 0} where
  pub firsts-named : (es more : List (Text × V)) → names_of (with_firsts es more) ≡ with_new (names_of es) (names_of more)
  firsts-named es [] = refl
  firsts-named es (e ∷ more) = by (is_some (value_of es e.0)) refl (λ xs. firsts-named xs more)
    where
      by : (b : Bool) → is_some (value_of es e.0) ≡ b → ((xs : List (Text × V)) → names_of (with_firsts xs more) ≡ with_new (names_of xs) (names_of more))
          → names_of (with_firsts (if b then es else es ++ (e ∷ [])) more)
          ≡ with_new (if among (names_of es) e.0 then names_of es else names_of es ++ (e.0 ∷ [])) (names_of more)
      by true h ih =
          ih es ∙ sym (ap (λ b. with_new (if b then names_of es else names_of es ++ (e.0 ∷ [])) (names_of more)) (known es e.0 ∙ h))
      by false h ih =
          ih (es ++ (e ∷ [])) ∙ ap (λ l. with_new l (names_of more)) (map-append (λ x. x.0) es (e ∷ []))
          ∙ sym (ap (λ b. with_new (if b then names_of es else names_of es ++ (e.0 ∷ [])) (names_of more)) (known es e.0 ∙ h))

flat-named : {X V : Type 0} (f : X → List (Text × V)) (xs : List X) → flat_map (λ x. names_of (f x)) xs ≡ names_of (flat_map f xs)
flat-named f [] = refl
flat-named f (x ∷ xs) = ap (λ l. names_of (f x) ++ l) (flat-named f xs) ∙ sym (map-append (λ e. e.0) (f x) (flat_map f xs))

-- ---- of predicates or functions, of groups, of objects

pub declared-named : (ds : List Declared) → with_new [] (flat_map (λ d. names_of (signature_of d)) ds) ≡ names_of (signatures_of ds)
declared-named ds = ap (with_new []) (flat-named signature_of ds) ∙ sym (firsts-named [] (signatures ds))

pub groups-named : (gs : List Group) → flat_map (λ g. map (λ n. n.bytes) g.names) gs ≡ variable_names gs
groups-named [] = refl
groups-named (g ∷ gs) = ap (λ l. map (λ n. n.bytes) g.names ++ l) (groups-named gs) ∙ sym (variable_names-cons g gs)

pub objects-named : (d : Domain) (p : Problem) (constants all : List Text) → constants ≡ with_new [] (variable_names d.constants)
    → all ≡ with_new constants (variable_names p.objects) → all ≡ names_of (objects_of d p)
objects-named d p constants all h k =
    k ∙ ap (λ l. with_new l (variable_names p.objects)) h ∙ sym (with_new-append [] (variable_names d.constants) (variable_names p.objects))
    ∙ ap (with_new []) (sym (map-append (λ v. v.0) (typed d.constants) (typed p.objects))) ∙ sym (firsts-named [] (declared_objects d p))

-- ---- the names of a world

pub world-objects : (d : Domain) (p : Problem) → (world d p).objects ≡ names_of (objects_of d p)
unfolding world
world-objects d p = refl

pub world-predicates : (w : World) (d : Domain) (p : Problem) → w ≡ world d p → w.predicates ≡ names_of (signatures_of d.predicates)
unfolding world
world-predicates w d p e = ap (λ (x : World). x.predicates) e

pub world-functions : (w : World) (d : Domain) (p : Problem) → w ≡ world d p → w.functions ≡ names_of (signatures_of d.functions)
unfolding world
world-functions w d p e = ap (λ (x : World). x.functions) e
