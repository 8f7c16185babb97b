-- The variables of a typed list, group by group.
use Rattle.std.proofs.Common.{◌≡◌, refl, ap, ◌∙◌, List, [], ◌∷◌, ◌++◌, map}
use Rattle.std.proofs.lemmas.List.{map-append}
use Rattle.pddl_terms.specs.declared.trees.Group.{Group}
use Rattle.pddl_terms.specs.declared.trees.Name.{Name}
use Rattle.pddl_names.specs.Declarations.{Text, Typed, type_bytes, typed, typed_of, sorts_of}
use Rattle.ground_world.specs.World.{World, columns, variable_names}

names_of_group : (t : Text) (ns : List Name)
    → map (λ v. v.0) (map (λ n. let v : Typed = (n.bytes, t) in v) ns) ≡ map (λ n. n.bytes) ns
names_of_group t [] = refl
names_of_group t (n ∷ ns) = ap (λ l. n.bytes ∷ l) (names_of_group t ns)

columns_of_group : (w : World) (t : Text) (ns : List Name) → map w.fitting (map (λ n. t) ns) ≡ map (λ n. w.fitting t) ns
columns_of_group w t [] = refl
columns_of_group w t (n ∷ ns) = ap (λ l. w.fitting t ∷ l) (columns_of_group w t ns)

pub variable_names-cons : (g : Group) (gs : List Group)
    → variable_names (g ∷ gs) ≡ map (λ n. n.bytes) g.names ++ variable_names gs
variable_names-cons g gs =
    map-append (λ v. v.0) (typed_of g) (typed gs) ∙ ap (λ l. l ++ variable_names gs) (names_of_group (type_bytes g.of) g.names)

sorts_of-cons : (g : Group) (gs : List Group) → sorts_of (g ∷ gs) ≡ map (λ n. type_bytes g.of) g.names ++ sorts_of gs
sorts_of-cons g gs = refl

pub columns-cons : (w : World) (g : Group) (gs : List Group)
    → columns w (g ∷ gs) ≡ map (λ n. w.fitting (type_bytes g.of)) g.names ++ columns w gs
columns-cons w g gs =
    ap (map w.fitting) (sorts_of-cons g gs)
    ∙ map-append w.fitting (map (λ n. type_bytes g.of) g.names) (sorts_of gs)
    ∙ ap (λ l. l ++ columns w gs) (columns_of_group w (type_bytes g.of) g.names)
