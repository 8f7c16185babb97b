-- The names of a typed list were read as names.
use Rattle.std.proofs.Common.{◌≡◌, refl, ℕ, Bool, true, false, List, [], ◌∷◌, ◌++◌, Option, Some, None, if◌then◌else◌}
use Rattle.std.specs.List.{AllByRecursion as Each, list_all}
use Rattle.basics.proofs.Lists.{all_in, each_append, each_map}
use Rattle.task_types.specs.WellMade.{is_task_name}
use Rattle.pddl_terms.specs.declared.grammar.Listed.TheVariants.{Names}
use Rattle.pddl_terms.specs.declared.trees.Group.{Group}
use Rattle.pddl_terms.specs.declared.trees.Name.{Name}
use Rattle.pddl_terms.specs.declared.trees.TypeName.{TypeName}
use Rattle.pddl_terms.specs.declared.trees.TypeName.TheVariants as type
use Rattle.pddl_terms.specs.Content.{Content, End, Word, Inner}
use Rattle.pddl_terms.specs.Sections as sections
use Rattle.pddl_terms.specs.Typed.{name_of, is_listed, group_of, groups, groups_of}
use Rattle.pddl_names.specs.Calls.{names_of}
use Rattle.pddl_names.specs.Files.{texts_of}
use Rattle.grounder.proofs.Each.{each_flat_map}
use Rattle.accepted_files.proofs.ActionNames.{name-spelt}
use Rattle.accepted_files.proofs.Spelling.{Spelt, SpeltIn}

abbrev AreNames : List Name → Type 0
AreNames names = Each (λ n. is_task_name n.bytes ≡ true) names

abbrev AreNamed : List Group → Type 0
AreNamed gs = Each (λ g. AreNames g.names) gs

group-named : (before : List Name) (of : TypeName) → AreNames before → AreNamed (group_of before of)
group-named [] of h = tt
group-named (n ∷ ns) of h = (h, tt)

module _ (n : ℕ) where
  mutual
    unfolding Spelt groups groups_of

    groups-named : (before : List Name) (x : Content) → AreNames before → Spelt n x → AreNamed (groups Names before x)
    groups-named before (End close) b h = group-named before type.Object b
    groups-named before (Word w more) b h = by (is_listed Names w.kind) refl
        (λ k. groups-named (before ++ name_of w ∷ []) more (each_append (λ m. is_task_name m.bytes ≡ true) before (name_of w ∷ []) b (name-spelt n w more h k, tt)) h.1)
        (typed-named before more b h.1)
      where
        by : (c : Bool) → is_listed Names w.kind ≡ c → (is_listed Names w.kind ≡ true → AreNamed (groups Names (before ++ name_of w ∷ []) more))
            → AreNamed (groups_of Names before more) → AreNamed (if c then groups Names (before ++ name_of w ∷ []) more else groups_of Names before more)
        by true e l t = l e
        by false e l t = t
    groups-named before (Inner at inner more) b h = groups-named before more b h.1

    typed-named : (before : List Name) (x : Content) → AreNames before → Spelt n x → AreNamed (groups_of Names before x)
    typed-named before (End close) b h = group-named before type.Object b
    typed-named before (Word w more) b h = each_append (λ g. AreNames g.names) (group_of before (type.Named (name_of w))) (groups Names [] more)
        (group-named before (type.Named (name_of w)) b) (groups-named [] more tt h.1)
    typed-named before (Inner at inner more) b h = each_append (λ g. AreNames g.names) (group_of before (type.LeftOut at)) (groups Names [] more)
        (group-named before (type.LeftOut at) b) (groups-named [] more tt h.1)

  pub section-named : (x : Option Content) → SpeltIn n x → list_all is_task_name (texts_of (names_of (sections.groups_of x))) ≡ true
  section-named None h = refl
  section-named (Some x) h = all_in is_task_name (texts_of (names_of (groups Names [] x)))
      (each_map (λ t. is_task_name t ≡ true) (λ m. m.bytes) (names_of (groups Names [] x))
      (each_flat_map (λ m. is_task_name m.bytes ≡ true) (λ g. g.names) (groups Names [] x) (groups-named [] x tt h)))
