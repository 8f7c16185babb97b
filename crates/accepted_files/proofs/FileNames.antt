-- The names of a domain and a problem that their readers accept are names of a task.
use Rattle.std.proofs.Common.{◌≡◌, sym, ap, subst, ◌∙◌, ℕ, true, not, List, [], ◌∷◌, length, arith}
use Rattle.std.specs.List.{AllByRecursion as Each, list_all}
use Rattle.std.proofs.lemmas.Bool.Decides.{nat_tests}
use lib.Chars.{codes}
use Rattle.basics.proofs.Lists.{all_in, all_out, each_map}
use Rattle.task_types.specs.WellMade.{is_task_name}
use Rattle.pddl_terms.specs.declared.files.Domain.{Domain}
use Rattle.pddl_terms.specs.declared.files.Problem.{Problem}
use Rattle.pddl_terms.specs.declared.trees.Group.{Group}
use Rattle.pddl_terms.specs.Content.{Content, End, Word, Inner, behind, content_at}
use Rattle.pddl_terms.specs.Files.{lexed}
use Rattle.pddl_terms.specs.Sections.{section}
use Rattle.pddl_names.specs.Calls.{names_of}
use Rattle.pddl_names.specs.Declarations.{Text, Typed, typed}
use Rattle.pddl_names.specs.Files.{texts_of}
use Rattle.pddl_names.specs.Fitting.{is_nothing}
use Rattle.pddl_domain.specs.Accepted.{action_names}
use Rattle.pddl_domain.specs.Domains.{domain_of, domain_tree}
use Rattle.pddl_domain.specs.Readings.{IsDomain}
use Rattle.pddl_problem.specs.Problems.{problem_of, problem_tree}
use Rattle.pddl_problem.specs.Readings.{IsProblem}
use Rattle.accepted_files.specs.Clean.{TypesAreNamed}
use Rattle.accepted_files.specs.Laws.{HaveTaskNames}
use Rattle.accepted_files.proofs.ActionNames.{actions-named}
use Rattle.accepted_files.proofs.Spelling.{Spelt, text-spelt, behind-spelt, section-spelt}
use Rattle.accepted_files.proofs.TypedNames.{section-named}
use Rattle.accepted_files.proofs.Variables.{names_in, names-typed}

abbrev AreNames : List Group → Type 0
AreNames groups = list_all is_task_name (texts_of (names_of groups)) ≡ true

-- ---- a domain

record ListsAreNamed (d : Domain) : Type 0 where
  types : AreNames d.types
  constants : AreNames d.constants

module _ (n : ℕ) where
  sections-named : (x : Content) → Spelt n x → ListsAreNamed (domain_of x)
  unfolding domain_of
  sections-named x h = record {
    types = section-named n (section (codes ":types") x) (section-spelt n (codes ":types") x h);
    constants = section-named n (section (codes ":constants") x) (section-spelt n (codes ":constants") x h);
  }

  lists-named : (x : Content) → Spelt n x → ListsAreNamed (domain_tree x)
  unfolding domain_tree Spelt
  lists-named (Inner at inner more) h = sections-named (behind inner) (behind-spelt n inner h.0)
  lists-named (End close) h = sections-named (End close) h
  lists-named (Word w more) h = sections-named more h.1

  objects-named : (x : Content) → Spelt n x → AreNames (problem_tree x).objects
  unfolding problem_tree problem_of Spelt
  objects-named (Inner at inner more) h = section-named n (section (codes ":objects") (behind inner)) (section-spelt n (codes ":objects") (behind inner) (behind-spelt n inner h.0))
  objects-named (End close) h = section-named n (section (codes ":objects") (End close)) (section-spelt n (codes ":objects") (End close) h)
  objects-named (Word w more) h = section-named n (section (codes ":objects") more) (section-spelt n (codes ":objects") more h.1)

pub file_names : (domain problem : List ℕ) (d : Domain) (p : Problem) → IsDomain domain d → IsProblem d problem p → HaveTaskNames d p
file_names domain problem d p f g =
    let spelt = text-spelt domain f.tokens f.lexes in
    let lists : ListsAreNamed d = subst (λ (t : Domain). ListsAreNamed t) (sym f.tree_is) (lists-named (length domain) (content_at (lexed domain f.tokens) 0) spelt) in
    let actions : Each (λ a. is_task_name a.name.bytes ≡ true) d.actions =
    subst (λ (t : Domain). Each (λ a. is_task_name a.name.bytes ≡ true) t.actions) (sym f.tree_is) (actions-named (length domain) (content_at (lexed domain f.tokens) 0) f.shape spelt) in
    record {
      types = lists.types;
      constants = lists.constants;
      objects = subst (λ (t : Problem). AreNames t.objects) (sym g.tree_is) (objects-named (length problem) (content_at (lexed problem g.tokens) 0) (text-spelt problem g.tokens g.lexes));
      actions = all_in is_task_name (action_names d) (each_map (λ t. is_task_name t ≡ true) (λ a. a.name.bytes) d.actions actions);
    }

-- ---- types that have names

name-something : (t : Text) → is_task_name t ≡ true → not (is_nothing t) ≡ true
name-something [] h = h
name-something (b ∷ bs) h = grind (arith, nat_tests)

pub types_named : (d : Domain) (p : Problem) → HaveTaskNames d p → TypesAreNamed d
types_named d p h = all_in (λ t. not (is_nothing t.0)) (typed d.types)
    (keys (typed d.types) (all_out is_task_name (names_in (typed d.types)) (ap (list_all is_task_name) (names-typed d.types) ∙ h.types)))
  where
    keys : (es : List Typed) → Each (λ t. is_task_name t ≡ true) (names_in es) → Each (λ t. not (is_nothing t.0) ≡ true) es
    keys [] k = tt
    keys (e ∷ es) k = (name-something e.0 k.0, keys es k.1)
