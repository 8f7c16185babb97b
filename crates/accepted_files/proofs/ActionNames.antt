-- In a domain of the right shape a name stands behind the word of each action.
use Rattle.std.proofs.Common.{◌≡◌, refl, sym, ap, ◌∙◌, ℕ, Bool, true, false, List, [], ◌∷◌, ◌++◌, Option, Some, None, Ok, if◌then◌else◌}
use Rattle.std.specs.List.{AllByRecursion as Each}
use lib.Chars.{codes}
use Rattle.basics.proofs.Lists.{nothing_left, nothing_right, each_append}
use Rattle.sexpr_text.specs.declared.token.TokenKind.{TokenKind}
use Rattle.sexpr_text.specs.declared.token.TokenKind.TheVariants.{Open, Close, Name, Variable, Keyword, Number, Mark, Time}
use Rattle.task_types.specs.WellMade.{is_task_name}
use Rattle.pddl_terms.specs.declared.domain_heads.DomainHead.{DomainHead}
use Rattle.pddl_terms.specs.declared.domain_heads.DomainHead.TheVariants as head
use Rattle.pddl_terms.specs.declared.files.ActionDef.{ActionDef}
use Rattle.pddl_terms.specs.declared.grammar.ActionPlace.TheVariants as place
use Rattle.pddl_terms.specs.declared.grammar.ActionSort.{ActionSort}
use Rattle.pddl_terms.specs.declared.grammar.DomainGiven.{DomainGiven}
use Rattle.pddl_terms.specs.declared.grammar.DomainLine.TheVariants as of_domain
use Rattle.pddl_terms.specs.declared.grammar.DomainRest.TheVariants as domain
use Rattle.pddl_terms.specs.declared.grammar.Line.TheVariants as line
use Rattle.pddl_terms.specs.declared.grammar.Rest.{Rest}
use Rattle.pddl_terms.specs.declared.grammar.Rest.TheVariants as rest
use Rattle.pddl_terms.specs.Words.{same_word, is_name}
use Rattle.pddl_terms.specs.Content.{Lexeme, Content, End, Word, Inner, behind}
use Rattle.pddl_terms.specs.Grammar.{only_if, no_domain_section}
use Rattle.pddl_terms.specs.Typed.{name_of}
use Rattle.pddl_terms.specs.Sections.{name_at}
use Rattle.pddl_terms.specs.Domains.{domain_head, domain_section_rest, is_given, and_given, domain_begins, domain_takes}
use Rattle.pddl_terms.specs.Actions.{action_takes}
use Rattle.pddl_terms.specs.Shape.{takes, enters, leaves, word_ahead, or_here, wrong}
use Rattle.pddl_terms.specs.Files.{domain_file}
use Rattle.pddl_domain.specs.Actions.{action_tree, as_action, actions}
use Rattle.pddl_domain.specs.Domains.{domain_of, domain_tree}
use Rattle.accepted_files.proofs.NameWords.{task-name}
use Rattle.accepted_files.proofs.Spelling.{Spelt}

kind-name : (kind : TokenKind) → is_name kind ≡ true → kind ≡ Name
kind-name Name e = refl
kind-name Open e = absurd cc
kind-name Close e = absurd cc
kind-name Variable e = absurd cc
kind-name Keyword e = absurd cc
kind-name Number e = absurd cc
kind-name Mark e = absurd cc
kind-name Time e = absurd cc

-- a word where a name was read is a name of a task
pub name-spelt : (n : ℕ) (w : Lexeme) (more : Content) → Spelt n (Word w more) → is_name w.kind ≡ true → is_task_name (name_of w).bytes ≡ true
unfolding Spelt
name-spelt n w more h e = task-name w.bytes (h.0.kind ∙ ap Ok (kind-name w.kind e))

-- ---- what stands next where a name has to

stopped : {P : Type 0} (at : ℕ) (r : Option Rest) (go : Rest → List ℕ) → r ≡ None → or_here at r go ≡ [] → P
stopped at None go e h = let t : at ∷ [] ≡ [] = h in absurd cc
stopped at (Some r) go e h = absurd cc

pub gone : (at : ℕ) (r : Option Rest) (go : Rest → List ℕ) (s : Rest) → r ≡ Some s → or_here at r go ≡ [] → go s ≡ []
gone at r go s e h = sym (ap (λ o. or_here at o go) e) ∙ h

-- what a test let through
pub let_through : (at : ℕ) (b : Bool) (s : Rest) (go : Rest → List ℕ) → or_here at (only_if b s) go ≡ [] → (b ≡ true) × (go s ≡ [])
let_through at true s go h = (refl, h)
let_through at false s go h = let t : at ∷ [] ≡ [] = h in absurd cc

module _ (n : ℕ) where
  abbrev Named : Content → Type 0
  Named x = is_task_name (name_at x).bytes ≡ true

  abbrev AreNamed : List ActionDef → Type 0
  AreNamed actions = Each (λ a. is_task_name a.name.bytes ≡ true) actions

  one-name : (x : Content) → wrong (rest.One line.Name) x ≡ [] → Spelt n x → Named x
  unfolding wrong takes enters name_at
  one-name (End close) e h = let t : close ∷ [] ≡ [] = e in absurd cc
  one-name (Word w more) e h = name-spelt n w more h (let_through w.at (is_name w.kind) rest.Nothing (λ s. wrong s more) e).0
  one-name (Inner at inner more) e h = let t : at ∷ [] ≡ [] = e in absurd cc

  action-name : (sort : ActionSort) (x : Content) → wrong (rest.Action (place.Name sort)) x ≡ [] → Spelt n x → Named x
  unfolding wrong takes enters action_takes name_at
  action-name sort (End close) e h = let t : close ∷ [] ≡ [] = e in absurd cc
  action-name sort (Word w more) e h = name-spelt n w more h (let_through w.at (is_name w.kind) (rest.Action (place.Head sort)) (λ s. wrong s more) e).0
  action-name sort (Inner at inner more) e h = let t : at ∷ [] ≡ [] = e in absurd cc

  -- the action that a section is, if it is one, where a name stands behind its word
  named-action : (h : DomainHead) (at : ℕ) (x : Content) → ((sort : ActionSort) → h ≡ head.Action sort → Named x) → AreNamed (as_action h at x)
  unfolding action_tree
  named-action (head.Action sort) at x f = (f sort refl, tt)
  named-action h at x f = tt

  section-named : (at : ℕ) (x : Content) → wrong (rest.Whole (line.Domain of_domain.Section)) x ≡ [] → Spelt n x → AreNamed (as_action (domain_head (word_ahead x)) at (behind x))
  unfolding wrong takes enters domain_begins Spelt
  section-named at (End close) e h = let t : close ∷ [] ≡ [] = e in absurd cc
  section-named at (Word w more) e h = named-action (domain_head w.bytes) at more
      (λ sort is. action-name sort more (gone w.at (domain_section_rest (domain_head w.bytes)) (λ s. wrong s more) (rest.Action (place.Name sort)) (ap domain_section_rest is) e) h.1)
  section-named at (Inner place inner more) e h = let t : place ∷ [] ≡ [] = e in absurd cc

  heading-named : (at : ℕ) (x : Content) → wrong (rest.Whole (line.Domain of_domain.Heading)) x ≡ [] → Spelt n x → AreNamed (as_action (domain_head (word_ahead x)) at (behind x))
  unfolding wrong takes enters domain_begins Spelt
  heading-named at (End close) e h = let t : close ∷ [] ≡ [] = e in absurd cc
  heading-named at (Word w more) e h = named-action (domain_head w.bytes) at more
      (λ sort is. one-name more (let_through w.at (same_word w.bytes (codes "domain")) (rest.One line.Name) (λ s. wrong s more) e).1 h.1)
  heading-named at (Inner place inner more) e h = let t : place ∷ [] ≡ [] = e in absurd cc

  sections-named : (given : DomainGiven) (x : Content) → wrong (rest.Domain (domain.Sections given)) x ≡ [] → Spelt n x → AreNamed (actions x)
  unfolding wrong takes enters leaves domain_takes actions Spelt
  sections-named given (End close) e h = tt
  sections-named given (Word w more) e h = let t : w.at ∷ [] ≡ [] = e in absurd cc
  sections-named given (Inner at inner more) e h = by (is_given given (domain_head (word_ahead inner))) e (sections-named (and_given given (domain_head (word_ahead inner))) more)
    where
      next : Rest
      next = rest.Domain (domain.Sections (and_given given (domain_head (word_ahead inner))))

      by : (b : Bool) → or_here at (if b then None else Some (rest.Whole (line.Domain of_domain.Section))) (λ s. wrong s inner ++ wrong next more) ≡ []
          → (wrong next more ≡ [] → Spelt n more → AreNamed (actions more)) → AreNamed (as_action (domain_head (word_ahead inner)) at (behind inner) ++ actions more)
      by true f others = let t : at ∷ [] ≡ [] = f in absurd cc
      by false f others = each_append (λ a. is_task_name a.name.bytes ≡ true) (as_action (domain_head (word_ahead inner)) at (behind inner)) (actions more)
          (section-named at inner (nothing_left (wrong (rest.Whole (line.Domain of_domain.Section)) inner) (wrong next more) f) h.0)
          (others (nothing_right (wrong (rest.Whole (line.Domain of_domain.Section)) inner) (wrong next more) f) h.1)

  domain-named : (x : Content) → wrong (rest.Domain domain.Heading) x ≡ [] → Spelt n x → AreNamed (actions x)
  unfolding wrong takes enters leaves domain_takes actions Spelt
  domain-named (End close) e h = tt
  domain-named (Word w more) e h = let t : w.at ∷ [] ≡ [] = e in absurd cc
  domain-named (Inner at inner more) e h = each_append (λ a. is_task_name a.name.bytes ≡ true) (as_action (domain_head (word_ahead inner)) at (behind inner)) (actions more)
      (heading-named at inner (nothing_left (wrong (rest.Whole (line.Domain of_domain.Heading)) inner) (wrong (rest.Domain (domain.Sections no_domain_section)) more) e) h.0)
      (sections-named no_domain_section more (nothing_right (wrong (rest.Whole (line.Domain of_domain.Heading)) inner) (wrong (rest.Domain (domain.Sections no_domain_section)) more) e) h.1)

  file-named : (x : Content) → wrong (rest.Whole (line.Domain of_domain.File)) x ≡ [] → Spelt n x → AreNamed (actions (behind x))
  unfolding wrong takes enters domain_begins Spelt
  file-named (End close) e h = let t : close ∷ [] ≡ [] = e in absurd cc
  file-named (Word w more) e h = domain-named more (let_through w.at (same_word w.bytes (codes "define")) (rest.Domain domain.Heading) (λ s. wrong s more) e).1 h.1
  file-named (Inner at inner more) e h = let t : at ∷ [] ≡ [] = e in absurd cc

  pub actions-named : (x : Content) → wrong domain_file x ≡ [] → Spelt n x → AreNamed (domain_tree x).actions
  unfolding wrong takes enters Spelt domain_tree domain_of
  actions-named (End close) e h = let t : close ∷ [] ≡ [] = e in absurd cc
  actions-named (Word w more) e h = let t : w.at ∷ [] ≡ [] = e in absurd cc
  actions-named (Inner at inner more) e h = file-named inner (nothing_left (wrong (rest.Whole (line.Domain of_domain.File)) inner) (wrong (leaves domain_file (word_ahead inner)) more) e) h.0
