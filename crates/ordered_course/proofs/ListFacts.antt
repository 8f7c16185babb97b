-- The facts along a list of steps, and the ties of steps that change a fact with steps that change it or look at it.
use Rattle.std.proofs.Common.{◌≡◌, refl, sym, ap, ap₂, subst, ◌∙◌, ℕ, ◌<◌, Bool, true, false, not, ◌&&◌, ◌||◌, ◌==◌, List, [], ◌∷◌, ◌++◌, map, length, Some}
use Rattle.std.specs.Prelude.{fold, if◌then◌else◌}
use Rattle.std.specs.List.{list_any, list_all, flat_map, AllByRecursion}
use Rattle.std.proofs.Math.Path.{fun_ext}
use Rattle.std.proofs.lemmas.List.Folds.{list_any-append}
use Rattle.basics.proofs.Bools.{and_left, and_right, and_in, or_left, or_right, or_false}
use Rattle.basics.proofs.Naturals.{same_itself}
use Rattle.basics.proofs.Lists.{each_right}
use Rattle.task_types.specs.declared.actions.SnapKind.{SnapKind}
use Rattle.task_types.specs.declared.conditions.Condition.{Condition}
use Rattle.task_types.specs.declared.conditions.Literal.{Literal}
use Rattle.task_types.specs.declared.parts.TaskParts.{TaskParts}
use Rattle.task_types.specs.declared.tokens.Token.{Token}
use Rattle.task_types.specs.declared.tokens.Token.TheVariants as token
use Rattle.task_types.specs.Sets.{is_in}
use Rattle.task_types.specs.State.{literal_holds}
use Rattle.task_types.specs.Plan.{Step, snap_of, action_of}
use Rattle.task_types.specs.Course.{initial, happen}
use Rattle.task_types.specs.Clash.{condition_facts, read_facts}
use Rattle.task_types.specs.Touch.{looks, marks, tokens, is_start_or_end, watches}
use Rattle.task_types.specs.Order.{sets_apart}
use Rattle.task_types.specs.Blocking.{facts_on, facts_after}
use Rattle.task_types.specs.WellMade.{snap_fits}
use Rattle.task_types.proofs.Assigning.{is_in-left}
use Rattle.task_types.proofs.SetApart.{in_right}
use Rattle.task_types.proofs.Unordered.{every_reordered}
use Rattle.ordering.specs.Along.{Carried, at_first, carry, carry_all, carried, changes_fact, tied_apart, Follows, AreInOrder}
use Rattle.ordering.proofs.Tied.{fact_token, fact_below}

-- ---- the facts that a list of steps carries are those after its snap actions

facts_carried : (task : TaskParts) (m : Carried) (x : Step) → (carry task m x).facts ≡ facts_on task m.facts x.snap
unfolding carry happen
facts_carried task m x = fun_ext (λ f. ap₂ (λ a d. a || (not d && m.facts f)) (or_false (is_in f (snap_of task x.snap).effect.adds)) (or_false (is_in f (snap_of task x.snap).effect.deletes)))

facts_from : (task : TaskParts) (m : Carried) (facts : ℕ → Bool) (xs : List Step) → m.facts ≡ facts → (carry_all task m xs).facts ≡ fold (facts_on task) facts (map (λ x. x.snap) xs)
facts_from task m facts [] e = e
facts_from task m facts (x ∷ xs) e = facts_from task (carry task m x) (facts_on task facts x.snap) xs (facts_carried task m x ∙ ap (λ (g : ℕ → Bool). facts_on task g x.snap) e)

pub facts_listed : (task : TaskParts) (xs : List Step) → (carried task xs).facts ≡ facts_after task (map (λ x. x.snap) xs)
facts_listed task xs = facts_from task (at_first task) (initial task).facts xs refl

-- ---- literals

-- Literals hold where for the fact of each some facts are known in which they all hold.
pub record Known (facts : ℕ → Bool) (f : ℕ) (ls : List Literal) : Type 0 where
  pub there : ℕ → Bool
  pub same : facts f ≡ there f
  pub hold : list_all (λ l. literal_holds l there) ls ≡ true

pub literals_hold : (facts : ℕ → Bool) (ls : List Literal) → ((f : ℕ) → is_in f (map (λ l. l.fact) ls) ≡ true → Known facts f ls) → list_all (λ l. literal_holds l facts) ls ≡ true
literals_hold facts [] h = refl
literals_hold facts (l ∷ ls) h = and_in (literal_holds l facts) (list_all (λ l. literal_holds l facts) ls) here
    (literals_hold facts ls (λ f i. let k = h f (or_right (l.fact == f) (is_in f (map (λ l. l.fact) ls)) i) in record { there = k.there; same = k.same; hold = and_right (literal_holds l k.there) (list_all (λ l. literal_holds l k.there) ls) k.hold }))
  where
    known : Known facts l.fact (l ∷ ls)
    known = h l.fact (or_left (l.fact == l.fact) (is_in l.fact (map (λ l. l.fact) ls)) (same_itself l.fact))

    here : literal_holds l facts ≡ true
    here = ap (λ b. if l.holds then b else not b) known.same ∙ and_left (literal_holds l known.there) (list_all (λ l. literal_holds l known.there) ls) known.hold

-- ---- steps of two parts of a list

pub across : (task : TaskParts) (xs ys : List Step) → AreInOrder task (xs ++ ys) → AllByRecursion (λ x. AllByRecursion (Follows task x) ys) xs
across task [] ys h = tt
across task (x ∷ xs) ys h = (each_right (Follows task x) xs ys h.0, across task xs ys h.1)

pub second_part : (task : TaskParts) (xs ys : List Step) → AreInOrder task (xs ++ ys) → AreInOrder task ys
second_part task [] ys h = h
second_part task (x ∷ xs) ys h = second_part task xs ys h.1

-- ---- ties

-- no Bool is both
pub true_and_false : {A : Type 0} (b : Bool) → b ≡ true → b ≡ false → A
true_and_false b e f = let c : true ≡ false = sym e ∙ f in cc

pub unless : (b : Bool) → (b ≡ true → ⊥) → b ≡ false
unless true h = absurd (h refl)
unless false h = refl

module _ (task : TaskParts) (fits : (k : ℕ) → snap_fits task (snap_of task k) ≡ true) where
  by_fact : (p : Token → Bool) (f : ℕ) → f < length task.facts → p (token.Fact f) ≡ true → list_any p (tokens task) ≡ true
  by_fact p f l e = go (list_any p (tokens task)) refl
    where
      go : (b : Bool) → list_any p (tokens task) ≡ b → list_any p (tokens task) ≡ true
      go true q = q
      go false q = true_and_false (p (token.Fact f)) e (fact_token task p q f l)

  changing_marks : (k f : ℕ) → changes_fact (snap_of task k) f ≡ true → marks task (snap_of task k) (token.Fact f) ≡ true
  changing_marks k f h = list_any-append (λ y. y == f) (snap_of task k).effect.adds (snap_of task k).effect.deletes ∙ h

  -- one step changes a fact, and another, later in the list, looks at it
  pub changed_then_seen : (k l f : ℕ) → changes_fact (snap_of task k) f ≡ true → looks task (snap_of task l) (token.Fact f) ≡ true → tied_apart task (snap_of task k) (snap_of task l) ≡ true
  changed_then_seen k l f c s = by_fact (sets_apart task (snap_of task k) (snap_of task l)) f (fact_below task fits k f c)
      (or_left (marks task (snap_of task k) (token.Fact f) && (marks task (snap_of task l) (token.Fact f) || looks task (snap_of task l) (token.Fact f))) (looks task (snap_of task k) (token.Fact f) && marks task (snap_of task l) (token.Fact f))
      (and_in (marks task (snap_of task k) (token.Fact f)) (marks task (snap_of task l) (token.Fact f) || looks task (snap_of task l) (token.Fact f)) (changing_marks k f c)
      (or_right (marks task (snap_of task l) (token.Fact f)) (looks task (snap_of task l) (token.Fact f)) s)))

  pub seen_then_changed : (k l f : ℕ) → looks task (snap_of task k) (token.Fact f) ≡ true → changes_fact (snap_of task l) f ≡ true → tied_apart task (snap_of task k) (snap_of task l) ≡ true
  seen_then_changed k l f s c = by_fact (sets_apart task (snap_of task k) (snap_of task l)) f (fact_below task fits l f c)
      (or_right (marks task (snap_of task k) (token.Fact f) && (marks task (snap_of task l) (token.Fact f) || looks task (snap_of task l) (token.Fact f))) (looks task (snap_of task k) (token.Fact f) && marks task (snap_of task l) (token.Fact f))
      (and_in (looks task (snap_of task k) (token.Fact f)) (marks task (snap_of task l) (token.Fact f)) s (changing_marks l f c)))

  pub changed_twice : (k l f : ℕ) → changes_fact (snap_of task k) f ≡ true → changes_fact (snap_of task l) f ≡ true → tied_apart task (snap_of task k) (snap_of task l) ≡ true
  changed_twice k l f c d = by_fact (sets_apart task (snap_of task k) (snap_of task l)) f (fact_below task fits k f c)
      (or_left (marks task (snap_of task k) (token.Fact f) && (marks task (snap_of task l) (token.Fact f) || looks task (snap_of task l) (token.Fact f))) (looks task (snap_of task k) (token.Fact f) && marks task (snap_of task l) (token.Fact f))
      (and_in (marks task (snap_of task k) (token.Fact f)) (marks task (snap_of task l) (token.Fact f) || looks task (snap_of task l) (token.Fact f)) (changing_marks k f c)
      (or_left (marks task (snap_of task l) (token.Fact f)) (looks task (snap_of task l) (token.Fact f)) (changing_marks l f d))))

-- a step looks at the facts of its own condition, and a start or an end at those of the over-all condition
pub looks_itself : (task : TaskParts) (k f : ℕ) → is_in f (map (λ l. l.fact) (snap_of task k).condition.literals) ≡ true → looks task (snap_of task k) (token.Fact f) ≡ true
looks_itself task k f h = is_in-left f (read_facts (snap_of task k)) (flat_map condition_facts (watches task (snap_of task k))) h

pub looks_over_all : (task : TaskParts) (k a f : ℕ) (kind : SnapKind) → (snap_of task k).kind ≡ kind → is_start_or_end kind ≡ true → (snap_of task k).action ≡ Some a → is_in f (map (λ l. l.fact) (action_of task a).over_all.literals) ≡ true → looks task (snap_of task k) (token.Fact f) ≡ true
looks_over_all task k a f kind e b o h = in_right f (read_facts (snap_of task k)) (flat_map condition_facts (watches task (snap_of task k)))
    (subst (λ (cs : List Condition). is_in f (flat_map condition_facts cs) ≡ true) (sym watched) (is_in-left f (condition_facts (action_of task a).over_all) [] h))
  where
    watched : watches task (snap_of task k) ≡ (action_of task a).over_all ∷ []
    watched = rw (o, e, b) refl
