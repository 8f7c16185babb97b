-- The facts of one hard constraint are a group: steps that change facts of it are tied apart.
use Rattle.std.proofs.Common.{◌≡◌, refl, sym, ap, subst, ◌∙◌, ℕ, Bool, true, false, cond, not, ◌&&◌, ◌||◌, ◌==◌, List, [], ◌∷◌, ◌++◌, map}
use Rattle.std.specs.Prelude.{is_some}
use Rattle.std.specs.List.{list_any, filter, enumerate_from, AllByRecursion}
use Rattle.std.proofs.lemmas.List.Folds.{list_any-append}
use Rattle.basics.proofs.Bools.{and_in, or_left, or_right}
use Rattle.basics.proofs.Naturals.{same_out, same_itself}
use Rattle.task_types.specs.declared.constraints.Trail.{Trail}
use Rattle.task_types.specs.declared.parts.TaskParts.{TaskParts}
use Rattle.task_types.specs.declared.tokens.Token.{Token}
use Rattle.task_types.specs.declared.tokens.Token.TheVariants as token
use Rattle.task_types.specs.Sets.{is_in, meet, are_several}
use Rattle.task_types.specs.Plan.{snap_of}
use Rattle.task_types.specs.Clash.{changed_facts}
use Rattle.task_types.specs.Touch.{tokens, trail_facts, soft_facts}
use Rattle.task_types.specs.Order.{sets_apart}
use Rattle.task_types.specs.WellMade.{snap_fits}
use Rattle.task_types.proofs.Everyone.{all_map, all_swap}
use Rattle.task_types.proofs.Assigning.{meet_in}
use Rattle.ordering.specs.Along.{changes_fact, tied_apart}
use Rattle.ordered_course.proofs.Lasting.{any_last}
use Rattle.ordered_course.proofs.ListFacts.{true_and_false, changed_twice}

-- a number that stands in both of two lists
pub record Common (xs ys : List ℕ) : Type 0 where
  pub number : ℕ
  pub first : is_in number xs ≡ true
  pub second : is_in number ys ≡ true

pub meet_out : (xs ys : List ℕ) → meet xs ys ≡ true → Common xs ys
meet_out [] ys h = let c : false ≡ true = h in cc
meet_out (x ∷ xs) ys h = go (is_in x ys) refl h (meet_out xs ys)
  where
    go : (b : Bool) → is_in x ys ≡ b → (b || meet xs ys) ≡ true → (meet xs ys ≡ true → Common xs ys) → Common (x ∷ xs) ys
    go true e h r = record { number = x; first = or_left (x == x) (is_in x xs) (same_itself x); second = e }
    go false e h r = let k = r h in record { number = k.number; first = or_right (x == k.number) (is_in k.number xs) k.first; second = k.second }

any_at : (q : ℕ → Bool) (f : ℕ) (xs : List ℕ) → is_in f xs ≡ true → q f ≡ true → list_any q xs ≡ true
any_at q f [] i h = i
any_at q f (x ∷ xs) i h = go (x == f) refl i (λ e. any_at q f xs e h)
  where
    go : (b : Bool) → (x == f) ≡ b → (b || is_in f xs) ≡ true → (is_in f xs ≡ true → list_any q xs ≡ true) → (q x || list_any q xs) ≡ true
    go true e i r = or_left (q x) (list_any q xs) (ap q (same_out x f e) ∙ h)
    go false e i r = or_right (q x) (list_any q xs) (r i)

-- where no two different numbers stand in a list, two of it are one
only_one : (f g : ℕ) (xs : List ℕ) → are_several xs ≡ false → is_in f xs ≡ true → is_in g xs ≡ true → g ≡ f
only_one f g xs n i j = go (g == f) refl
  where
    go : (b : Bool) → (g == f) ≡ b → g ≡ f
    go true e = same_out g f e
    go false e = true_and_false (are_several xs) (any_at (λ x. list_any (λ y. not (y == x)) xs) f xs i (any_at (λ y. not (y == f)) g xs j (ap not e))) n

-- ---- the tokens of groups

-- a test that the group of a constraint passes is passed by some token of the task, where it has two facts or more
abbrev pub IsGrouped : TaskParts → Trail → Type 0
IsGrouped task c = (p : Token → Bool) → are_several (trail_facts c) ≡ true → p (token.Formulas (trail_facts c)) ≡ true → list_any p (tokens task) ≡ true

any_first : (p : Token → Bool) (xs ys : List Token) → list_any p xs ≡ true → list_any p (xs ++ ys) ≡ true
any_first p xs ys h = list_any-append p xs ys ∙ or_left (list_any p xs) (list_any p ys) h

group_token : (task : TaskParts) (p : Token → Bool) → list_any p (map token.Formulas (filter are_several (map trail_facts task.hard ++ map soft_facts task.soft))) ≡ true → list_any p (tokens task) ≡ true
unfolding tokens
group_token task p h = any_first p _ (map (λ a. token.Action a.0) (filter (λ a. is_some a.1.end) (enumerate_from 0 task.actions))) (any_last p _ (map token.Formulas (filter are_several (map trail_facts task.hard ++ map soft_facts task.soft))) h)

in_groups : (p : Token → Bool) (hs : List Trail) (rest : List (List ℕ)) → AllByRecursion (λ c. are_several (trail_facts c) ≡ true → p (token.Formulas (trail_facts c)) ≡ true → list_any p (map token.Formulas (filter are_several (map trail_facts hs ++ rest))) ≡ true) hs
in_groups p [] rest = tt
in_groups p (c ∷ cs) rest = (
  λ e h. here (are_several (trail_facts c)) e h,
  all_map (λ d. are_several (trail_facts d) ≡ true → p (token.Formulas (trail_facts d)) ≡ true → list_any p (map token.Formulas (filter are_several (map trail_facts cs ++ rest))) ≡ true) (λ d. are_several (trail_facts d) ≡ true → p (token.Formulas (trail_facts d)) ≡ true → list_any p (map token.Formulas (filter are_several (map trail_facts (c ∷ cs) ++ rest))) ≡ true) cs
      (λ d f e h. more (are_several (trail_facts c)) (f e h)) (in_groups p cs rest),
)
  where
    here : (b : Bool) → b ≡ true → p (token.Formulas (trail_facts c)) ≡ true → list_any p (map token.Formulas (cond b (trail_facts c ∷ filter are_several (map trail_facts cs ++ rest)) (filter are_several (map trail_facts cs ++ rest)))) ≡ true
    here true e h = or_left (p (token.Formulas (trail_facts c))) (list_any p (map token.Formulas (filter are_several (map trail_facts cs ++ rest)))) h
    here false e h = let z : false ≡ true = e in cc

    more : (b : Bool) → list_any p (map token.Formulas (filter are_several (map trail_facts cs ++ rest))) ≡ true → list_any p (map token.Formulas (cond b (trail_facts c ∷ filter are_several (map trail_facts cs ++ rest)) (filter are_several (map trail_facts cs ++ rest)))) ≡ true
    more true h = or_right (p (token.Formulas (trail_facts c))) (list_any p (map token.Formulas (filter are_several (map trail_facts cs ++ rest)))) h
    more false h = h

pub all_grouped : (task : TaskParts) → AllByRecursion (IsGrouped task) task.hard
all_grouped task = all_swap (λ (p : Token → Bool) (c : Trail). are_several (trail_facts c) ≡ true → p (token.Formulas (trail_facts c)) ≡ true → list_any p (tokens task) ≡ true) task.hard
    (λ p. all_map (λ c. are_several (trail_facts c) ≡ true → p (token.Formulas (trail_facts c)) ≡ true → list_any p (map token.Formulas (filter are_several (map trail_facts task.hard ++ map soft_facts task.soft))) ≡ true) (λ c. are_several (trail_facts c) ≡ true → p (token.Formulas (trail_facts c)) ≡ true → list_any p (tokens task) ≡ true) task.hard
    (λ c f e h. group_token task p (f e h)) (in_groups p task.hard (map soft_facts task.soft)))

-- ---- changers of a group

module _ (task : TaskParts) (fits : (k : ℕ) → snap_fits task (snap_of task k) ≡ true) (c : Trail) (grouped : IsGrouped task c) where
  -- a snap action changes some fact of the constraint
  abbrev pub alters : ℕ → Bool
  alters k = meet (trail_facts c) (changed_facts (snap_of task k))

  changes-is : (k f : ℕ) → is_in f (changed_facts (snap_of task k)) ≡ changes_fact (snap_of task k) f
  changes-is k f = list_any-append (λ y. y == f) (snap_of task k).effect.adds (snap_of task k).effect.deletes

  pub alters_not : (k f : ℕ) → alters k ≡ false → is_in f (trail_facts c) ≡ true → changes_fact (snap_of task k) f ≡ false
  alters_not k f e i = go (changes_fact (snap_of task k) f) refl
    where
      go : (b : Bool) → changes_fact (snap_of task k) f ≡ b → changes_fact (snap_of task k) f ≡ false
      go false q = q
      go true q = true_and_false (alters k) (meet_in f (trail_facts c) (changed_facts (snap_of task k)) i (changes-is k f ∙ q)) e

  pub alters_apart : (k l : ℕ) → alters k ≡ true → alters l ≡ true → tied_apart task (snap_of task k) (snap_of task l) ≡ true
  alters_apart k l h i = go (are_several (trail_facts c)) refl
    where
      first : Common (trail_facts c) (changed_facts (snap_of task k))
      first = meet_out (trail_facts c) (changed_facts (snap_of task k)) h

      second : Common (trail_facts c) (changed_facts (snap_of task l))
      second = meet_out (trail_facts c) (changed_facts (snap_of task l)) i

      go : (b : Bool) → are_several (trail_facts c) ≡ b → tied_apart task (snap_of task k) (snap_of task l) ≡ true
      go true e = grouped (sets_apart task (snap_of task k) (snap_of task l)) e
          (or_left (alters k && (alters l || false)) (false && alters l) (and_in (alters k) (alters l || false) h (or_left (alters l) false i)))
      go false e = let same = only_one first.number second.number (trail_facts c) e first.first second.first in
          changed_twice task fits k l first.number (sym (changes-is k first.number) ∙ first.second) (sym (changes-is l first.number) ∙ subst (λ f. is_in f (changed_facts (snap_of task l)) ≡ true) same second.second)
