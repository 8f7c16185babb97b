-- Names of which the first of each is kept are distinct.
use Rattle.std.proofs.Common.{◌≡◌, refl, ap, ◌∙◌, Bool, true, false, not, ◌||◌, List, [], ◌∷◌, ◌++◌, map, is_some, if◌then◌else◌}
use Rattle.std.specs.List.{list_all}
use Rattle.std.specs.Str.{bytes_eq}
use Rattle.std.proofs.lemmas.List.{map-append}
use Rattle.std.proofs.lemmas.List.Folds.{list_any-append}
use Rattle.basics.proofs.Bools.{not_true, and_left, and_right, and_in, or_false, or_false_left, or_false_right}
use Rattle.basics.proofs.Lists.{all_append}
use Rattle.task_types.specs.WellMade.{is_task_name, are_names}
use Rattle.pddl_names.specs.Declarations.{Text, among, value_of, with_new, with_first, with_firsts}
use Rattle.pddl_names.proofs.Ways.{other_text}
use Rattle.accepted_files.proofs.Variables.{are_apart, is_some-among}

apart-last : (ns : List Text) (n : Text) → are_apart ns ≡ true → among ns n ≡ false → are_apart (ns ++ n ∷ []) ≡ true
apart-last [] n a f = refl
apart-last (m ∷ ns) n a f = and_in (not (among (ns ++ n ∷ []) m)) (are_apart (ns ++ n ∷ []))
    (ap not (list_any-append (bytes_eq m) ns (n ∷ []) ∙ ap (λ b. b || (bytes_eq m n || false)) before ∙ or_false (bytes_eq m n) ∙ here))
    (apart-last ns n (and_right (not (among ns m)) (are_apart ns) a) (or_false_right (bytes_eq n m) (among ns n) f))
  where
    before : among ns m ≡ false
    before = not_true (among ns m) (and_left (not (among ns m)) (are_apart ns) a)

    here : bytes_eq m n ≡ false
    here = other_text n m (or_false_left (bytes_eq n m) (among ns n) f)

pub apart-new : (seen ns : List Text) → are_apart seen ≡ true → are_apart (with_new seen ns) ≡ true
apart-new seen [] a = a
apart-new seen (n ∷ ns) a = apart-new (if among seen n then seen else seen ++ n ∷ []) ns (by (among seen n) refl)
  where
    by : (b : Bool) → among seen n ≡ b → are_apart (if b then seen else seen ++ n ∷ []) ≡ true
    by true e = a
    by false e = apart-last seen n a e

pub all-new : (p : Text → Bool) (seen ns : List Text) → list_all p seen ≡ true → list_all p ns ≡ true → list_all p (with_new seen ns) ≡ true
all-new p seen [] a h = a
all-new p seen (n ∷ ns) a h = all-new p (if among seen n then seen else seen ++ n ∷ []) ns (by (among seen n)) (and_right (p n) (list_all p ns) h)
  where
    by : (b : Bool) → list_all p (if b then seen else seen ++ n ∷ []) ≡ true
    by true = a
    by false = all_append p seen (n ∷ []) a (and_in (p n) true (and_left (p n) (list_all p ns) h) refl)

module _ {V : Type 0} where
  abbrev keys : List (Text × V) → List Text
  keys es = map {B = Text} (λ e. e.0) es

  -- the names of first declarations are the names of which the first of each is kept
  pub keys-firsts : (before es : List (Text × V)) → keys (with_firsts before es) ≡ with_new (keys before) (keys es)
  keys-firsts before [] = refl
  keys-firsts before (e ∷ es) = keys-firsts (with_first before e) es ∙ ap (λ l. with_new l (keys es)) (by (is_some (value_of before e.0)) (is_some-among before e.0))
    where
      by : (b : Bool) → b ≡ among (keys before) e.0 → keys (if b then before else before ++ e ∷ []) ≡ (if among (keys before) e.0 then keys before else keys before ++ e.0 ∷ [])
      by true h = ap (λ c. if c then keys before else keys before ++ e.0 ∷ []) h
      by false h = map-append (λ (x : Text × V). x.0) before (e ∷ []) ∙ ap (λ c. if c then keys before else keys before ++ e.0 ∷ []) h

-- distinct names of a task
pub names-are : (ns : List Text) → are_apart ns ≡ true → list_all is_task_name ns ≡ true → are_names ns ≡ true
names-are [] a h = refl
names-are (n ∷ ns) a h = and_in _ _ (and_in _ _ (and_left (is_task_name n) (list_all is_task_name ns) h) (and_left (not (among ns n)) (are_apart ns) a))
    (names-are ns (and_right (not (among ns n)) (are_apart ns) a) (and_right (is_task_name n) (list_all is_task_name ns) h))
