-- Atoms and their numbers in a list, and lists that grow by what is new.
use Rattle.std.proofs.Common.{◌≡◌, refl, sym, ap, ◌∙◌, suc, ◌+◌, ◌<◌, arith, Bool, true, false, not, ◌||◌, nat_lt, List, [], ◌∷◌, ◌++◌, cond, length}
use Rattle.std.specs.Prelude.{if◌then◌else◌}
use Rattle.std.specs.List.{AllByRecursion as Each, filter, list_any, position_or_len}
use Rattle.std.specs.Str.{bytes_eq}
use Rattle.basics.proofs.Bools.{or_left, or_right}
use Rattle.basics.proofs.Naturals.{lt_in}
use Rattle.basics.proofs.Lists.{each_append, any_left, any_right}
use Rattle.pddl_names.specs.Declarations.{Text, among, with_new}
use Rattle.pddl_names.proofs.Ways.{same_text, text_itself}
use Rattle.ground_world.specs.World.{GroundAtom, number_in}
use Rattle.grounder.proofs.Each.{each_found}

place-within : {X : Type 0} (p : X → Bool) (xs : List X) → list_any p xs ≡ true → position_or_len p xs < length xs
place-within p [] h = cc
place-within p (x ∷ xs) h = by (p x) refl (place-within p xs)
  where
    by : (b : Bool) → p x ≡ b → (list_any p xs ≡ true → position_or_len p xs < length xs) → cond (not b) (1 + position_or_len p xs) 0 < suc (length xs)
    by true e m = omega arith
    by false e m = let k : position_or_len p xs < length xs = m (sym (ap (λ b. b || list_any p xs) e) ∙ h) in omega arith

-- an atom of the list has a number
pub number-within : (atoms : List GroundAtom) (a : GroundAtom) → among atoms a ≡ true → nat_lt (number_in atoms a) (length atoms) ≡ true
number-within atoms a h = lt_in (number_in atoms a) (length atoms) (place-within (bytes_eq a) atoms h)

pub among_itself : (atoms : List GroundAtom) → Each (λ a. among atoms a ≡ true) atoms
among_itself atoms = each_found bytes_eq text_itself [] atoms

-- ---- what is new

pub with_new-keeps : (names more : List Text) (a : Text) → among names a ≡ true → among (with_new names more) a ≡ true
with_new-keeps names [] a h = h
with_new-keeps names (n ∷ more) a h = with_new-keeps (if among names n then names else names ++ (n ∷ [])) more a (by (among names n))
  where
    by : (b : Bool) → among (if b then names else names ++ (n ∷ [])) a ≡ true
    by true = h
    by false = any_left (bytes_eq a) names (n ∷ []) h

pub with_new-has : (names more : List Text) → Each (λ a. among (with_new names more) a ≡ true) more
with_new-has names [] = tt
with_new-has names (n ∷ more) = (
  with_new-keeps (if among names n then names else names ++ (n ∷ [])) more n (by (among names n) refl),
  with_new-has (if among names n then names else names ++ (n ∷ [])) more,
)
  where
    by : (b : Bool) → among names n ≡ b → among (if b then names else names ++ (n ∷ [])) n ≡ true
    by true e = e
    by false e = any_right (bytes_eq n) names (n ∷ []) (or_left (bytes_eq n n) false (text_itself n))

pub with_new-each : (P : Text → Type 0) (names more : List Text) → Each P names → Each P more → Each P (with_new names more)
with_new-each P names [] h k = h
with_new-each P names (n ∷ more) h k = with_new-each P (if among names n then names else names ++ (n ∷ [])) more (by (among names n)) k.1
  where
    by : (b : Bool) → Each P (if b then names else names ++ (n ∷ []))
    by true = h
    by false = each_append P names (n ∷ []) h (k.0, tt)

-- ---- what a filter keeps

pub filter-has : (q : Text → Bool) (names : List Text) (a : Text) → q a ≡ true → among names a ≡ true → among (filter q names) a ≡ true
filter-has q [] a t h = h
filter-has q (n ∷ names) a t h = by (bytes_eq a n) refl (q n) refl (filter-has q names a t)
  where
    by : (b : Bool) → bytes_eq a n ≡ b → (c : Bool) → q n ≡ c → (among names a ≡ true → among (filter q names) a ≡ true) → among (cond c (n ∷ filter q names) (filter q names)) a ≡ true
    by true e true f m = or_left (bytes_eq a n) (among (filter q names) a) e
    by true e false f m = let g : q a ≡ q n = ap q (same_text a n e) in let c : true ≡ false = sym t ∙ g ∙ f in cc
    by false e true f m = or_right (bytes_eq a n) (among (filter q names) a) (m (sym (ap (λ b. b || among names a) e) ∙ h))
    by false e false f m = m (sym (ap (λ b. b || among names a) e) ∙ h)
