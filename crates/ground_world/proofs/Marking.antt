-- The places of names that change, name by name.
use Rattle.std.proofs.Common.{◌≡◌, refl, sym, ap, ap₂, subst, ◌∙◌, ℕ, ◌+◌, ◌<◌, arith, Bool, true, false, ◌||◌, ◌==◌, not, nat_eq, List, [], ◌∷◌, ◌++◌, length, take, get_or, append_assoc, if◌then◌else◌}
use Rattle.std.specs.List.{flat_map, list_any}
use Rattle.std.proofs.lemmas.List.{append-nil}
use Rattle.std.proofs.lemmas.List.Folds.{list_any-append}
use Rattle.std.proofs.lemmas.Bool.Decides.{nat_tests}
use Rattle.basics.proofs.Bools.{or_false}
use Rattle.pddl_names.specs.Declarations.{Text}
use Rattle.ground_world.specs.World.{place_in}
use Rattle.ground_world.specs.Building.{Marks}
use Rattle.ground_world.proofs.Steps.{parts_more}

turned_round : (p q : ℕ) → nat_eq p q ≡ (q == p)
turned_round p q = grind (arith, nat_tests)

one_place : (p q : ℕ) → nat_eq p q ≡ true → p ≡ q
one_place p q h = grind (arith, nat_tests)

-- one place more
pub place_added : (places : List ℕ) (q : ℕ) (p : ℕ)
    → list_any (nat_eq p) (if list_any (nat_eq q) places then places else places ++ (q ∷ [])) ≡ (list_any (nat_eq p) places || nat_eq p q)
place_added places q p = by (list_any (nat_eq q) places) refl
  where
    there : list_any (nat_eq q) places ≡ true → (c : Bool) → nat_eq p q ≡ c → list_any (nat_eq p) places ≡ (list_any (nat_eq p) places || c)
    there h true e = let f : list_any (nat_eq p) places ≡ true = ap (λ n. list_any (nat_eq n) places) (one_place p q e) ∙ h in f ∙ sym (ap (λ b. b || true) f)
    there h false e = sym (or_false (list_any (nat_eq p) places))

    by : (b : Bool) → list_any (nat_eq q) places ≡ b → list_any (nat_eq p) (if b then places else places ++ (q ∷ [])) ≡ (list_any (nat_eq p) places || nat_eq p q)
    by true h = there h (nat_eq p q) refl
    by false h = list_any-append (nat_eq p) places (q ∷ []) ∙ ap (λ b. list_any (nat_eq p) places || b) (or_false (nat_eq p q))

pub marks_more : (names : List Text) (places later : List ℕ) (name : Text) (q : ℕ) → q ≡ place_in names name
    → later ≡ (if list_any (nat_eq q) places then places else places ++ (q ∷ []))
    → (before : List Text) → Marks names places before → Marks names later (before ++ (name ∷ []))
marks_more names places later name q is also before h p =
    ap (list_any (nat_eq p)) also ∙ place_added places q p ∙ ap₂ (λ a b. a || b) (h p) (turned_round p q ∙ ap (λ n. n == p) is ∙ sym (or_false (place_in names name == p)))
    ∙ sym (list_any-append (λ n. place_in names n == p) before (name ∷ []))

pub marks_none : (names : List Text) (places : List ℕ) (before : List Text) → Marks names places before → Marks names places (before ++ [])
marks_none names places before h = subst (Marks names places) (sym (append-nil before)) h

-- along a list of items with names
pub marks_loop : {X : Type 0} (f : X → List Text) (names : List Text) (places : List ℕ) (before : List Text) (xs : List X) (i : ℕ) (x : X)
    → i < length xs → x ≡ get_or xs i x → Marks names places ((before ++ flat_map f (take i xs)) ++ f x) → Marks names places (before ++ flat_map f (take (i + 1) xs))
marks_loop f names places before xs i x lt at h =
    subst (Marks names places) (append_assoc before (flat_map f (take i xs)) (f x) ∙ ap (λ l. before ++ l) (sym (parts_more f xs i x lt at))) h
