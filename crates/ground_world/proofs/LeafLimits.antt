-- Leaves within their limits, inside some bindings.
use Rattle.std.proofs.Common.{◌≡◌, refl, sym, ap, ap₂, ◌∙◌, ℕ, ◌+◌, ◌*◌, ◌<◌, ◌≤◌, min, Bool, true, false, ◌&&◌, List, [], ◌∷◌, length, take, get_or, Result, IfOk}
use Rattle.std.specs.List.{list_all, flat_map}
use Rattle.std.proofs.Math.Bool.{and-true}
use Rattle.std.proofs.Math.Nat.{mul_assoc, mul-one, one-mul}
use Rattle.std.proofs.Math.Path.{fun_ext}
use Rattle.std.proofs.lemmas.List.{take_all}
use Rattle.std.proofs.lemmas.List.Folds.{list_all-append, list_all_more, list_all_at}
use Rattle.std.proofs.lemmas.Result.{IfOk-weaker}
use Rattle.pddl_terms.specs.declared.trees.Group.{Group}
use Rattle.ground_world.specs.World.{World, columns}
use Rattle.ground_world.specs.Bindings.{choice_count}
use Rattle.ground_world.specs.Leaves.{Leaf, within, bare}
use Rattle.ground_world.specs.Counts.{fit_limits, around_count}

pub list_all-flat_map : {X Y : Type 0} (p : Y → Bool) (f : X → List Y) (xs : List X) → list_all p (flat_map f xs) ≡ list_all (λ x. list_all p (f x)) xs
list_all-flat_map p f [] = refl
list_all-flat_map p f (x ∷ xs) = list_all-append p (f x) (flat_map f xs) ∙ ap (λ b. list_all p (f x) && b) (list_all-flat_map p f xs)

-- a loop that looks at one item after another, and ends at the first that fails
module _ {X : Type 0} (p : X → Bool) (xs : List X) (i : ℕ) where
  pub one-more : (x : X) → i < length xs → x ≡ get_or xs i x → list_all p (take i xs) ≡ true → p x ≡ true → list_all p (take (i + 1) xs) ≡ true
  one-more x lt at h k = list_all_more p xs i x lt ∙ ap₂ (λ a b. a && b) h (ap p (sym at) ∙ k)

  pub one-fails : (x : X) → i < length xs → x ≡ get_or xs i x → p x ≡ false → false ≡ list_all p xs
  one-fails x lt at k = sym (list_all_at p xs i x lt (ap p (sym at) ∙ k))

  pub all-looked : length xs ≤ i → list_all p (take i xs) ≡ true → true ≡ list_all p xs
  all-looked le h = sym h ∙ ap (list_all p) (take_all i xs le)

module _ (w : World) {A : Type 0} (count : A → ℕ) where
  abbrev leaf_fits : ℕ → Leaf A → Bool
  leaf_fits outer l = fit_limits (outer * around_count w l.around) (count l.leaf)

  -- a leaf without variables
  pub fits-bare : (n : ℕ) (x : A) → list_all (leaf_fits n) (bare x) ≡ fit_limits n (count x)
  fits-bare n x = and-true (fit_limits (n * 1) (count x)) ∙ ap (λ k. fit_limits k (count x)) (mul-one n)

  -- one list of variables more
  pub fits-within : (n : ℕ) (vars : List Group) (ls : List (Leaf A))
      → list_all (leaf_fits n) (within vars ls) ≡ list_all (leaf_fits (n * choice_count (columns w vars))) ls
  fits-within n vars [] = refl
  fits-within n vars (l ∷ ls) =
      ap₂ (λ a b. a && b) (ap (λ k. fit_limits k (count l.leaf)) (sym (mul_assoc n (choice_count (columns w vars)) (around_count w l.around))))
      (fits-within n vars ls)

  -- inside no bindings but the empty one
  pub fits-outermost : (ls : List (Leaf A)) → list_all (leaf_fits 1) ls ≡ list_all (λ l. fit_limits (around_count w l.around) (count l.leaf)) ls
  fits-outermost ls = ap (λ (p : Leaf A → Bool). list_all p ls) (fun_ext (λ l. ap (λ k. fit_limits k (count l.leaf)) (one-mul (around_count w l.around))))

-- what is found for some number of outer bindings, of which only a count that stops at the cap is known
abbrev pub Found : (ℕ → Bool) → ℕ → Bool → Type 0
Found fits outer found = (n : ℕ) → outer ≡ min 1048577 n → found ≡ fits n

pub found-same : {E : Type 0} (r : Result Bool E) (A B : ℕ → Bool) (outer : ℕ) → ((n : ℕ) → A n ≡ B n) → IfOk r (Found A outer) → IfOk r (Found B outer)
found-same r A B outer e h = IfOk-weaker r (Found A outer) (Found B outer) (λ found k. λ n l. k n l ∙ e n) h

pub found-inside : {E : Type 0} (r : Result Bool E) (A B : ℕ → Bool) (outer inner : ℕ) (f : ℕ → ℕ)
    → ((n : ℕ) → outer ≡ min 1048577 n → inner ≡ min 1048577 (f n)) → ((n : ℕ) → A (f n) ≡ B n) → IfOk r (Found A inner) → IfOk r (Found B outer)
found-inside r A B outer inner f g e h = IfOk-weaker r (Found A inner) (Found B outer) (λ found k. λ n l. k (f n) (g n l) ∙ e n) h
