-- What is chosen from columns: as many objects as there are columns, each from its own.
use Rattle.std.proofs.Common.{◌≡◌, refl, sym, ap, ◌∙◌, ℕ, suc, true, nat_lt, nat_le, ◌==◌, List, [], ◌∷◌, map, length}
use Rattle.std.specs.List.{AllByRecursion as Each, list_any, list_all}
use Rattle.basics.proofs.Bools.{and_left, and_right, and_in}
use Rattle.basics.proofs.Naturals.{same_itself, same_out}
use Rattle.basics.proofs.Lists.{all_out, each_map}
use Rattle.task_types.specs.WellMade.{is_short, are_below, arguments_fit}
use Rattle.ground_world.specs.Bindings.{choices}
use Rattle.grounder.proofs.Each.{each_weaker, each_flat_map, each_found, any_of_each}

fit_more : (c : List ℕ) (cs : List (List ℕ)) (o : ℕ) → list_any (λ x. x == o) c ≡ true → Each (λ os. arguments_fit os cs ≡ true) (choices cs)
    → Each (λ os. arguments_fit os (c ∷ cs) ≡ true) (map (λ rest. o ∷ rest) (choices cs))
fit_more c cs o h k = each_map (λ os. arguments_fit os (c ∷ cs) ≡ true) (λ rest. o ∷ rest) (choices cs)
    (each_weaker (λ os. arguments_fit os cs ≡ true) (λ rest. arguments_fit (o ∷ rest) (c ∷ cs) ≡ true) (λ os e. and_in (list_any (λ x. x == o) c) (arguments_fit os cs) h e) (choices cs) k)

pub choices-fit : (cs : List (List ℕ)) → Each (λ os. arguments_fit os cs ≡ true) (choices cs)
choices-fit [] = (refl, tt)
choices-fit (c ∷ cs) = each_flat_map (λ os. arguments_fit os (c ∷ cs) ≡ true) (λ o. map (λ rest. o ∷ rest) (choices cs)) c
    (each_weaker (λ o. list_any (λ x. x == o) c ≡ true) (λ o. Each (λ os. arguments_fit os (c ∷ cs) ≡ true) (map (λ rest. o ∷ rest) (choices cs)))
    (λ o h. fit_more c cs o h (choices-fit cs)) c (each_found (λ o x. x == o) same_itself [] c))

-- what fits columns of numbers below n
pub fitting-below : (n : ℕ) (os : List ℕ) (cs : List (List ℕ)) → arguments_fit os cs ≡ true → Each (λ c. are_below n c ≡ true) cs → list_all (λ x. nat_lt x n) os ≡ true
fitting-below n [] [] h k = refl
fitting-below n [] (c ∷ cs) h k = refl
fitting-below n (o ∷ os) [] h k = cc
fitting-below n (o ∷ os) (c ∷ cs) h k =
    and_in (nat_lt o n) (list_all (λ x. nat_lt x n) os)
    (any_of_each (λ x. x == o) (λ x. nat_lt x n ≡ true) (nat_lt o n ≡ true) (λ x e l. ap (λ y. nat_lt y n) (sym (same_out x o e)) ∙ l) c
    (all_out (λ x. nat_lt x n) c (and_right (is_short c) (list_all (λ x. nat_lt x n) c) k.0)) (and_left (list_any (λ x. x == o) c) (arguments_fit os cs) h))
    (fitting-below n os cs (and_right (list_any (λ x. x == o) c) (arguments_fit os cs) h) k.1)

pub fitting-length : (os : List ℕ) (cs : List (List ℕ)) → arguments_fit os cs ≡ true → length os ≡ length cs
fitting-length [] [] h = refl
fitting-length [] (c ∷ cs) h = cc
fitting-length (o ∷ os) [] h = cc
fitting-length (o ∷ os) (c ∷ cs) h = ap suc (fitting-length os cs (and_right (list_any (λ x. x == o) c) (arguments_fit os cs) h))

pub fitting-are_below : (n : ℕ) (os : List ℕ) (cs : List (List ℕ)) → arguments_fit os cs ≡ true → is_short cs ≡ true → Each (λ c. are_below n c ≡ true) cs → are_below n os ≡ true
fitting-are_below n os cs h s k = and_in (is_short os) (list_all (λ x. nat_lt x n) os) (ap (λ m. nat_le m 1048576) (fitting-length os cs h) ∙ s) (fitting-below n os cs h k)
