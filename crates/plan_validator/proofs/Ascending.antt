-- Items at ascending places, list by list.
use Rattle.std.proofs.Common.{◌≡◌, ℕ, zero, suc, ◌+◌, ◌≤◌, List, [], ◌∷◌, ◌++◌, map, inr, refl, sym, subst, arith}
use Rattle.std.specs.List.{AllByRecursion, range_with_len}
use Rattle.basics.proofs.Lists.{each_append}
use Rattle.plan_validator.specs.Firsts.{Place}
use Rattle.plan_validator.proofs.Noting.{Precedes, Placed, AreAscending}

pub ascending-append : {X : Type 0} (xs ys : List (Placed X)) → AreAscending xs → AreAscending ys → AllByRecursion (λ x. AllByRecursion (λ y. Precedes x.place y.place) ys) xs → AreAscending (xs ++ ys)
ascending-append [] ys a b c = b
ascending-append (x ∷ xs) ys a b c = (each_append (λ y. Precedes x.place y.place) xs ys a.0 c.0, ascending-append xs ys a.1 b c.1)

-- items of one line, from a number on
pub numbered-above : {X : Type 0} (f : ℕ → Placed X) (i : ℕ) → ((k : ℕ) → (f k).place ≡ (i, k)) → (p : Place) (a n : ℕ) → ((k : ℕ) → a ≤ k → Precedes p (i, k)) → AllByRecursion (λ d. Precedes p d.place) (map f (range_with_len a n))
numbered-above f i e p a zero h = tt
numbered-above f i e p a (suc n) h = (subst (λ (q : Place). Precedes p q) (sym (e a)) (h a (omega arith)), numbered-above f i e p (a + 1) n (λ k l. h k (omega (arith, l))))

pub numbered-ascend : {X : Type 0} (f : ℕ → Placed X) (i : ℕ) → ((k : ℕ) → (f k).place ≡ (i, k)) → (a n : ℕ) → AreAscending (map f (range_with_len a n))
numbered-ascend f i e a zero = tt
numbered-ascend f i e a (suc n) = (numbered-above f i e (f a).place (a + 1) n (λ k l. subst (λ (q : Place). Precedes q (i, k)) (sym (e a)) (inr (refl, omega (arith, l)))), numbered-ascend f i e (a + 1) n)
