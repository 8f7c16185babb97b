-- Clashes noted by windows are the clashes of all pairs of steps, in any order.
use Rattle.std.proofs.Common.{◌≡◌, refl, sym, ap, subst, ◌∙◌, ℕ, ◌+◌, ◌<◌, Bool, true, false, ◌&&◌, ◌||◌, if◌then◌else◌, List, [], ◌∷◌, length, drop, inl, inr, arith}
use Rattle.std.specs.Prelude.{◌⊎◌, Option, nat_le, slice_index_or, IsPermutation}
use native.Mathlib.Decide.{dec_lt}
use Rattle.std.specs.List.{AllByRecursion}
use Rattle.std.proofs.lemmas.List.{drop_more}
use Rattle.rational.specs.Rational.{◌+ℚ◌, ◌≤ℚ◌}
use Rattle.rational.proofs.Inequalities.{le_trans}
use Rattle.basics.proofs.Bools.{or_true}
use Rattle.basics.proofs.Lists.{each_append, each_left, each_right}
use Rattle.basics.proofs.Naturals.{le_in, le_out}
use Rattle.task_types.specs.declared.parts.Rules.{Rules}
use Rattle.task_types.specs.declared.parts.TaskParts.{TaskParts}
use Rattle.task_types.specs.Tests.{◌≤?◌, ◌⇒◌}
use Rattle.task_types.specs.Plan.{Step, snap_of}
use Rattle.task_types.specs.Clash.{clash}
use Rattle.task_types.proofs.Comparisons as rationals
use Rattle.task_types.proofs.Links.{clash_comm}
use Rattle.timed_meaning.specs.declared.steps.OwnedStep.{OwnedStep}
use Rattle.timed_meaning.specs.Owned.{steps_of}
use Rattle.timed_meaning.specs.Sorts.{NeverFall}
use Rattle.plan_validator.specs.Firsts.{Place, Note, noted, all_noted}
use Rattle.plan_validator.specs.Clashes.{is_far, pair_place, is_kept, window_notes, clash_notes}
use Rattle.plan_validator.proofs.Choosing.{EachPair, pairs-reordered}

module _ (task : TaskParts) (rules : Rules) (n : ℕ) where
  far-kept : (x y : OwnedStep) → is_far rules x y ≡ true → is_kept task rules n x y ≡ true
  far-kept x y e = ap (λ b. (nat_le n x.owner && nat_le n y.owner) || b) (apart (clash task (snap_of task x.step.snap) (snap_of task y.step.snap))) ∙ or_true (nat_le n x.owner && nat_le n y.owner)
    where
      asked : (c : Bool) → (c ⇒ (true || (y.step.time +ℚ rules.epsilon ≤? x.step.time))) ≡ true
      asked true = refl
      asked false = refl

      apart : (c : Bool) → (c ⇒ ((x.step.time +ℚ rules.epsilon ≤? y.step.time) || (y.step.time +ℚ rules.epsilon ≤? x.step.time))) ≡ true
      apart c = ap (λ b. c ⇒ (b || (y.step.time +ℚ rules.epsilon ≤? x.step.time))) e ∙ asked c

  -- the relation of two steps that is asked where their place is chosen
  module _ (Q : Place → Type 0) where
    abbrev pub AreKept : OwnedStep → OwnedStep → Type 0
    AreKept x y = Q (pair_place x y) → is_kept task rules n x y ≡ true

    all-far : (x y : OwnedStep) (ys : List OwnedStep) → is_far rules x y ≡ true → AllByRecursion (λ (z : Step). y.step.time ≤ℚ z.time) (steps_of ys) → AllByRecursion (AreKept x) ys
    all-far x y [] e h = tt
    all-far x y (z ∷ zs) e h = ((λ q. far-kept x z (rationals.le_in (x.step.time +ℚ rules.epsilon) z.step.time (le_trans (x.step.time +ℚ rules.epsilon) y.step.time z.step.time (rationals.le_out (x.step.time +ℚ rules.epsilon) y.step.time e) h.0))), all-far x y zs e h.1)

    abbrev Met : Note → Type 0
    Met k = Q k.0 → k.1 ≡ true

    window_in : (x : OwnedStep) (ys : List OwnedStep) → AllByRecursion (AreKept x) ys → AllByRecursion Met (window_notes task rules n x ys)
    window_in x [] h = tt
    window_in x (y ∷ ys) h = go (is_far rules x y) (window_in x ys h.1)
      where
        go : (b : Bool) → AllByRecursion Met (window_notes task rules n x ys) → AllByRecursion Met (if b then [] else ((pair_place x y, is_kept task rules n x y) ∷ window_notes task rules n x ys))
        go true r = tt
        go false r = (h.0, r)

    window_out : (x : OwnedStep) (ys : List OwnedStep) → NeverFall (steps_of ys) → AllByRecursion Met (window_notes task rules n x ys) → AllByRecursion (AreKept x) ys
    window_out x [] f h = tt
    window_out x (y ∷ ys) f h = go (is_far rules x y) refl h (window_out x ys f.1)
      where
        go : (b : Bool) → is_far rules x y ≡ b → AllByRecursion Met (if b then [] else ((pair_place x y, is_kept task rules n x y) ∷ window_notes task rules n x ys))
            → (AllByRecursion Met (window_notes task rules n x ys) → AllByRecursion (AreKept x) ys) → AllByRecursion (AreKept x) (y ∷ ys)
        go true e k r = ((λ q. far-kept x y e), all-far x y ys e f.0)
        go false e k r = (k.0, r k.1)

    pub windows_in : (xs : List OwnedStep) → EachPair AreKept xs → AllByRecursion Met (clash_notes task rules n xs)
    windows_in [] h = tt
    windows_in (x ∷ xs) h = each_append Met (window_notes task rules n x xs) (clash_notes task rules n xs) (window_in x xs h.0) (windows_in xs h.1)

    pub windows_out : (xs : List OwnedStep) → NeverFall (steps_of xs) → AllByRecursion Met (clash_notes task rules n xs) → EachPair AreKept xs
    windows_out [] f h = tt
    windows_out (x ∷ xs) f h = (window_out x xs f.1 (each_left Met (window_notes task rules n x xs) (clash_notes task rules n xs) h), windows_out xs f.1 (each_right Met (window_notes task rules n x xs) (clash_notes task rules n xs) h))

    -- ---- in any order

    place-turned : (x y : OwnedStep) → pair_place x y ≡ pair_place y x
    place-turned x y = go (nat_le x.owner y.owner) (nat_le y.owner x.owner) refl refl
      where
        pair : ℕ → ℕ → Place
        pair a b = (a, b)

        go : (a b : Bool) → nat_le x.owner y.owner ≡ a → nat_le y.owner x.owner ≡ b → (if a then pair x.owner y.owner else pair y.owner x.owner) ≡ (if b then pair y.owner x.owner else pair x.owner y.owner)
        go true true e f = let q : x.owner ≡ y.owner = omega (arith, le_out x.owner y.owner e, le_out y.owner x.owner f) in ap (λ a. pair a y.owner) q ∙ ap (λ a. pair y.owner a) (sym q)
        go true false e f = refl
        go false true e f = refl
        go false false e f = absurd (neither (nat_le_total x.owner y.owner))
          where
            nat_le_total : (a b : ℕ) → (nat_le a b ≡ true) ⊎ (nat_le b a ≡ true)
            nat_le_total a b = elim (dec_lt a b) [ yes l ↦ inl (le_in a b (omega (arith, l))) | no l ↦ inr (le_in b a (omega (arith, l))) ]

            neither : (nat_le x.owner y.owner ≡ true) ⊎ (nat_le y.owner x.owner ≡ true) → ⊥
            neither (inl t) = let c : false ≡ true = sym e ∙ t in cc
            neither (inr t) = let c : false ≡ true = sym f ∙ t in cc

    kept-turned : (x y : OwnedStep) → is_kept task rules n x y ≡ is_kept task rules n y x
    kept-turned x y = rw (clash_comm task (snap_of task x.step.snap) (snap_of task y.step.snap)) (go (nat_le n x.owner) (nat_le n y.owner) (clash task (snap_of task y.step.snap) (snap_of task x.step.snap)) (x.step.time +ℚ rules.epsilon ≤? y.step.time) (y.step.time +ℚ rules.epsilon ≤? x.step.time))
      where
        go : (a b c d e : Bool) → ((a && b) || (c ⇒ (d || e))) ≡ ((b && a) || (c ⇒ (e || d)))
        go true true c d e = refl
        go true false true true true = refl
        go true false true true false = refl
        go true false true false true = refl
        go true false true false false = refl
        go true false false d e = refl
        go false true true true true = refl
        go false true true true false = refl
        go false true true false true = refl
        go false true true false false = refl
        go false true false d e = refl
        go false false true true true = refl
        go false false true true false = refl
        go false false true false true = refl
        go false false true false false = refl
        go false false false d e = refl

    pub kept-reordered : (xs ys : List OwnedStep) → IsPermutation xs ys → EachPair AreKept xs → EachPair AreKept ys
    kept-reordered = pairs-reordered AreKept (λ x y h q. sym (kept-turned x y) ∙ h (subst Q (place-turned y x) q))

-- ---- one step of a window

module _ (task : TaskParts) (rules : Rules) (n : ℕ) (x : OwnedStep) (ys : List OwnedStep) (i : ℕ) (y : OwnedStep) (h : i < length ys) (e : y ≡ slice_index_or ys i y) where
  abbrev rest : List Note
  rest = window_notes task rules n x (drop (i + 1) ys)

  window-at : window_notes task rules n x (drop i ys) ≡ (if is_far rules x y then [] else ((pair_place x y, is_kept task rules n x y) ∷ rest))
  window-at = ap (window_notes task rules n x) (drop_more ys i y h) ∙ ap (λ z. if is_far rules x z then [] else ((pair_place x z, is_kept task rules n x z) ∷ rest)) (sym e)

  -- it ends where the step is far
  pub window-far : (o : Option Place) → is_far rules x y ≡ true → all_noted o (window_notes task rules n x (drop i ys)) ≡ o
  window-far o f = ap (all_noted o) (window-at ∙ ap (λ b. if b then [] else ((pair_place x y, is_kept task rules n x y) ∷ rest)) f)

  -- and goes on with what is noted of a step that isn't
  pub window-near : (o : Option Place) → is_far rules x y ≡ false → all_noted o (window_notes task rules n x (drop i ys)) ≡ all_noted (noted o (pair_place x y, is_kept task rules n x y)) rest
  window-near o f = ap (all_noted o) (window-at ∙ ap (λ b. if b then [] else ((pair_place x y, is_kept task rules n x y) ∷ rest)) f)
