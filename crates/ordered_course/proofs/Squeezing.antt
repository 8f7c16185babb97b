-- An instant between two others, after some steps and before some others.
use Rattle.std.proofs.Common.{◌≡◌, refl, Bool, true, false, List, [], ◌∷◌, inl, inr}
use Rattle.std.specs.Prelude.{◌⊎◌}
use Rattle.std.specs.List.{AllByRecursion}
use Rattle.rational.specs.Rational.{ℚ, ◌<ℚ◌, ◌≤ℚ◌}
use Rattle.rational.proofs.Order.{lt_le, le_or_gt}
use Rattle.rational.specs.Segment.{halfway}
use Rattle.rational.proofs.Inequalities.{le_refl, le_trans, lt_le_trans, le_lt_trans, below_halfway, halfway_below}
use Rattle.task_types.specs.Plan.{Step}
use Rattle.task_types.proofs.Everyone.{all_both, all_map}
use Rattle.ordered_course.proofs.ListFacts.{true_and_false}

-- the latest of a time and those of the steps that pass, which all have a property
record Latest (Q : ℚ → Type 0) (p : Step → Bool) (t : ℚ) (xs : List Step) : Type 0 where
  time : ℚ
  so : Q time
  no_earlier : t ≤ℚ time
  all : AllByRecursion (λ x. p x ≡ true → x.time ≤ℚ time) xs

record Earliest (Q : ℚ → Type 0) (p : Step → Bool) (t : ℚ) (ys : List Step) : Type 0 where
  time : ℚ
  so : Q time
  no_later : time ≤ℚ t
  all : AllByRecursion (λ y. p y ≡ true → time ≤ℚ y.time) ys

latest : (Q : ℚ → Type 0) (p : Step → Bool) (t : ℚ) (xs : List Step) → Q t → AllByRecursion (λ x. p x ≡ true → Q x.time) xs → Latest Q p t xs
latest Q p t [] q h = record { time = t; so = q; no_earlier = le_refl t; all = tt }
latest Q p t (x ∷ xs) q h = go (p x) refl (le_or_gt t x.time) (λ u r. latest Q p u xs r h.1)
  where
    go : (b : Bool) → p x ≡ b → (t ≤ℚ x.time) ⊎ (x.time <ℚ t) → ((u : ℚ) → Q u → Latest Q p u xs) → Latest Q p t (x ∷ xs)
    go false e o r = let l = r t q in record { time = l.time; so = l.so; no_earlier = l.no_earlier; all = (λ c. true_and_false (p x) c e, l.all) }
    go true e (inl o) r = let l = r x.time (h.0 e) in record { time = l.time; so = l.so; no_earlier = le_trans t x.time l.time o l.no_earlier; all = (λ c. l.no_earlier, l.all) }
    go true e (inr o) r = let l = r t q in record { time = l.time; so = l.so; no_earlier = l.no_earlier; all = (λ c. le_trans x.time t l.time (lt_le x.time t o) l.no_earlier, l.all) }

earliest : (Q : ℚ → Type 0) (p : Step → Bool) (t : ℚ) (ys : List Step) → Q t → AllByRecursion (λ y. p y ≡ true → Q y.time) ys → Earliest Q p t ys
earliest Q p t [] q h = record { time = t; so = q; no_later = le_refl t; all = tt }
earliest Q p t (y ∷ ys) q h = go (p y) refl (le_or_gt t y.time) (λ u r. earliest Q p u ys r h.1)
  where
    go : (b : Bool) → p y ≡ b → (t ≤ℚ y.time) ⊎ (y.time <ℚ t) → ((u : ℚ) → Q u → Earliest Q p u ys) → Earliest Q p t (y ∷ ys)
    go false e o r = let l = r t q in record { time = l.time; so = l.so; no_later = l.no_later; all = (λ c. true_and_false (p y) c e, l.all) }
    go true e (inl o) r = let l = r t q in record { time = l.time; so = l.so; no_later = l.no_later; all = (λ c. le_trans l.time t y.time l.no_later o, l.all) }
    go true e (inr o) r = let l = r y.time (h.0 e) in record { time = l.time; so = l.so; no_later = le_trans l.time y.time t l.no_later (lt_le y.time t o); all = (λ c. l.no_later, l.all) }

-- an instant strictly between two times, after those of some steps that pass and before those of some others
pub record Between (p : Step → Bool) (xs ys : List Step) (from to : ℚ) : Type 0 where
  pub time : ℚ
  pub after : from <ℚ time
  pub before : time <ℚ to
  pub first : AllByRecursion (λ x. p x ≡ true → x.time <ℚ time) xs
  pub second : AllByRecursion (λ y. p y ≡ true → time <ℚ y.time) ys

pub squeezed : (p : Step → Bool) (xs ys : List Step) (from to : ℚ) → from <ℚ to
    → AllByRecursion (λ x. p x ≡ true → x.time <ℚ to) xs → AllByRecursion (λ y. p y ≡ true → from <ℚ y.time) ys
    → AllByRecursion (λ x. p x ≡ true → AllByRecursion (λ y. p y ≡ true → x.time <ℚ y.time) ys) xs → Between p xs ys from to
squeezed p xs ys from to gap a b c = record {
  time = halfway low.time high.time;
  after = le_lt_trans from low.time (halfway low.time high.time) low.no_earlier (below_halfway low.time high.time high.so);
  before = lt_le_trans (halfway low.time high.time) high.time to (halfway_below low.time high.time high.so) high.no_later;
  first = all_map (λ x. p x ≡ true → x.time ≤ℚ low.time) (λ x. p x ≡ true → x.time <ℚ halfway low.time high.time) xs (λ x h e. le_lt_trans x.time low.time (halfway low.time high.time) (h e) (below_halfway low.time high.time high.so)) low.all;
  second = all_map (λ y. p y ≡ true → high.time ≤ℚ y.time) (λ y. p y ≡ true → halfway low.time high.time <ℚ y.time) ys (λ y h e. lt_le_trans (halfway low.time high.time) high.time y.time (halfway_below low.time high.time high.so) (h e)) high.all;
}
  where
    low : Latest (λ t. (t <ℚ to) × AllByRecursion (λ y. p y ≡ true → t <ℚ y.time) ys) p from xs
    low = latest (λ t. (t <ℚ to) × AllByRecursion (λ y. p y ≡ true → t <ℚ y.time) ys) p from xs (gap, b)
        (all_both (λ x. p x ≡ true → x.time <ℚ to) (λ x. p x ≡ true → AllByRecursion (λ y. p y ≡ true → x.time <ℚ y.time) ys) (λ x. p x ≡ true → (x.time <ℚ to) × AllByRecursion (λ y. p y ≡ true → x.time <ℚ y.time) ys) xs (λ x f g e. (f e, g e)) a c)

    high : Earliest (λ t. low.time <ℚ t) p to ys
    high = earliest (λ t. low.time <ℚ t) p to ys low.so.0 low.so.1
