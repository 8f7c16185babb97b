-- What a list holds at a place when entries were written or added one after the other.
use Rattle.exact_lin.specs.Reckoning.{wide_limit}
use Rattle.std.proofs.Common.{◌≡◌, refl, sym, ap, subst, ◌∙◌, ℕ, ◌<◌, Bool, true, false, cond, ◌||◌, ◌==◌, List, [], ◌∷◌, length, map, arith}
use Rattle.std.specs.Prelude.{slice_index_or, slice_set, fold}
use Rattle.std.specs.List.{AllByRecursion, filter}
use Rattle.std.proofs.lemmas.Bool.Decides.{nat_tests}
use Rattle.basics.proofs.Naturals.{same_out, other_out}
use Rattle.std.proofs.lemmas.List.{length-set, get_or-set_same, get_or-set_other}
use Rattle.rational.specs.Rational.{ℚ, zeroℚ, ◌+ℚ◌}
use Rattle.task_types.specs.Tests.{last_or_else}
use Rattle.task_types.specs.Sets.{is_in}
use Rattle.task_types.specs.Course.{entries_of}
use Rattle.exact_lin.specs.Reckonings.{Sum, IsDefined, sums}
use Rattle.timed_meaning.specs.Told.{Defined, marked, written, raised_at, raised, raised_reckoned}

module _ {X : Type 0} (d : X) where
  pub set-at : (xs : List X) (i f : ℕ) (v : X) → i < length xs → slice_index_or (slice_set xs i v) f d ≡ cond (i == f) v (slice_index_or xs f d)
  set-at xs i f v h = go (i == f) refl
    where
      go : (b : Bool) → (i == f) ≡ b → slice_index_or (slice_set xs i v) f d ≡ cond b v (slice_index_or xs f d)
      go true e = subst (λ n. slice_index_or (slice_set xs i v) n d ≡ v) (same_out i f e) (get_or-set_same xs i v d h)
      go false e = get_or-set_other xs i f v d (λ (q : f ≡ i). other_out i f e (sym q))

  pub All-length : (P : ℕ → X → Type 0) (xs : List X) (i : ℕ) (v : X) (n : ℕ) → n < length xs → n < length (slice_set xs i v)
  All-length P xs i v n h = subst (λ m. n < m) (sym (length-set xs i v)) h

-- each entry is at a place of the list
abbrev pub Below : ℕ → List (ℕ × ℚ) → Type 0
Below n es = AllByRecursion (λ e. e.0 < n) es

abbrev pub BelowAll : ℕ → List ℕ → Type 0
BelowAll n fs = AllByRecursion (λ f. f < n) fs

abbrev pub at : List ℚ → ℕ → ℚ
at xs f = slice_index_or xs f zeroℚ

below-set : (xs : List ℚ) (i : ℕ) (v : ℚ) (es : List (ℕ × ℚ)) → Below (length xs) es → Below (length (slice_set xs i v)) es
below-set xs i v es h = subst (λ n. Below n es) (sym (length-set xs i v)) h

pub length-written : (xs : List ℚ) (es : List (ℕ × ℚ)) → length (written xs es) ≡ length xs
length-written xs [] = refl
length-written xs (e ∷ es) = length-written (slice_set xs e.0 e.1) es ∙ length-set xs e.0 e.1

pub length-raised : (xs : List ℚ) (es : List (ℕ × ℚ)) → length (raised xs es) ≡ length xs
length-raised xs [] = refl
length-raised xs (e ∷ es) = length-raised (raised_at xs e) es ∙ length-set xs e.0 (at xs e.0 +ℚ e.1)

pub length-marked : (b : Bool) (xs : List Bool) (fs : List ℕ) → length (marked b xs fs) ≡ length xs
length-marked b xs [] = refl
length-marked b xs (f ∷ fs) = length-marked b (slice_set xs f b) fs ∙ length-set xs f b

-- ---- written, one after the other: the last entry of a place counts

pub written-at : (xs : List ℚ) (es : List (ℕ × ℚ)) (f : ℕ) → Below (length xs) es → at (written xs es) f ≡ last_or_else (at xs f) (entries_of f es)
written-at xs [] f h = refl
written-at xs (e ∷ es) f h = written-at (slice_set xs e.0 e.1) es f (below-set xs e.0 e.1 es h.1)
    ∙ ap (λ q. last_or_else q (entries_of f es)) (set-at zeroℚ xs e.0 f e.1 h.0)
    ∙ go (e.0 == f)
  where
    go : (b : Bool) → last_or_else (cond b e.1 (at xs f)) (entries_of f es) ≡ last_or_else (at xs f) (map (λ e. e.1) (cond b (e ∷ filter (λ e. e.0 == f) es) (filter (λ e. e.0 == f) es)))
    go true = refl
    go false = refl

-- ---- added, one after the other

at-raised_at : (xs : List ℚ) (e : ℕ × ℚ) (f : ℕ) → e.0 < length xs → at (raised_at xs e) f ≡ cond (e.0 == f) (at xs f +ℚ e.1) (at xs f)
at-raised_at xs e f h = set-at zeroℚ xs e.0 f (at xs e.0 +ℚ e.1) h ∙ go (e.0 == f) refl
  where
    go : (b : Bool) → (e.0 == f) ≡ b → cond b (at xs e.0 +ℚ e.1) (at xs f) ≡ cond b (at xs f +ℚ e.1) (at xs f)
    go true d = ap (λ n. at xs n +ℚ e.1) (same_out e.0 f d)
    go false d = refl

pub raised-at : (xs : List ℚ) (es : List (ℕ × ℚ)) (f : ℕ) → Below (length xs) es → at (raised xs es) f ≡ fold (λ q r. q +ℚ r) (at xs f) (entries_of f es)
raised-at xs [] f h = refl
raised-at xs (e ∷ es) f h = raised-at (raised_at xs e) es f (below-set xs e.0 (at xs e.0 +ℚ e.1) es h.1)
    ∙ ap (λ q. fold (λ q r. q +ℚ r) q (entries_of f es)) (at-raised_at xs e f h.0)
    ∙ go (e.0 == f)
  where
    go : (b : Bool) → fold (λ q r. q +ℚ r) (cond b (at xs f +ℚ e.1) (at xs f)) (entries_of f es) ≡ fold (λ q r. q +ℚ r) (at xs f) (map (λ e. e.1) (cond b (e ∷ filter (λ e. e.0 == f) es) (filter (λ e. e.0 == f) es)))
    go true = refl
    go false = refl

-- the sums of the entries in their order are defined exactly where each place's own sums are
abbrev pub OwnSums : List ℚ → List (ℕ × ℚ) → ℕ → Type 0
OwnSums xs es f = Defined (sums (at xs f) (entries_of f es))

own_next : (xs : List ℚ) (e : ℕ × ℚ) (es : List (ℕ × ℚ)) (f : ℕ) → e.0 < length xs → IsDefined wide_limit (Sum (at xs e.0) e.1) → OwnSums (raised_at xs e) es f → OwnSums xs (e ∷ es) f
own_next xs e es f h d o = go (e.0 == f) refl (subst (λ q. Defined (sums q (entries_of f es))) (at-raised_at xs e f h) o)
  where
    go : (b : Bool) → (e.0 == f) ≡ b → Defined (sums (cond b (at xs f +ℚ e.1) (at xs f)) (entries_of f es)) → Defined (sums (at xs f) (map (λ e. e.1) (cond b (e ∷ filter (λ e. e.0 == f) es) (filter (λ e. e.0 == f) es))))
    go true q k = (subst (λ n. IsDefined wide_limit (Sum (at xs n) e.1)) (same_out e.0 f q) d, k)
    go false q k = k

own_rest : (xs : List ℚ) (e : ℕ × ℚ) (es : List (ℕ × ℚ)) (f : ℕ) → e.0 < length xs → OwnSums xs (e ∷ es) f → OwnSums (raised_at xs e) es f
own_rest xs e es f h o = subst (λ q. Defined (sums q (entries_of f es))) (sym (at-raised_at xs e f h)) (go (e.0 == f) o)
  where
    go : (b : Bool) → Defined (sums (at xs f) (map (λ e. e.1) (cond b (e ∷ filter (λ e. e.0 == f) es) (filter (λ e. e.0 == f) es)))) → Defined (sums (cond b (at xs f +ℚ e.1) (at xs f)) (entries_of f es))
    go true k = k.1
    go false k = k

own_first : (xs : List ℚ) (e : ℕ × ℚ) (es : List (ℕ × ℚ)) → OwnSums xs (e ∷ es) e.0 → IsDefined wide_limit (Sum (at xs e.0) e.1)
own_first xs e es o = go (e.0 == e.0) (grind (arith, nat_tests)) o
  where
    go : (b : Bool) → b ≡ true → Defined (sums (at xs e.0) (map (λ e. e.1) (cond b (e ∷ filter (λ d. d.0 == e.0) es) (filter (λ d. d.0 == e.0) es)))) → IsDefined wide_limit (Sum (at xs e.0) e.1)
    go true q k = k.0
    go false q k = cc

pub own-in : (xs : List ℚ) (es : List (ℕ × ℚ)) → Below (length xs) es → Defined (raised_reckoned xs es) → (f : ℕ) → OwnSums xs es f
own-in xs [] h d f = tt
own-in xs (e ∷ es) h d f = own_next xs e es f h.0 d.0 (own-in (raised_at xs e) es (below-set xs e.0 (at xs e.0 +ℚ e.1) es h.1) d.1 f)

pub own-out : (xs : List ℚ) (es : List (ℕ × ℚ)) → Below (length xs) es → ((f : ℕ) → OwnSums xs es f) → Defined (raised_reckoned xs es)
own-out xs [] h o = tt
own-out xs (e ∷ es) h o = (own_first xs e es (o e.0), own-out (raised_at xs e) es (below-set xs e.0 (at xs e.0 +ℚ e.1) es h.1) (λ f. own_rest xs e es f h.0 (o f)))

-- ---- facts

pub marked-at : (b : Bool) (xs : List Bool) (fs : List ℕ) (f : ℕ) → BelowAll (length xs) fs → slice_index_or (marked b xs fs) f false ≡ cond (is_in f fs) b (slice_index_or xs f false)
marked-at b xs [] f h = refl
marked-at b xs (g ∷ fs) f h = marked-at b (slice_set xs g b) fs f (subst (λ n. BelowAll n fs) (sym (length-set xs g b)) h.1)
    ∙ ap (λ q. cond (is_in f fs) b q) (set-at false xs g f b h.0)
    ∙ go (g == f) (is_in f fs)
  where
    go : (i j : Bool) → cond j b (cond i b (slice_index_or xs f false)) ≡ cond (i || j) b (slice_index_or xs f false)
    go true true = refl
    go true false = refl
    go false j = refl
