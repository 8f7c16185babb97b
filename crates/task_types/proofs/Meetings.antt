-- Links are read off the touches of two snap actions.
use Rattle.std.proofs.Common.{◌≡◌, refl, ap, ◌∙◌, ℕ, ◌+◌, ◌<◌, Bool, true, false, ◌&&◌, ◌||◌, ◌==◌, List, [], ◌∷◌, ◌++◌, arith}
use Rattle.std.specs.Prelude.{if◌then◌else◌}
use Rattle.std.specs.List.{list_any, flat_map, enumerate_from}
use Rattle.std.proofs.lemmas.Bool.{eq-eqb}
use Rattle.std.proofs.lemmas.Bool.Decides.{nat_tests}
use Rattle.std.proofs.lemmas.List.Folds.{list_any-append}
use Rattle.task_types.specs.declared.actions.Snap.{Snap}
use Rattle.task_types.specs.declared.parts.TaskParts.{TaskParts}
use Rattle.task_types.specs.declared.tokens.Token.{Token}
use Rattle.task_types.specs.declared.tokens.Touch.{Touch}
use Rattle.task_types.specs.declared.tokens.Touch.TheVariants.{Look, Mark, Bend}
use Rattle.task_types.specs.Touch.{looks, marks, bends, touches_on, touches_of, tokens}
use Rattle.task_types.specs.Order.{link, sets_apart, sets_order}
use Rattle.task_types.specs.Laws.{marks_apart, bends_one, some_meeting, LinksByTouches}

-- entries whose tokens are all n, or all above n
abbrev At : ℕ → List (ℕ × Touch) → Type 0
At n [] = Unit {0}
At n (x ∷ xs) = (x.0 ≡ n) × At n xs

abbrev Above : ℕ → List (ℕ × Touch) → Type 0
Above n [] = Unit {0}
Above n (x ∷ xs) = (n < x.0) × Above n xs

at_append : (n : ℕ) (xs ys : List (ℕ × Touch)) → At n xs → At n ys → At n (xs ++ ys)
at_append n [] ys h k = k
at_append n (x ∷ xs) ys h k = (h.0, at_append n xs ys h.1 k)

above_append : (n : ℕ) (xs ys : List (ℕ × Touch)) → Above n xs → Above n ys → Above n (xs ++ ys)
above_append n [] ys h k = k
above_append n (x ∷ xs) ys h k = (h.0, above_append n xs ys h.1 k)

above_at : (n m : ℕ) (xs : List (ℕ × Touch)) → n < m → At m xs → Above n xs
above_at n m [] l h = tt
above_at n m (x ∷ xs) l h = (omega (arith, h.0), above_at n m xs l h.1)

one_at : (n : ℕ) (t : Touch) (b : Bool) → At n (if b then (n, t) ∷ [] else [])
one_at n t true = (refl, tt)
one_at n t false = tt

on_at : (task : TaskParts) (s : Snap) (n : ℕ) (t : Token) → At n (touches_on task s n t)
on_at task s n t = at_append n ((if looks task s t then (n, Look) ∷ [] else []) ++ (if marks task s t then (n, Mark) ∷ [] else [])) (if bends task s t then (n, Bend) ∷ [] else [])
    (at_append n (if looks task s t then (n, Look) ∷ [] else []) (if marks task s t then (n, Mark) ∷ [] else []) (one_at n Look (looks task s t)) (one_at n Mark (marks task s t))) (one_at n Bend (bends task s t))

later_above : (task : TaskParts) (s : Snap) (n m : ℕ) (ts : List Token) → n < m → Above n (flat_map (λ t. touches_on task s t.0 t.1) (enumerate_from m ts))
later_above task s n m [] l = tt
later_above task s n m (t ∷ ts) l = above_append n (touches_on task s m t) (flat_map (λ t. touches_on task s t.0 t.1) (enumerate_from (m + 1) ts)) (above_at n m (touches_on task s m t) l (on_at task s m t)) (later_above task s n (m + 1) ts (omega arith))

differs : (m n : ℕ) → m < n → (m == n) ≡ false
differs m n h = grind (arith, nat_tests)

differs_back : (m n : ℕ) → n < m → (m == n) ≡ false
differs_back m n h = grind (arith, nat_tests)

module _ (test : Touch → Touch → Bool) where
  none_above : (n : ℕ) (x : ℕ × Touch) (ys : List (ℕ × Touch)) → x.0 ≡ n → Above n ys → list_any (λ y. (x.0 == y.0) && test x.1 y.1) ys ≡ false
  none_above n x [] e h = refl
  none_above n x (y ∷ ys) e h = rw (differs x.0 y.0 (omega (arith, h.0, e))) (none_above n x ys e h.1)

  none_at : (n : ℕ) (x : ℕ × Touch) (ys : List (ℕ × Touch)) → n < x.0 → At n ys → list_any (λ y. (x.0 == y.0) && test x.1 y.1) ys ≡ false
  none_at n x [] l h = refl
  none_at n x (y ∷ ys) l h = rw (differs_back x.0 y.0 (omega (arith, h.0, l))) (none_at n x ys l h.1)

  apart_lists : (n : ℕ) (xs ys : List (ℕ × Touch)) → At n xs → Above n ys → some_meeting test xs ys ≡ false
  apart_lists n [] ys h k = refl
  apart_lists n (x ∷ xs) ys h k = rw (none_above n x ys h.0 k) (apart_lists n xs ys h.1 k)

  lists_apart : (n : ℕ) (xs ys : List (ℕ × Touch)) → Above n xs → At n ys → some_meeting test xs ys ≡ false
  lists_apart n [] ys h k = refl
  lists_apart n (x ∷ xs) ys h k = rw (none_at n x ys h.0 k) (lists_apart n xs ys h.1 k)

  meeting-append_right : (xs ys zs : List (ℕ × Touch)) → some_meeting test xs (ys ++ zs) ≡ (some_meeting test xs ys || some_meeting test xs zs)
  meeting-append_right [] ys zs = refl
  meeting-append_right (x ∷ xs) ys zs = ap (λ b. b || some_meeting test xs (ys ++ zs)) (list_any-append (λ y. (x.0 == y.0) && test x.1 y.1) ys zs)
      ∙ ap (λ b. (list_any (λ y. (x.0 == y.0) && test x.1 y.1) ys || list_any (λ y. (x.0 == y.0) && test x.1 y.1) zs) || b) (meeting-append_right xs ys zs)
      ∙ middle (list_any (λ y. (x.0 == y.0) && test x.1 y.1) ys) (list_any (λ y. (x.0 == y.0) && test x.1 y.1) zs) (some_meeting test xs ys) (some_meeting test xs zs)
    where
      middle : (a b c d : Bool) → ((a || b) || (c || d)) ≡ ((a || c) || (b || d))
      middle true b c d = refl
      middle false true true d = refl
      middle false true false d = refl
      middle false false c d = refl

  meeting-append_left : (xs ys zs : List (ℕ × Touch)) → some_meeting test (xs ++ ys) zs ≡ (some_meeting test xs zs || some_meeting test ys zs)
  meeting-append_left xs ys zs = list_any-append (λ x. list_any (λ y. (x.0 == y.0) && test x.1 y.1) zs) xs ys

  -- what the touches on one token say
  module _ (task : TaskParts) (x y : Snap) (on : Token → Bool) (here : (n : ℕ) (t : Token) → some_meeting test (touches_on task x n t) (touches_on task y n t) ≡ on t) where
    meetings : (n : ℕ) (ts : List Token) → some_meeting test (flat_map (λ t. touches_on task x t.0 t.1) (enumerate_from n ts)) (flat_map (λ t. touches_on task y t.0 t.1) (enumerate_from n ts)) ≡ list_any on ts
    meetings n [] = refl
    meetings n (t ∷ ts) =
        meeting-append_left (touches_on task x n t) (flat_map (λ t. touches_on task x t.0 t.1) (enumerate_from (n + 1) ts)) (touches_on task y n t ++ flat_map (λ t. touches_on task y t.0 t.1) (enumerate_from (n + 1) ts))
        ∙ ap (λ b. b || some_meeting test (flat_map (λ t. touches_on task x t.0 t.1) (enumerate_from (n + 1) ts)) (touches_on task y n t ++ flat_map (λ t. touches_on task y t.0 t.1) (enumerate_from (n + 1) ts)))
        (meeting-append_right (touches_on task x n t) (touches_on task y n t) (flat_map (λ t. touches_on task y t.0 t.1) (enumerate_from (n + 1) ts))
        ∙ ap (λ b. b || some_meeting test (touches_on task x n t) (flat_map (λ t. touches_on task y t.0 t.1) (enumerate_from (n + 1) ts))) (here n t)
        ∙ ap (λ b. on t || b) (apart_lists n (touches_on task x n t) (flat_map (λ t. touches_on task y t.0 t.1) (enumerate_from (n + 1) ts)) (on_at task x n t) (later_above task y n (n + 1) ts (omega arith))))
        ∙ ap (λ b. (on t || false) || b) (meeting-append_right (flat_map (λ t. touches_on task x t.0 t.1) (enumerate_from (n + 1) ts)) (touches_on task y n t) (flat_map (λ t. touches_on task y t.0 t.1) (enumerate_from (n + 1) ts))
        ∙ ap (λ b. b || some_meeting test (flat_map (λ t. touches_on task x t.0 t.1) (enumerate_from (n + 1) ts)) (flat_map (λ t. touches_on task y t.0 t.1) (enumerate_from (n + 1) ts))) (lists_apart n (flat_map (λ t. touches_on task x t.0 t.1) (enumerate_from (n + 1) ts)) (touches_on task y n t) (later_above task x n (n + 1) ts (omega arith)) (on_at task y n t))
        ∙ meetings (n + 1) ts)
        ∙ ap (λ b. b || list_any on ts) (or_false (on t))
      where
        or_false : (b : Bool) → (b || false) ≡ b
        or_false true = refl
        or_false false = refl

-- ---- one token: the looks, marks and bends of both

abbrev entries : ℕ → Bool → Bool → Bool → List (ℕ × Touch)
entries n l m b = (if l then (n, Look) ∷ [] else []) ++ (if m then (n, Mark) ∷ [] else []) ++ (if b then (n, Bend) ∷ [] else [])

-- two lists of at most one entry of a token meet where both have it and their touches pass
one_meets : (test : Touch → Touch → Bool) (n : ℕ) (t u : Touch) (a b : Bool) → some_meeting test (if a then (n, t) ∷ [] else []) (if b then (n, u) ∷ [] else []) ≡ (a && (b && test t u))
one_meets test n t u true true = rw (eq-eqb n n refl) (or_false (test t u))
  where
    or_false : (b : Bool) → ((b || false) || false) ≡ b
    or_false true = refl
    or_false false = refl
one_meets test n t u true false = refl
one_meets test n t u false b = refl

nine : (test : Touch → Touch → Bool) (n : ℕ) (a b c d e f : Bool) → some_meeting test (entries n a b c) (entries n d e f)
    ≡ ((((a && (d && test Look Look)) || (a && (e && test Look Mark))) || (a && (f && test Look Bend)))
    || (((b && (d && test Mark Look)) || (b && (e && test Mark Mark))) || (b && (f && test Mark Bend)))
    || (((c && (d && test Bend Look)) || (c && (e && test Bend Mark))) || (c && (f && test Bend Bend))))
nine test n a b c d e f =
    meeting-append_left test ((if a then (n, Look) ∷ [] else []) ++ (if b then (n, Mark) ∷ [] else [])) (if c then (n, Bend) ∷ [] else []) (entries n d e f)
    ∙ ap (λ x. x || some_meeting test (if c then (n, Bend) ∷ [] else []) (entries n d e f)) (meeting-append_left test (if a then (n, Look) ∷ [] else []) (if b then (n, Mark) ∷ [] else []) (entries n d e f))
    ∙ rw (three Look a, three Mark b, three Bend c) refl
  where
    three : (t : Touch) (x : Bool) → some_meeting test (if x then (n, t) ∷ [] else []) (entries n d e f) ≡ (((x && (d && test t Look)) || (x && (e && test t Mark))) || (x && (f && test t Bend)))
    three t x = meeting-append_right test (if x then (n, t) ∷ [] else []) ((if d then (n, Look) ∷ [] else []) ++ (if e then (n, Mark) ∷ [] else [])) (if f then (n, Bend) ∷ [] else [])
        ∙ ap (λ z. z || some_meeting test (if x then (n, t) ∷ [] else []) (if f then (n, Bend) ∷ [] else [])) (meeting-append_right test (if x then (n, t) ∷ [] else []) (if d then (n, Look) ∷ [] else []) (if e then (n, Mark) ∷ [] else []))
        ∙ rw (one_meets test n t Look x d, one_meets test n t Mark x e, one_meets test n t Bend x f) refl

-- the values of the two tests
apart_values : (a b c d e f : Bool) → ((((a && (d && false)) || (a && (e && true))) || (a && (f && false))) || (((b && (d && true)) || (b && (e && true))) || (b && (f && false))) || (((c && (d && false)) || (c && (e && false))) || (c && (f && false)))) ≡ (b && (e || d) || a && e)
apart_values true true true true true true = refl
apart_values true true true true true false = refl
apart_values true true true true false true = refl
apart_values true true true true false false = refl
apart_values true true true false true true = refl
apart_values true true true false true false = refl
apart_values true true true false false true = refl
apart_values true true true false false false = refl
apart_values true true false true true true = refl
apart_values true true false true true false = refl
apart_values true true false true false true = refl
apart_values true true false true false false = refl
apart_values true true false false true true = refl
apart_values true true false false true false = refl
apart_values true true false false false true = refl
apart_values true true false false false false = refl
apart_values true false true true true true = refl
apart_values true false true true true false = refl
apart_values true false true true false true = refl
apart_values true false true true false false = refl
apart_values true false true false true true = refl
apart_values true false true false true false = refl
apart_values true false true false false true = refl
apart_values true false true false false false = refl
apart_values true false false true true true = refl
apart_values true false false true true false = refl
apart_values true false false true false true = refl
apart_values true false false true false false = refl
apart_values true false false false true true = refl
apart_values true false false false true false = refl
apart_values true false false false false true = refl
apart_values true false false false false false = refl
apart_values false true true true true true = refl
apart_values false true true true true false = refl
apart_values false true true true false true = refl
apart_values false true true true false false = refl
apart_values false true true false true true = refl
apart_values false true true false true false = refl
apart_values false true true false false true = refl
apart_values false true true false false false = refl
apart_values false true false true true true = refl
apart_values false true false true true false = refl
apart_values false true false true false true = refl
apart_values false true false true false false = refl
apart_values false true false false true true = refl
apart_values false true false false true false = refl
apart_values false true false false false true = refl
apart_values false true false false false false = refl
apart_values false false true true true true = refl
apart_values false false true true true false = refl
apart_values false false true true false true = refl
apart_values false false true true false false = refl
apart_values false false true false true true = refl
apart_values false false true false true false = refl
apart_values false false true false false true = refl
apart_values false false true false false false = refl
apart_values false false false true true true = refl
apart_values false false false true true false = refl
apart_values false false false true false true = refl
apart_values false false false true false false = refl
apart_values false false false false true true = refl
apart_values false false false false true false = refl
apart_values false false false false false true = refl
apart_values false false false false false false = refl

order_values : (a b c d e f : Bool) → ((((a && (d && false)) || (a && (e && false))) || (a && (f && true))) || (((b && (d && false)) || (b && (e && false))) || (b && (f && true))) || (((c && (d && true)) || (c && (e && true))) || (c && (f && true)))) ≡ (c && (d || e || f) || (a || b || c) && f)
order_values true true true true true true = refl
order_values true true true true true false = refl
order_values true true true true false true = refl
order_values true true true true false false = refl
order_values true true true false true true = refl
order_values true true true false true false = refl
order_values true true true false false true = refl
order_values true true true false false false = refl
order_values true true false true true true = refl
order_values true true false true true false = refl
order_values true true false true false true = refl
order_values true true false true false false = refl
order_values true true false false true true = refl
order_values true true false false true false = refl
order_values true true false false false true = refl
order_values true true false false false false = refl
order_values true false true true true true = refl
order_values true false true true true false = refl
order_values true false true true false true = refl
order_values true false true true false false = refl
order_values true false true false true true = refl
order_values true false true false true false = refl
order_values true false true false false true = refl
order_values true false true false false false = refl
order_values true false false true true true = refl
order_values true false false true true false = refl
order_values true false false true false true = refl
order_values true false false true false false = refl
order_values true false false false true true = refl
order_values true false false false true false = refl
order_values true false false false false true = refl
order_values true false false false false false = refl
order_values false true true true true true = refl
order_values false true true true true false = refl
order_values false true true true false true = refl
order_values false true true true false false = refl
order_values false true true false true true = refl
order_values false true true false true false = refl
order_values false true true false false true = refl
order_values false true true false false false = refl
order_values false true false true true true = refl
order_values false true false true true false = refl
order_values false true false true false true = refl
order_values false true false true false false = refl
order_values false true false false true true = refl
order_values false true false false true false = refl
order_values false true false false false true = refl
order_values false true false false false false = refl
order_values false false true true true true = refl
order_values false false true true true false = refl
order_values false false true true false true = refl
order_values false false true true false false = refl
order_values false false true false true true = refl
order_values false false true false true false = refl
order_values false false true false false true = refl
order_values false false true false false false = refl
order_values false false false true true true = refl
order_values false false false true true false = refl
order_values false false false true false true = refl
order_values false false false true false false = refl
order_values false false false false true true = refl
order_values false false false false true false = refl
order_values false false false false false true = refl
order_values false false false false false false = refl

pub links_by_touches : LinksByTouches
unfolding link touches_of
links_by_touches task x y = rw (
  meetings marks_apart task x y (sets_apart task x y) (λ n t. nine marks_apart n (looks task x t) (marks task x t) (bends task x t) (looks task y t) (marks task y t) (bends task y t) ∙ apart_values (looks task x t) (marks task x t) (bends task x t) (looks task y t) (marks task y t) (bends task y t)) 0 (tokens task),
  meetings bends_one task x y (sets_order task x y) (λ n t. nine bends_one n (looks task x t) (marks task x t) (bends task x t) (looks task y t) (marks task y t) (bends task y t) ∙ order_values (looks task x t) (marks task x t) (bends task x t) (looks task y t) (marks task y t) (bends task y t)) 0 (tokens task),
) refl
