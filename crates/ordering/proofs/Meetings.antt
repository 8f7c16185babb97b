-- The strongest link of two rows of touches, taken in one pass, is the link of their snap actions.
use Rattle.std.proofs.Common.{◌≡◌, refl, sym, ◌∙◌, ℕ, zero, suc, ◌+◌, ◌<◌, ◌≤◌, Bool, true, false, ◌&&◌, ◌||◌, List, [], ◌∷◌, ◌++◌, length, get_or, drop, arith, append_assoc, add-one, drop-cons}
use Rattle.std.specs.Prelude.{if◌then◌else◌, ◌==◌, ◌≢◌}
use Rattle.std.specs.List.{list_any, flat_map, enumerate_from}
use Rattle.std.proofs.Math.ListN.{drop_of_length-le}
use Rattle.std.proofs.lemmas.Bool.Decides.{nat_tests}
use Rattle.task_types.specs.declared.actions.Snap.{Snap}
use Rattle.task_types.specs.declared.orderings.Link.{Link}
use Rattle.task_types.specs.declared.orderings.Link.TheVariants.{Free, Weak, Apart}
use Rattle.task_types.specs.declared.parts.TaskParts.{TaskParts}
use Rattle.task_types.specs.declared.tokens.Token.{Token}
use Rattle.task_types.specs.declared.tokens.Touch.{Touch}
use Rattle.task_types.specs.declared.tokens.Touch.TheVariants.{Look, Mark, Bend}
use Rattle.task_types.specs.Laws.{some_meeting, marks_apart, bends_one}
use Rattle.task_types.specs.Order.{link}
use Rattle.task_types.specs.Touch.{is_timed, looks, marks, bends, tokens, touches_on, touches_of}
use Rattle.task_types.proofs.Meetings.{links_by_touches}
use Rattle.ordering.specs.Meetings.{link_of_touches, stronger, link_with, strongest_link, AreFrom, Ascend}

-- ---- the stronger of two links

pub stronger_assoc : (a b c : Link) → stronger (stronger a b) c ≡ stronger a (stronger b c)
stronger_assoc Free Free Free = refl
stronger_assoc Free Free Weak = refl
stronger_assoc Free Free Apart = refl
stronger_assoc Free Weak Free = refl
stronger_assoc Free Weak Weak = refl
stronger_assoc Free Weak Apart = refl
stronger_assoc Free Apart Free = refl
stronger_assoc Free Apart Weak = refl
stronger_assoc Free Apart Apart = refl
stronger_assoc Weak Free Free = refl
stronger_assoc Weak Free Weak = refl
stronger_assoc Weak Free Apart = refl
stronger_assoc Weak Weak Free = refl
stronger_assoc Weak Weak Weak = refl
stronger_assoc Weak Weak Apart = refl
stronger_assoc Weak Apart Free = refl
stronger_assoc Weak Apart Weak = refl
stronger_assoc Weak Apart Apart = refl
stronger_assoc Apart Free Free = refl
stronger_assoc Apart Free Weak = refl
stronger_assoc Apart Free Apart = refl
stronger_assoc Apart Weak Free = refl
stronger_assoc Apart Weak Weak = refl
stronger_assoc Apart Weak Apart = refl
stronger_assoc Apart Apart Free = refl
stronger_assoc Apart Apart Weak = refl
stronger_assoc Apart Apart Apart = refl

pub stronger-free : (a : Link) → stronger a Free ≡ a
stronger-free Free = refl
stronger-free Weak = refl
stronger-free Apart = refl

pub free-stronger : (a : Link) → stronger Free a ≡ a
free-stronger Free = refl
free-stronger Weak = refl
free-stronger Apart = refl

-- ---- rows that ascend

ascend-drop : (at : ℕ) (xs : List (ℕ × Touch)) → Ascend xs → Ascend (drop at xs)
unfolding Ascend
ascend-drop zero xs a = a
ascend-drop (suc at) [] a = a
ascend-drop (suc at) (x ∷ xs) a = ascend-drop at xs a.1

from_lower : (m n : ℕ) (xs : List (ℕ × Touch)) → m ≤ n → AreFrom n xs → AreFrom m xs
from_lower m n [] h a = refl
from_lower m n (x ∷ xs) h a = grind (arith, nat_tests, from_lower m n xs h)

-- what is left from a touch of token n or a later one on
pub rest_from : (n at : ℕ) (xs : List (ℕ × Touch)) (x : ℕ × Touch) → Ascend xs → at < length xs → x ≡ get_or xs at x → n ≤ x.0 → AreFrom n (drop at xs)
unfolding Ascend
rest_from n at xs x a h e l = rw (drop-cons xs at x h, sym e) (also n x (drop (suc at) xs) l (rw (drop-cons xs at x h, sym e) at (ascend-drop at xs a)).0)
  where
    also : (n : ℕ) (x : ℕ × Touch) (xs : List (ℕ × Touch)) → n ≤ x.0 → AreFrom x.0 xs → AreFrom n (x ∷ xs)
    also n x xs l a = grind (arith, nat_tests, from_lower n x.0 xs l a)

rest_after : (n at : ℕ) (xs : List (ℕ × Touch)) (x : ℕ × Touch) → at < length xs → x ≡ get_or xs at x → AreFrom n (drop at xs) → (n ≤ x.0) × AreFrom n (drop (at + 1) xs)
rest_after n at xs x h e a = rw add-one (parted n x (drop (suc at) xs) (rw (drop-cons xs at x h, sym e) at a))
  where
    parted : (n : ℕ) (x : ℕ × Touch) (xs : List (ℕ × Touch)) → AreFrom n (x ∷ xs) → (n ≤ x.0) × AreFrom n xs
    parted n x xs a = grind (arith, nat_tests)

pub rest_onward : (n at : ℕ) (xs : List (ℕ × Touch)) (x : ℕ × Touch) → at < length xs → x ≡ get_or xs at x → AreFrom n (drop at xs) → AreFrom n (drop (at + 1) xs)
rest_onward n at xs x h e a = (rest_after n at xs x h e a).1

pub none_after : {X : Type 0} (xs : List X) (at : ℕ) → length xs ≤ at → drop at xs ≡ []
none_after xs at h = drop_of_length-le xs h

pub same_entry : {X : Type 0} (xs : List X) (at : ℕ) (x y : X) → at < length xs → x ≡ get_or xs at x → y ≡ get_or xs at y → x ≡ y
same_entry [] at x y h e f = absurd (omega (arith, h))
same_entry (z ∷ zs) zero x y h e f = e ∙ sym f
same_entry (z ∷ zs) (suc at) x y h e f = same_entry zs at x y (omega arith) e f

-- ---- the links of one touch with a row

first_link : (n at : ℕ) (t : Touch) (xs : List (ℕ × Touch)) (x : ℕ × Touch) → at < length xs → x ≡ get_or xs at x → link_with n t (drop at xs) ≡ stronger (if n == x.0 then link_of_touches t x.1 else Free) (link_with n t (drop (at + 1) xs))
unfolding link_with
first_link n at t xs x h e = rw (add-one, drop-cons xs at x h, sym e) refl

pub link_same : (n at : ℕ) (t : Touch) (xs : List (ℕ × Touch)) (x : ℕ × Touch) → at < length xs → x ≡ get_or xs at x → n ≡ x.0 → link_with n t (drop at xs) ≡ stronger (link_of_touches t x.1) (link_with n t (drop (at + 1) xs))
link_same n at t xs x h e s = first_link n at t xs x h e ∙ rw (same n x.0 s) refl
  where
    same : (n m : ℕ) → n ≡ m → (n == m) ≡ true
    same n m e = grind (arith, nat_tests)

pub link_other : (n at : ℕ) (t : Touch) (xs : List (ℕ × Touch)) (x : ℕ × Touch) → at < length xs → x ≡ get_or xs at x → x.0 < n → link_with n t (drop at xs) ≡ link_with n t (drop (at + 1) xs)
link_other n at t xs x h e s = first_link n at t xs x h e ∙ rw (other n x.0 s) (free-stronger (link_with n t (drop (at + 1) xs)))
  where
    other : (n m : ℕ) → m < n → (n == m) ≡ false
    other n m e = grind (arith, nat_tests)

links_above : (n m : ℕ) (t : Touch) (xs : List (ℕ × Touch)) → n < m → AreFrom m xs → link_with n t xs ≡ Free
unfolding link_with
links_above n m t [] h a = refl
links_above n m t (x ∷ xs) h a = rw (other n m x h a, links_above n m t xs h (later m x xs a)) refl
  where
    other : (n m : ℕ) (x : ℕ × Touch) → n < m → AreFrom m (x ∷ xs) → (n == x.0) ≡ false
    other n m x h a = grind (arith, nat_tests)

    later : (m : ℕ) (x : ℕ × Touch) (xs : List (ℕ × Touch)) → AreFrom m (x ∷ xs) → AreFrom m xs
    later m x xs a = grind (arith, nat_tests)

pub no_links_left : (n at : ℕ) (t : Touch) (xs : List (ℕ × Touch)) → length xs ≤ at → link_with n t (drop at xs) ≡ Free
unfolding link_with
no_links_left n at t xs h = rw (none_after xs at h) refl

-- A row that goes on with another token has no more links.
pub link_over : (n at : ℕ) (t : Touch) (xs : List (ℕ × Touch)) (x : ℕ × Touch) → Ascend xs → at < length xs → x ≡ get_or xs at x → AreFrom n (drop at xs) → x.0 ≢ n → link_with n t (drop at xs) ≡ Free
link_over n at t xs x a h e f s = links_above n (n + 1) t (drop at xs) (omega arith) (rest_from (n + 1) at xs x a h e (let l : n ≤ x.0 = (rest_after n at xs x h e f).0 in omega arith))

-- ---- the links of two rows

same_links : (n : ℕ) (zs us vs : List (ℕ × Touch)) → AreFrom n zs → ((m : ℕ) (t : Touch) → n ≤ m → link_with m t us ≡ link_with m t vs) → strongest_link zs us ≡ strongest_link zs vs
unfolding strongest_link
same_links n [] us vs a h = refl
same_links n (z ∷ zs) us vs a h = rw (h z.0 z.1 (here n z zs a), same_links n zs us vs (later n z zs a) h) refl
  where
    here : (n : ℕ) (z : ℕ × Touch) (zs : List (ℕ × Touch)) → AreFrom n (z ∷ zs) → n ≤ z.0
    here n z zs a = grind (arith, nat_tests)

    later : (m : ℕ) (x : ℕ × Touch) (xs : List (ℕ × Touch)) → AreFrom m (x ∷ xs) → AreFrom m xs
    later m x xs a = grind (arith, nat_tests)

pub links_onward : (xs ys : List (ℕ × Touch)) (at from to : ℕ) (x : ℕ × Touch) → Ascend xs → at < length xs → x ≡ get_or xs at x
    → ((n : ℕ) (t : Touch) → x.0 ≤ n → link_with n t (drop from ys) ≡ link_with n t (drop to ys))
    → strongest_link (drop at xs) (drop from ys) ≡ stronger (link_with x.0 x.1 (drop to ys)) (strongest_link (drop (at + 1) xs) (drop to ys))
unfolding strongest_link
links_onward xs ys at from to x a h e s = same_links x.0 (drop at xs) (drop from ys) (drop to ys) (rest_from x.0 at xs x a h e (omega arith)) s ∙ rw (add-one, drop-cons xs at x h, sym e) refl

pub no_rows_left : (xs ys : List (ℕ × Touch)) (at : ℕ) → length xs ≤ at → strongest_link (drop at xs) ys ≡ Free
unfolding strongest_link
no_rows_left xs ys at h = rw (none_after xs at h) refl

pub no_links : (ys : List (ℕ × Touch)) → strongest_link [] ys ≡ Free
unfolding strongest_link
no_links ys = refl

-- ---- the strongest link goes by the tests on all pairs

chosen : Bool → Bool → Link
chosen apart order = if apart then Apart else (if order then Weak else Free)

both : (a b c d : Bool) → stronger (chosen a b) (chosen c d) ≡ chosen (a || c) (b || d)
unfolding chosen
both true true true true = refl
both true true true false = refl
both true true false true = refl
both true true false false = refl
both true false true true = refl
both true false true false = refl
both true false false true = refl
both true false false false = refl
both false true true true = refl
both false true true false = refl
both false true false true = refl
both false true false false = refl
both false false true true = refl
both false false true false = refl
both false false false true = refl
both false false false false = refl

one : (e : Bool) (t u : Touch) → (if e then link_of_touches t u else Free) ≡ chosen (e && marks_apart t u) (e && bends_one t u)
unfolding chosen
one false t u = refl
one true Look Look = refl
one true Look Mark = refl
one true Look Bend = refl
one true Mark Look = refl
one true Mark Mark = refl
one true Mark Bend = refl
one true Bend Look = refl
one true Bend Mark = refl
one true Bend Bend = refl

with_row : (n : ℕ) (t : Touch) (ys : List (ℕ × Touch)) → link_with n t ys ≡ chosen (list_any (λ y. (n == y.0) && marks_apart t y.1) ys) (list_any (λ y. (n == y.0) && bends_one t y.1) ys)
unfolding link_with chosen
with_row n t [] = refl
with_row n t (y ∷ ys) = rw (with_row n t ys, one (n == y.0) t y.1) (both ((n == y.0) && marks_apart t y.1) ((n == y.0) && bends_one t y.1) (list_any (λ y. (n == y.0) && marks_apart t y.1) ys) (list_any (λ y. (n == y.0) && bends_one t y.1) ys))

rows_meet : (xs ys : List (ℕ × Touch)) → strongest_link xs ys ≡ chosen (some_meeting marks_apart xs ys) (some_meeting bends_one xs ys)
unfolding strongest_link chosen
rows_meet [] ys = refl
rows_meet (x ∷ xs) ys = rw (rows_meet xs ys, with_row x.0 x.1 ys) (both (list_any (λ y. (x.0 == y.0) && marks_apart x.1 y.1) ys) (list_any (λ y. (x.0 == y.0) && bends_one x.1 y.1) ys) (some_meeting marks_apart xs ys) (some_meeting bends_one xs ys))

pub link_free : (task : TaskParts) (x y : Snap) → (is_timed x.kind && is_timed y.kind) ≡ true → link task x y ≡ Free
unfolding link
link_free task x y h = rw h refl

pub link_by_rows : (task : TaskParts) (x y : Snap) → (is_timed x.kind && is_timed y.kind) ≡ false → link task x y ≡ strongest_link (touches_of task x) (touches_of task y)
unfolding chosen
link_by_rows task x y h = links_by_touches task x y ∙ rw (h, rows_meet (touches_of task x) (touches_of task y)) refl

-- ---- the touches of a snap action ascend

put_first : (n : ℕ) (t : Touch) (b : Bool) (xs : List (ℕ × Touch)) → AreFrom n xs → Ascend xs → AreFrom n ((if b then (n, t) ∷ [] else []) ++ xs) × Ascend ((if b then (n, t) ∷ [] else []) ++ xs)
unfolding Ascend
put_first n t false xs f a = (f, a)
put_first n t true xs f a = (also n t xs f, (f, a))
  where
    also : (n : ℕ) (t : Touch) (xs : List (ℕ × Touch)) → AreFrom n xs → AreFrom n ((n, t) ∷ xs)
    also n t xs f = grind (arith, nat_tests)

put_token : (task : TaskParts) (s : Snap) (n : ℕ) (t : Token) (xs : List (ℕ × Touch)) → AreFrom n xs → Ascend xs → AreFrom n (touches_on task s n t ++ xs) × Ascend (touches_on task s n t ++ xs)
put_token task s n t xs f a = let last = put_first n Bend (bends task s t) xs f a in
    let middle = put_first n Mark (marks task s t) ((if bends task s t then (n, Bend) ∷ [] else []) ++ xs) last.0 last.1 in
    let all = put_first n Look (looks task s t) ((if marks task s t then (n, Mark) ∷ [] else []) ++ ((if bends task s t then (n, Bend) ∷ [] else []) ++ xs)) middle.0 middle.1 in
    rw (append_assoc, append_assoc) all

rows_ascend : (task : TaskParts) (s : Snap) (n : ℕ) (ts : List Token) → AreFrom n (flat_map (λ t. touches_on task s t.0 t.1) (enumerate_from n ts)) × Ascend (flat_map (λ t. touches_on task s t.0 t.1) (enumerate_from n ts))
unfolding Ascend
rows_ascend task s n [] = (refl, tt)
rows_ascend task s n (t ∷ ts) = let rest = rows_ascend task s (n + 1) ts in
    put_token task s n t (flat_map (λ t. touches_on task s t.0 t.1) (enumerate_from (n + 1) ts)) (from_lower n (n + 1) (flat_map (λ t. touches_on task s t.0 t.1) (enumerate_from (n + 1) ts)) (omega arith) rest.0) rest.1

pub touches_ascend : (task : TaskParts) (s : Snap) → Ascend (touches_of task s)
unfolding touches_of
touches_ascend task s = (rows_ascend task s 0 (tokens task)).1
