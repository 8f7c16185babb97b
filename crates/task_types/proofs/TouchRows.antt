-- Rows of touches, filled token by token in the order of the tokens.
use Rattle.std.proofs.Common.{◌≡◌, refl, sym, ap, ◌∙◌, ℕ, zero, suc, ◌+◌, ◌<◌, ◌≤◌, Bool, true, false, ◌&&◌, ◌==◌, List, [], ◌∷◌, ◌++◌, length, map, take, arith, append_assoc}
use Rattle.std.specs.Prelude.{slice_index_or, nat_lt, if◌then◌else◌}
use Rattle.std.specs.List.{list_all, flat_map, enumerate_from}
use Rattle.std.proofs.lemmas.Bool.Decides.{nat_tests}
use Rattle.std.proofs.lemmas.List.{length-map, append-nil}
use Rattle.task_types.specs.declared.actions.Snap.{Snap}
use Rattle.task_types.specs.declared.parts.TaskParts.{TaskParts}
use Rattle.task_types.specs.declared.touches.index.Index.{Index}
use Rattle.task_types.specs.declared.tokens.Token.{Token}
use Rattle.task_types.specs.declared.tokens.Touch.{Touch}
use Rattle.task_types.specs.declared.tokens.Touch.TheVariants.{Look, Mark, Bend}
use Rattle.task_types.specs.Plan.{snap_of, no_snap}
use Rattle.task_types.specs.Touch.{touches_on, touches_of, tokens, looks, marks, bends}
use Rattle.task_types.specs.Related.{IsIndex, IsPutInAll, HaveTouches, is_last, same_touch, put_last, put_where, found, touches_on_first}
use Rattle.task_types.proofs.Everyone.{and_left, and_right}
use Rattle.task_types.proofs.Found.{found-touching}
use Rattle.task_types.proofs.LastEntries.{is_last-append}
use Rattle.task_types.proofs.Places.{flat_map-enumerate-more}
use Rattle.basics.proofs.Lists.{all_append}
use Rattle.basics.proofs.Naturals.{lt_in}

-- ---- entries of earlier tokens

abbrev Earlier : ℕ → List (ℕ × Touch) → Type 0
Earlier k row = list_all (λ e. nat_lt e.0 k) row ≡ true

one_earlier : (k m : ℕ) (h : Touch) (b : Bool) → m < k → Earlier k (if b then (m, h) ∷ [] else [])
one_earlier k m h true l = rw (lt_in m k l) refl
one_earlier k m h false l = refl

on_earlier : (task : TaskParts) (s : Snap) (k m : ℕ) (t : Token) → m < k → Earlier k (touches_on task s m t)
on_earlier task s k m t l = all_append (λ e. nat_lt e.0 k) ((if looks task s t then (m, Look) ∷ [] else []) ++ (if marks task s t then (m, Mark) ∷ [] else [])) (if bends task s t then (m, Bend) ∷ [] else [])
    (all_append (λ e. nat_lt e.0 k) (if looks task s t then (m, Look) ∷ [] else []) (if marks task s t then (m, Mark) ∷ [] else []) (one_earlier k m Look (looks task s t) l) (one_earlier k m Mark (marks task s t) l))
    (one_earlier k m Bend (bends task s t) l)

first_earlier : (task : TaskParts) (s : Snap) (k n : ℕ) (ts : List Token) → n + length ts ≤ k → Earlier k (flat_map (λ t. touches_on task s t.0 t.1) (enumerate_from n ts))
first_earlier task s k n [] h = refl
first_earlier task s k n (t ∷ ts) h = all_append (λ e. nat_lt e.0 k) (touches_on task s n t) (flat_map (λ t. touches_on task s t.0 t.1) (enumerate_from (n + 1) ts)) (on_earlier task s k n t (omega arith)) (first_earlier task s k (n + 1) ts (omega arith))

differs : (m k : ℕ) → nat_lt m k ≡ true → (m == k) ≡ false
differs m k h = grind (arith, nat_tests)

not_last : (k : ℕ) (h : Touch) (row : List (ℕ × Touch)) → Earlier k row → is_last k h row ≡ false
not_last k h [] e = refl
not_last k h (x ∷ []) e = rw (differs x.0 k (and_left (nat_lt x.0 k) true e)) refl
not_last k h (x ∷ y ∷ ys) e = not_last k h (y ∷ ys) (and_right (nat_lt x.0 k) (list_all (λ e. nat_lt e.0 k) (y ∷ ys)) e)

-- ---- one token more

put_new : (k : ℕ) (h : Touch) (row : List (ℕ × Touch)) → is_last k h row ≡ false → put_last k h row ≡ row ++ (k, h) ∷ []
put_new k h row e = rw e refl

after_other : (k : ℕ) (h g : Touch) (row : List (ℕ × Touch)) → same_touch g h ≡ false → is_last k h (row ++ (k, g) ∷ []) ≡ false
after_other k h g row e = is_last-append k h row (k, g) ∙ ap (λ b. (k == k) && b) e ∙ and_false (k == k)
  where
    and_false : (b : Bool) → (b && false) ≡ false
    and_false true = refl
    and_false false = refl

abbrev put_if : Bool → ℕ → Touch → List (ℕ × Touch) → List (ℕ × Touch)
put_if b k h row = if b then put_last k h row else row

all_put : (k : ℕ) (row : List (ℕ × Touch)) (a b c : Bool) → Earlier k row
    → put_if c k Bend (put_if b k Mark (put_if a k Look row)) ≡ row ++ ((if a then (k, Look) ∷ [] else []) ++ (if b then (k, Mark) ∷ [] else []) ++ (if c then (k, Bend) ∷ [] else []))
all_put k row true true true e = rw (put_new k Look row (not_last k Look row e), put_new k Mark (row ++ (k, Look) ∷ []) (after_other k Mark Look row refl), put_new k Bend ((row ++ (k, Look) ∷ []) ++ (k, Mark) ∷ []) (after_other k Bend Mark (row ++ (k, Look) ∷ []) refl)) (simp append_assoc)
all_put k row true true false e = rw (put_new k Look row (not_last k Look row e), put_new k Mark (row ++ (k, Look) ∷ []) (after_other k Mark Look row refl)) (simp append_assoc)
all_put k row true false true e = rw (put_new k Look row (not_last k Look row e), put_new k Bend (row ++ (k, Look) ∷ []) (after_other k Bend Look row refl)) (simp append_assoc)
all_put k row true false false e = put_new k Look row (not_last k Look row e)
all_put k row false true true e = rw (put_new k Mark row (not_last k Mark row e), put_new k Bend (row ++ (k, Mark) ∷ []) (after_other k Bend Mark row refl)) (simp append_assoc)
all_put k row false true false e = put_new k Mark row (not_last k Mark row e)
all_put k row false false true e = put_new k Bend row (not_last k Bend row e)
all_put k row false false false e = sym (append-nil row)

length-take-inside : {X : Type 0} (xs : List X) (k : ℕ) → k ≤ length xs → length (take k xs) ≡ k
length-take-inside [] zero h = refl
length-take-inside [] (suc k) h = absurd (omega arith)
length-take-inside (x ∷ xs) zero h = refl
length-take-inside (x ∷ xs) (suc k) h = ap suc (length-take-inside xs k (omega arith))

pub token_more : (task : TaskParts) (index : Index) (rows more : List (List (ℕ × Touch))) (ts : List Token) (k : ℕ) (t : Token) → IsIndex task index → k < length ts → t ≡ slice_index_or ts k t
    → HaveTouches task rows (take k ts) → IsPutInAll rows more index k t → HaveTouches task more (take (k + 1) ts)
token_more task index rows more ts k t i l e h p = record {
  long = p.long ∙ h.long;
  each = λ s m. p.each s (omega (arith, h.long)) ∙ ap (λ row. put_where k Bend (found index Bend t) s (put_where k Mark (found index Mark t) s (put_where k Look (found index Look t) s row))) (h.each s m)
      ∙ flags s
      ∙ all_put k (touches_on_first task (snap_of task s) (take k ts)) (looks task (snap_of task s) t) (marks task (snap_of task s) t) (bends task (snap_of task s) t)
      (first_earlier task (snap_of task s) k 0 (take k ts) (omega (arith, length-take-inside ts k (omega arith))))
      ∙ sym (flat_map-enumerate-more (λ x. touches_on task (snap_of task s) x.0 x.1) ts k t l e);
}
  where
    flags : (s : ℕ) → put_where k Bend (found index Bend t) s (put_where k Mark (found index Mark t) s (put_where k Look (found index Look t) s (touches_on_first task (snap_of task s) (take k ts))))
        ≡ put_if (bends task (snap_of task s) t) k Bend (put_if (marks task (snap_of task s) t) k Mark (put_if (looks task (snap_of task s) t) k Look (touches_on_first task (snap_of task s) (take k ts))))
    flags s = ap (λ a. put_where k Bend (found index Bend t) s (put_where k Mark (found index Mark t) s (put_if a k Look (touches_on_first task (snap_of task s) (take k ts))))) (found-touching task index i Look t s)
        ∙ ap (λ b. put_where k Bend (found index Bend t) s (put_if b k Mark (put_if (looks task (snap_of task s) t) k Look (touches_on_first task (snap_of task s) (take k ts))))) (found-touching task index i Mark t s)
        ∙ ap (λ c. put_if c k Bend (put_if (marks task (snap_of task s) t) k Mark (put_if (looks task (snap_of task s) t) k Look (touches_on_first task (snap_of task s) (take k ts))))) (found-touching task index i Bend t s)

-- ---- all tokens

lists_same : {X : Type 0} (xs ys : List X) (d : X) → length xs ≡ length ys → ((k : ℕ) → k < length xs → slice_index_or xs k d ≡ slice_index_or ys k d) → xs ≡ ys
lists_same [] [] d e f = refl
lists_same [] (y ∷ ys) d e f = absurd (omega arith)
lists_same (x ∷ xs) [] d e f = absurd (omega arith)
lists_same (x ∷ xs) (y ∷ ys) d e f = let same : x ≡ y = f 0 (omega arith) in let rest : xs ≡ ys = lists_same xs ys d (omega arith) (λ k l. f (suc k) (omega arith)) in rw (same, rest) refl

mapped_inside : {X Y : Type 0} (f : X → Y) (xs : List X) (k : ℕ) (d : X) (e : Y) → k < length xs → slice_index_or (map f xs) k e ≡ f (slice_index_or xs k d)
mapped_inside f [] k d e h = absurd (omega arith)
mapped_inside f (x ∷ xs) zero d e h = refl
mapped_inside f (x ∷ xs) (suc k) d e h = mapped_inside f xs k d e (omega arith)

pub whole_table : (task : TaskParts) (rows : List (List (ℕ × Touch))) → HaveTouches task rows (tokens task) → rows ≡ map (touches_of task) task.snaps
unfolding touches_of
whole_table task rows h = lists_same rows (map (touches_of task) task.snaps) [] (h.long ∙ sym (length-map task.snaps (touches_of task)))
    (λ s l. h.each s (omega (arith, h.long)) ∙ sym (mapped_inside (touches_of task) task.snaps s no_snap [] (omega (arith, h.long))))
