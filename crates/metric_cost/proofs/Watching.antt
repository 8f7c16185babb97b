-- Several soft terms watched: one term more, and one state more, watch by watch.
use Rattle.std.proofs.Common.{◌≡◌, refl, sym, ap, subst, ◌∙◌, ℕ, zero, suc, ◌+◌, ◌<◌, List, [], ◌∷◌, ◌++◌, length, take, arith, add-one}
use Rattle.std.specs.Prelude.{slice_index_or, slice_set}
use Rattle.std.proofs.lemmas.List.{take_more, take_all}
use Rattle.task_types.specs.declared.costs.Soft.{Soft}
use Rattle.task_types.specs.Trace.{Trace}
use Rattle.metric_cost.specs.declared.watch.Watch.{Watch}
use Rattle.metric_cost.specs.Watching.{Watches, WatchEach}

pub each-length : (ss : List Soft) (ws : List Watch) (xs : Trace) → WatchEach ss ws xs → length ws ≡ length ss
each-length [] [] xs h = refl
each-length [] (w ∷ ws) xs h = absurd h
each-length (s ∷ ss) [] xs h = absurd h
each-length (s ∷ ss) (w ∷ ws) xs h = ap suc (each-length ss ws xs h.1)

each-put : (ss : List Soft) (ws : List Watch) (s : Soft) (w : Watch) (xs : Trace) → WatchEach ss ws xs → Watches s w xs → WatchEach (ss ++ s ∷ []) (ws ++ w ∷ []) xs
each-put [] [] s w xs h k = (k, tt)
each-put [] (v ∷ ws) s w xs h k = absurd h
each-put (r ∷ ss) [] s w xs h k = absurd h
each-put (r ∷ ss) (v ∷ ws) s w xs h k = (h.0, each-put ss ws s w xs h.1 k)

pub each-more : (ss : List Soft) (i : ℕ) (s : Soft) (ws new : List Watch) (w : Watch) (xs : Trace) → i < length ss → s ≡ slice_index_or ss i s → new ≡ ws ++ w ∷ []
    → WatchEach (take i ss) ws xs → Watches s w xs → WatchEach (take (i + 1) ss) new xs
each-more ss i s ws new w xs h e n k v =
    subst (λ (vs : List Watch). WatchEach (take (i + 1) ss) vs xs) (sym n)
    (subst (λ (rs : List Soft). WatchEach rs (ws ++ w ∷ []) xs) (sym (take_more ss i s h ∙ ap (λ r. take i ss ++ r ∷ []) (sym e))) (each-put (take i ss) ws s w xs k v))

pub each-all : (ss : List Soft) (i : ℕ) (ws : List Watch) (xs : Trace) → i ≡ length ss → WatchEach (take i ss) ws xs → WatchEach ss ws xs
each-all ss i ws xs e h = subst (λ (rs : List Soft). WatchEach rs ws xs) (take_all i ss (omega arith)) h

-- the first n watches have taken a state more than the others
abbrev pub SeenUpTo : ℕ → List Soft → List Watch → (xs ys : Trace) → Type 0
SeenUpTo n [] [] xs ys = Unit {0}
SeenUpTo n [] (w ∷ ws) xs ys = ⊥
SeenUpTo n (s ∷ ss) [] xs ys = ⊥
SeenUpTo zero (s ∷ ss) (w ∷ ws) xs ys = Watches s w xs × WatchEach ss ws xs
SeenUpTo (suc n) (s ∷ ss) (w ∷ ws) xs ys = Watches s w ys × SeenUpTo n ss ws xs ys

up_to_none : (ss : List Soft) (ws : List Watch) (xs ys : Trace) → WatchEach ss ws xs → SeenUpTo 0 ss ws xs ys
up_to_none [] [] xs ys h = tt
up_to_none [] (w ∷ ws) xs ys h = h
up_to_none (s ∷ ss) [] xs ys h = h
up_to_none (s ∷ ss) (w ∷ ws) xs ys h = h

pub seen-begin : (ss : List Soft) (ws : List Watch) (xs ys : Trace) → WatchEach ss ws xs → SeenUpTo 0 ss ws xs ys
seen-begin = up_to_none

pub seen-at : (ss : List Soft) (ws : List Watch) (i : ℕ) (s : Soft) (w : Watch) (xs ys : Trace) → i < length ss → s ≡ slice_index_or ss i s → w ≡ slice_index_or ws i w → SeenUpTo i ss ws xs ys → Watches s w xs
seen-at [] ws i s w xs ys h e f k = absurd (omega arith)
seen-at (r ∷ ss) [] i s w xs ys h e f k = absurd k
seen-at (r ∷ ss) (v ∷ ws) zero s w xs ys h e f k = subst (λ (t : Soft). Watches t w xs) (sym e) (subst (λ (u : Watch). Watches r u xs) (sym f) k.0)
seen-at (r ∷ ss) (v ∷ ws) (suc i) s w xs ys h e f k = seen-at ss ws i s w xs ys (omega arith) e f k.1

seen-next : (ss : List Soft) (ws : List Watch) (i : ℕ) (s : Soft) (w : Watch) (xs ys : Trace) → i < length ss → s ≡ slice_index_or ss i s → Watches s w ys → SeenUpTo i ss ws xs ys → SeenUpTo (suc i) ss (slice_set ws i w) xs ys
seen-next [] ws i s w xs ys h e v k = absurd (omega arith)
seen-next (r ∷ ss) [] i s w xs ys h e v k = absurd k
seen-next (r ∷ ss) (u ∷ ws) zero s w xs ys h e v k = (subst (λ (t : Soft). Watches t w ys) e v, up_to_none ss ws xs ys k.1)
seen-next (r ∷ ss) (u ∷ ws) (suc i) s w xs ys h e v k = (k.0, seen-next ss ws i s w xs ys (omega arith) e v k.1)

pub seen-more : (ss : List Soft) (ws : List Watch) (i : ℕ) (s : Soft) (w : Watch) (xs ys : Trace) → i < length ss → s ≡ slice_index_or ss i s → Watches s w ys → SeenUpTo i ss ws xs ys → SeenUpTo (i + 1) ss (slice_set ws i w) xs ys
seen-more ss ws i s w xs ys h e v k = subst (λ (n : ℕ). SeenUpTo n ss (slice_set ws i w) xs ys) (sym (add-one i)) (seen-next ss ws i s w xs ys h e v k)

pub seen-all : (ss : List Soft) (ws : List Watch) (n : ℕ) (xs ys : Trace) → n ≡ length ss → SeenUpTo n ss ws xs ys → WatchEach ss ws ys
seen-all [] [] n xs ys e h = tt
seen-all [] (w ∷ ws) n xs ys e h = h
seen-all (s ∷ ss) [] n xs ys e h = h
seen-all (s ∷ ss) (w ∷ ws) zero xs ys e h = absurd (omega arith)
seen-all (s ∷ ss) (w ∷ ws) (suc n) xs ys e h = (h.0, seen-all ss ws n xs ys (omega arith) h.1)

pub each-at : (ss : List Soft) (ws : List Watch) (i : ℕ) (s : Soft) (w : Watch) (xs : Trace) → i < length ss → s ≡ slice_index_or ss i s → w ≡ slice_index_or ws i w → WatchEach ss ws xs → Watches s w xs
each-at [] ws i s w xs h e f k = absurd (omega arith)
each-at (r ∷ ss) [] i s w xs h e f k = absurd k
each-at (r ∷ ss) (v ∷ ws) zero s w xs h e f k = subst (λ (t : Soft). Watches t w xs) (sym e) (subst (λ (u : Watch). Watches r u xs) (sym f) k.0)
each-at (r ∷ ss) (v ∷ ws) (suc i) s w xs h e f k = each-at ss ws i s w xs (omega arith) e f k.1
