-- Lists of variables, one inside the other, have the bindings of one list with all their variables.
use Rattle.std.proofs.Common.{◌≡◌, refl, sym, ap, ap₂, ◌∙◌, ℕ, ◌+◌, ◌*◌, suc, arith, List, [], ◌∷◌, ◌++◌, map, length, length-append, append_assoc}
use Rattle.std.specs.List.{AllByRecursion, flat_map}
use Rattle.std.proofs.Math.Nat.{mul_assoc}
use Rattle.std.proofs.lemmas.List.{append-nil, map-append, length-map}
use Rattle.std.proofs.lemmas.List.Concat.{flat_map-append}
use Rattle.pddl_terms.specs.declared.trees.Group.{Group}
use Rattle.pddl_names.specs.Declarations.{Text, Typed, type_bytes, typed, typed_of, sorts_of}
use Rattle.ground_world.specs.World.{World, Env, columns, variable_names}
use Rattle.ground_world.specs.Bindings.{choices, choice_count, paired, bindings, nested_bindings, all_names, all_columns}
use Rattle.ground_world.specs.Counts.{around_count}
use Rattle.ground_world.specs.Laws.{NestedAsOne}
use Rattle.basics.proofs.Lists.{each_append}

-- ---- ways to choose from two lists of columns

joined : (o : ℕ) (cs : List (List ℕ)) (os : List (List ℕ))
    → flat_map (λ a. map (λ b. a ++ b) (choices cs)) (map (λ rest. o ∷ rest) os) ≡ map (λ rest. o ∷ rest) (flat_map (λ a. map (λ b. a ++ b) (choices cs)) os)
joined o cs [] = refl
joined o cs (a ∷ os) =
    ap₂ (λ x y. x ++ y) (first (choices cs)) (joined o cs os)
    ∙ sym (map-append (λ rest. o ∷ rest) (map (λ b. a ++ b) (choices cs)) (flat_map (λ a. map (λ b. a ++ b) (choices cs)) os))
  where
    first : (bs : List (List ℕ)) → map (λ b. o ∷ (a ++ b)) bs ≡ map (λ rest. o ∷ rest) (map (λ b. a ++ b) bs)
    first [] = refl
    first (b ∷ bs) = ap (λ l. (o ∷ (a ++ b)) ∷ l) (first bs)

choices-append : (cs ds : List (List ℕ)) → choices (cs ++ ds) ≡ flat_map (λ a. map (λ b. a ++ b) (choices ds)) (choices cs)
choices-append [] ds = sym (append-nil (map (λ b. b) (choices ds)) ∙ same (choices ds))
  where
    same : (bs : List (List ℕ)) → map (λ b. b) bs ≡ bs
    same [] = refl
    same (b ∷ bs) = ap (λ l. b ∷ l) (same bs)
choices-append (c ∷ cs) ds = by (choices-append cs ds) c
  where
    by : choices (cs ++ ds) ≡ flat_map (λ a. map (λ b. a ++ b) (choices ds)) (choices cs) → (os : List ℕ)
        → flat_map (λ o. map (λ rest. o ∷ rest) (choices (cs ++ ds))) os
        ≡ flat_map (λ a. map (λ b. a ++ b) (choices ds)) (flat_map (λ o. map (λ rest. o ∷ rest) (choices cs)) os)
    by h [] = refl
    by h (o ∷ os) =
        ap₂ (λ x y. x ++ y) (ap (map (λ rest. o ∷ rest)) h ∙ sym (joined o ds (choices cs))) (by h os)
        ∙ sym (flat_map-append (λ a. map (λ b. a ++ b) (choices ds)) (map (λ rest. o ∷ rest) (choices cs)) (flat_map (λ o. map (λ rest. o ∷ rest) (choices cs)) os))

-- a way to choose has an item of each column
abbrev HasLength : ℕ → List ℕ → Type 0
HasLength n os = length os ≡ n

choices-length : (cs : List (List ℕ)) → AllByRecursion (HasLength (length cs)) (choices cs)
choices-length [] = (refl, tt)
choices-length (c ∷ cs) = by (choices-length cs) c
  where
    longer : (o : ℕ) (os : List (List ℕ)) → AllByRecursion (HasLength (length cs)) os → AllByRecursion (HasLength (suc (length cs))) (map (λ rest. o ∷ rest) os)
    longer o [] h = tt
    longer o (a ∷ os) h = (ap suc h.0, longer o os h.1)

    by : AllByRecursion (HasLength (length cs)) (choices cs) → (os : List ℕ) → AllByRecursion (HasLength (suc (length cs))) (flat_map (λ o. map (λ rest. o ∷ rest) (choices cs)) os)
    by h [] = tt
    by h (o ∷ os) = each_append (HasLength (suc (length cs))) (map (λ rest. o ∷ rest) (choices cs)) (flat_map (λ o. map (λ rest. o ∷ rest) (choices cs)) os) (longer o (choices cs) h) (by h os)

paired-append : (ns ms : List Text) (a b : List ℕ) → length a ≡ length ns → paired (ns ++ ms) (a ++ b) ≡ paired ns a ++ paired ms b
paired-append [] ms [] b h = refl
paired-append [] ms (o ∷ a) b h = absurd (omega arith)
paired-append (n ∷ ns) ms [] b h = absurd (omega arith)
paired-append (n ∷ ns) ms (o ∷ a) b h = ap (λ (l : Env). (n, o) ∷ l) (paired-append ns ms a b (omega arith))

-- ---- one list inside the other

two_lists : (env : Env) (ns ms : List Text) (cs ds : List (List ℕ)) → length cs ≡ length ns
    → flat_map (λ e. map (λ os. e ++ paired ms os) (choices ds)) (map (λ os. env ++ paired ns os) (choices cs))
    ≡ map (λ os. env ++ paired (ns ++ ms) os) (choices (cs ++ ds))
two_lists env ns ms cs ds h = by (choices cs) (choices-length cs) ∙ ap (map (λ os. env ++ paired (ns ++ ms) os)) (sym (choices-append cs ds))
  where
    inner : (a : List ℕ) → length a ≡ length ns → (bs : List (List ℕ))
        → map (λ os. (env ++ paired ns a) ++ paired ms os) bs ≡ map (λ os. env ++ paired (ns ++ ms) os) (map (λ b. a ++ b) bs)
    inner a l [] = refl
    inner a l (b ∷ bs) =
        ap₂ (λ (x : Env) (y : List Env). x ∷ y) (append_assoc env (paired ns a) (paired ms b) ∙ ap (λ (p : Env). env ++ p) (sym (paired-append ns ms a b l))) (inner a l bs)

    by : (as_chosen : List (List ℕ)) → AllByRecursion (HasLength (length cs)) as_chosen
        → flat_map (λ e. map (λ os. e ++ paired ms os) (choices ds)) (map (λ os. env ++ paired ns os) as_chosen)
        ≡ map (λ os. env ++ paired (ns ++ ms) os) (flat_map (λ a. map (λ b. a ++ b) (choices ds)) as_chosen)
    by [] k = refl
    by (a ∷ rest) k =
        ap₂ (λ (x y : List Env). x ++ y) (inner a (k.0 ∙ h) (choices ds)) (by rest k.1)
        ∙ sym (map-append (λ os. env ++ paired (ns ++ ms) os) (map (λ b. a ++ b) (choices ds)) (flat_map (λ a. map (λ b. a ++ b) (choices ds)) rest))

sorts-length : (vars : List Group) → length (sorts_of vars) ≡ length (typed vars)
sorts-length [] = refl
sorts-length (g ∷ vars) =
    length-append (map (λ n. type_bytes g.of) g.names) (sorts_of vars)
    ∙ ap₂ (λ m n. m + n) (length-map g.names (λ n. type_bytes g.of) ∙ sym (length-map {B = Typed} g.names (λ n. (n.bytes, type_bytes g.of)))) (sorts-length vars)
    ∙ sym (length-append (typed_of g) (typed vars))

pub same_length : (w : World) (vars : List Group) → length (columns w vars) ≡ length (variable_names vars)
same_length w vars = length-map (sorts_of vars) w.fitting ∙ sorts-length vars ∙ sym (length-map (typed vars) (λ t. t.0))

pub nested-as_one : NestedAsOne
nested-as_one w env [] = ap (λ (e : Env). e ∷ []) (sym (append-nil env))
nested-as_one w env (vars ∷ around) =
    inside (λ e. nested-as_one w e around) (bindings w env vars) ∙ two_lists env (variable_names vars) (all_names around) (columns w vars) (all_columns w around) (same_length w vars)
  where
    inside : ((e : Env) → nested_bindings w e around ≡ map (λ os. e ++ paired (all_names around) os) (choices (all_columns w around))) → (es : List Env)
        → flat_map (λ e. nested_bindings w e around) es ≡ flat_map (λ e. map (λ os. e ++ paired (all_names around) os) (choices (all_columns w around))) es
    inside h [] = refl
    inside h (e ∷ es) = ap₂ (λ (x y : List Env). x ++ y) (h e) (inside h es)

choice_count-append : (cs ds : List (List ℕ)) → choice_count (cs ++ ds) ≡ choice_count cs * choice_count ds
choice_count-append [] ds = let e : 1 * choice_count ds ≡ choice_count ds = omega arith in sym e
choice_count-append (c ∷ cs) ds = ap (λ n. length c * n) (choice_count-append cs ds) ∙ sym (mul_assoc (length c) (choice_count cs) (choice_count ds))

pub around-count : (w : World) (around : List (List Group)) → choice_count (all_columns w around) ≡ around_count w around
around-count w [] = refl
around-count w (vars ∷ around) = choice_count-append (columns w vars) (all_columns w around) ∙ ap (λ n. choice_count (columns w vars) * n) (around-count w around)
