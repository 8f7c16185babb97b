-- The predicates that change, declaration by declaration, and their bindings, one by one.
use Rattle.std.proofs.Common.{◌≡◌, refl, sym, ap, ap₂, subst, ◌∙◌, ℕ, suc, ◌+◌, ◌/◌, ◌%◌, ◌<◌, ◌≤◌, arith, Bool, true, false, not, ◌||◌, ◌==◌, Some, None, List, [], ◌∷◌, ◌++◌, map, cond, length, take, drop, get_or, min, append_assoc, length-append}
use Rattle.std.specs.Prelude.{if◌then◌else◌, is_some}
use Rattle.std.specs.List.{flat_map, filter, enumerate_from}
use Rattle.std.specs.List.Sorted.{IsStrictlySortedBy}
use Rattle.std.specs.Ordering.{nat_cmp}
use Rattle.std.specs.Str.{bytes_eq}
use Rattle.std.specs.declared.cmp.Ordering.TheVariants.{Less, Equal}
use Rattle.std.proofs.lemmas.Bool.Decides.{nat_tests}
use Rattle.std.proofs.lemmas.Cmp.{nat_list_cmp_total, tied_itself}
use Rattle.std.proofs.lemmas.List.{map-append, append-nil, take-append-drop, take_more, take_all, length-map}
use Rattle.std.proofs.lemmas.Simd.{map-map}
use Rattle.std.proofs.lemmas.List.Concat.{flat_map-append}
use Rattle.std.proofs.lemmas.List.Folds.{flat_map-map}
use Rattle.std.proofs.lemmas.List.FromFn.{get_or-map-range_with_len}
use Rattle.basics.proofs.Lists.{map-filter-append, each_right}
use Rattle.basics.proofs.Naturals.{lt_out, same_itself}
use Rattle.pddl_terms.specs.declared.trees.Group.{Group}
use Rattle.pddl_terms.specs.declared.files.Declared.{Declared}
use Rattle.pddl_terms.specs.declared.files.Declared.TheVariants as declared
use Rattle.pddl_names.specs.Declarations.{Text, Signature, value_of, with_new, with_first, with_firsts, signature_of, sorts_of}
use Rattle.pddl_names.proofs.Doubling.{firsts-loop, with_firsts-append, with_new-append}
use Rattle.pddl_names.proofs.Tabled.{with_first-there, with_first-new}
use Rattle.pddl_names.proofs.Ways.{same_text, text_itself}
use Rattle.ground_world.specs.World.{World, Env, GroundAtom, place_in, columns}
use Rattle.ground_world.specs.Bindings.{choices, choice_count, choice_at, paired}
use Rattle.ground_world.specs.Counts.{together}
use Rattle.ground_world.specs.FirstState.{all_atoms, names_of, signatures_of}
use Rattle.ground_world.specs.Shown.{env_of, columns_of}
use Rattle.ground_world.specs.Shown as shown
use Rattle.ground_world.specs.declared.binding.Bound.{Bound}
use Rattle.ground_world.specs.declared.choosing.Variable.{Variable}
use Rattle.ground_world.proofs.Ascending.{list_cmp, has, Leads}
use Rattle.ground_world.proofs.Choices.{choices-by_number}
use Rattle.ground_world.proofs.FirstDeclared.{known}
use Rattle.ground_world.proofs.FluentOrder.{atoms-sorted}
use Rattle.ground_world.proofs.Steps.{taken}
use Rattle.ground_world.proofs.Weights.{summand}
use Rattle.grounder.specs.Blocks.{Block, block_atoms, block_count, block_from, changing_blocks, next_block, next_count}
use Rattle.grounder.proofs.OneByOne.{length-choices}
use Rattle.grounder.proofs.Placing.{number-within}

-- ---- places of declared names

module _ {V : Type 0} where
  place-append : (es : List (Text × V)) (e : Text × V) (n : Text) → is_some (value_of es n) ≡ true → place_in (names_of (es ++ (e ∷ []))) n ≡ place_in (names_of es) n
  place-append [] e n k = cc
  place-append (x ∷ es) e n k = by (bytes_eq n x.0) refl (place-append es e n)
    where
      by : (b : Bool) → bytes_eq n x.0 ≡ b → (is_some (value_of es n) ≡ true → place_in (names_of (es ++ (e ∷ []))) n ≡ place_in (names_of es) n)
          → cond (not b) (1 + place_in (names_of (es ++ (e ∷ []))) n) 0 ≡ cond (not b) (1 + place_in (names_of es) n) 0
      by true h m = refl
      by false h m = ap (λ p. 1 + p) (m (sym (ap (λ b. is_some (if b then Some x.1 else value_of es n)) h) ∙ k))

  known-append : (es : List (Text × V)) (e : Text × V) (n : Text) → is_some (value_of es n) ≡ true → is_some (value_of (es ++ (e ∷ [])) n) ≡ true
  known-append [] e n k = cc
  known-append (x ∷ es) e n k = by (bytes_eq n x.0) refl (known-append es e n)
    where
      by : (b : Bool) → bytes_eq n x.0 ≡ b → (is_some (value_of es n) ≡ true → is_some (value_of (es ++ (e ∷ [])) n) ≡ true)
          → is_some (if b then Some x.1 else value_of (es ++ (e ∷ [])) n) ≡ true
      by true h m = refl
      by false h m = m (sym (ap (λ b. is_some (if b then Some x.1 else value_of es n)) h) ∙ k)

  -- a name keeps its place when more is declared
  place-firsts : (es more : List (Text × V)) (n : Text) → is_some (value_of es n) ≡ true → place_in (names_of (with_firsts es more)) n ≡ place_in (names_of es) n
  place-firsts es [] n k = refl
  place-firsts es (e ∷ more) n k = by (is_some (value_of es e.0)) (λ xs h. place-firsts xs more n h)
    where
      by : (b : Bool) → ((xs : List (Text × V)) → is_some (value_of xs n) ≡ true → place_in (names_of (with_firsts xs more)) n ≡ place_in (names_of xs) n)
          → place_in (names_of (with_firsts (if b then es else es ++ (e ∷ [])) more)) n ≡ place_in (names_of es) n
      by true ih = ih es k
      by false ih = ih (es ++ (e ∷ [])) (known-append es e n k) ∙ place-append es e n k

  place-below : (es : List (Text × V)) (n : Text) → is_some (value_of es n) ≡ true → place_in (names_of es) n < length es
  place-below es n k =
      let a : place_in (names_of es) n < length (names_of es) = lt_out (place_in (names_of es) n) (length (names_of es)) (number-within (names_of es) n (known es n ∙ k)) in
      let b : length (names_of es) ≡ length es = length-map es (λ e. e.0) in
      omega arith

  place-new : (es : List (Text × V)) (n : Text) (v : V) → is_some (value_of es n) ≡ false → place_in (names_of (es ++ ((n, v) ∷ []))) n ≡ length es
  place-new [] n v k = ap (λ b. cond (not b) (1 + 0) 0) (text_itself n)
  place-new (x ∷ es) n v k = by (bytes_eq n x.0) refl (place-new es n v)
    where
      by : (b : Bool) → bytes_eq n x.0 ≡ b → (is_some (value_of es n) ≡ false → place_in (names_of (es ++ ((n, v) ∷ []))) n ≡ length es)
          → cond (not b) (1 + place_in (names_of (es ++ ((n, v) ∷ []))) n) 0 ≡ suc (length es)
      by true h m = let e : true ≡ false = sym (ap (λ b. is_some (if b then Some x.1 else value_of es n)) h) ∙ k in cc
      by false h m = let e : place_in (names_of (es ++ ((n, v) ∷ []))) n ≡ length es = m (sym (ap (λ b. is_some (if b then Some x.1 else value_of es n)) h) ∙ k) in omega arith

  known-new : (es : List (Text × V)) (n : Text) (v : V) → is_some (value_of (es ++ ((n, v) ∷ [])) n) ≡ true
  known-new [] n v = ap (λ b. is_some (if b then Some v else None)) (text_itself n)
  known-new (x ∷ es) n v = by (bytes_eq n x.0) (known-new es n v)
    where
      by : (b : Bool) → is_some (value_of (es ++ ((n, v) ∷ [])) n) ≡ true → is_some (if b then Some x.1 else value_of (es ++ ((n, v) ∷ [])) n) ≡ true
      by true m = refl
      by false m = m

-- ---- one declaration more

abbrev one_at : Signature → ℕ → List (ℕ × Signature)
one_at s k = (k, s) ∷ []

enumerated-more : (n : ℕ) (ss : List Signature) (s : Signature) → enumerate_from n (ss ++ (s ∷ [])) ≡ enumerate_from n ss ++ ((n + length ss, s) ∷ [])
enumerated-more n [] s = let e : n ≡ n + 0 = omega arith in ap (one_at s) e
enumerated-more n (x ∷ ss) s =
    let e : n + 1 + length ss ≡ n + suc (length ss) = omega arith in
    ap (λ (l : List (ℕ × Signature)). (n, x) ∷ l) (enumerated-more (n + 1) ss s ∙ ap (λ (k : ℕ). enumerate_from (n + 1) ss ++ ((k, s) ∷ [])) e)

module _ (w : World) where
  abbrev block : ℕ → Signature → List Block
  block k s = if w.is_static k then [] else ((k, map w.fitting s.1) ∷ [])

  one_block : (k : ℕ) (s : Signature) → map (block_from w) (filter (λ x. not (w.is_static x.0)) ((k, s) ∷ [])) ≡ block k s
  one_block k s = by (w.is_static k)
    where
      by : (b : Bool) → map (block_from w) (cond (not b) ((k, s) ∷ []) []) ≡ (if b then [] else ((k, map w.fitting s.1) ∷ []))
      by true = refl
      by false = refl

  blocks-more : (ss : List Signature) (s : Signature) → changing_blocks w (ss ++ (s ∷ [])) ≡ changing_blocks w ss ++ block (length ss) s
  blocks-more ss s =
      let z : 0 + length ss ≡ length ss = omega arith in
      ap (λ (l : List (ℕ × Signature)). map (block_from w) (filter (λ x. not (w.is_static x.0)) l)) (enumerated-more 0 ss s)
      ∙ map-filter-append (block_from w) (λ x. not (w.is_static x.0)) (enumerate_from 0 ss) ((0 + length ss, s) ∷ [])
      ∙ ap (λ (l : List Block). changing_blocks w ss ++ l) (one_block (0 + length ss) s ∙ ap (λ k. block k s) z)

  -- what is known once some declarations are gone through
  pub record Gone (ss : List Signature) (blocks : List Block) (count : ℕ) : Type 0 where
    pub found : blocks ≡ changing_blocks w ss
    pub counted : count ≡ length ss

  pub gone-none : Gone [] [] 0
  gone-none = record { found = refl; counted = refl }

  module _ (n : Text) (groups : List Group) (ss : List Signature) (blocks : List Block) (count : ℕ) (gone : Gone ss blocks count)
      (place : is_some (value_of (with_first ss (n, sorts_of groups)) n) ≡ true → place_in w.predicates n ≡ place_in (names_of (with_first ss (n, sorts_of groups))) n) where
    abbrev added : List Block
    added = if place_in w.predicates n == count then (if w.is_static (place_in w.predicates n) then [] else (place_in w.predicates n, columns w groups) ∷ []) else []

    abbrev next : ℕ
    next = if place_in w.predicates n == count then place_in w.predicates n + 1 else count

    before : is_some (value_of ss n) ≡ true → Gone (with_first ss (n, sorts_of groups)) (blocks ++ added) next
    before k =
        let same : ss ≡ with_first ss (n, sorts_of groups) = with_first-there ss n (sorts_of groups) k in
        let at : place_in w.predicates n ≡ place_in (names_of ss) n = place (subst (λ l. is_some (value_of l n) ≡ true) same k) ∙ ap (λ l. place_in (names_of l) n) (sym same) in
        let lt : place_in (names_of ss) n < length ss = place-below ss n k in
        let c : count ≡ length ss = gone.counted in
        let off : (place_in w.predicates n == count) ≡ false = grind (arith, nat_tests) in
        subst (λ l. Gone l (blocks ++ added) next) same (record {
          found = ap (λ b. blocks ++ (if b then (if w.is_static (place_in w.predicates n) then [] else (place_in w.predicates n, columns w groups) ∷ []) else [])) off
              ∙ append-nil blocks ∙ gone.found;
          counted = ap (λ b. if b then place_in w.predicates n + 1 else count) off ∙ gone.counted;
        })

    first : is_some (value_of ss n) ≡ false → Gone (with_first ss (n, sorts_of groups)) (blocks ++ added) next
    first k =
        let grown : ss ++ ((n, sorts_of groups) ∷ []) ≡ with_first ss (n, sorts_of groups) = with_first-new ss n (sorts_of groups) k in
        let there : is_some (value_of (with_first ss (n, sorts_of groups)) n) ≡ true = subst (λ l. is_some (value_of l n) ≡ true) grown (known-new ss n (sorts_of groups)) in
        let at : place_in w.predicates n ≡ length ss = place there ∙ ap (λ l. place_in (names_of l) n) (sym grown) ∙ place-new ss n (sorts_of groups) k in
        let on : (place_in w.predicates n == count) ≡ true = ap (λ k. place_in w.predicates n == k) (gone.counted ∙ sym at) ∙ same_itself (place_in w.predicates n) in
        subst (λ l. Gone l (blocks ++ added) next) grown (record {
          found = ap (λ b. blocks ++ (if b then (if w.is_static (place_in w.predicates n) then [] else (place_in w.predicates n, columns w groups) ∷ []) else [])) on
              ∙ ap₂ (λ (l : List Block) (k : ℕ). l ++ (if w.is_static k then [] else ((k, columns w groups) ∷ []))) gone.found at
              ∙ sym (blocks-more ss (n, sorts_of groups));
          counted = ap (λ b. if b then place_in w.predicates n + 1 else count) on
              ∙ (let l : length (ss ++ ((n, sorts_of groups) ∷ [])) ≡ length ss + 1 = length-append ss ((n, sorts_of groups) ∷ []) in omega arith);
        })

    named : Gone (with_first ss (n, sorts_of groups)) (blocks ++ added) next
    named = by (is_some (value_of ss n)) refl
      where
        by : (b : Bool) → is_some (value_of ss n) ≡ b → Gone (with_first ss (n, sorts_of groups)) (blocks ++ added) next
        by true k = before k
        by false k = first k

  module _ (ds : List Declared) (names : w.predicates ≡ names_of (signatures_of ds)) (i : ℕ) (d : Declared) (lt : i < length ds) (at : d ≡ get_or ds i d) where
    here : with_firsts (signatures_of (take i ds)) (signature_of d) ≡ signatures_of (take (i + 1) ds)
    here = firsts-loop signature_of [] ds i d (signatures_of (take i ds)) (with_firsts (signatures_of (take i ds)) (signature_of d)) lt at refl refl

    later : signatures_of ds ≡ with_firsts (with_firsts (signatures_of (take i ds)) (signature_of d)) (flat_map signature_of (drop (i + 1) ds))
    later =
        ap signatures_of (sym (take-append-drop (i + 1) ds))
        ∙ ap (with_firsts []) (flat_map-append signature_of (take (i + 1) ds) (drop (i + 1) ds))
        ∙ with_firsts-append [] (flat_map signature_of (take (i + 1) ds)) (flat_map signature_of (drop (i + 1) ds))
        ∙ ap (λ l. with_firsts l (flat_map signature_of (drop (i + 1) ds))) (sym here)

    place-kept : (n : Text) → is_some (value_of (with_firsts (signatures_of (take i ds)) (signature_of d)) n) ≡ true
        → place_in w.predicates n ≡ place_in (names_of (with_firsts (signatures_of (take i ds)) (signature_of d))) n
    place-kept n k =
        ap (λ l. place_in l n) (names ∙ ap names_of later)
        ∙ place-firsts (with_firsts (signatures_of (take i ds)) (signature_of d)) (flat_map signature_of (drop (i + 1) ds)) n k

    gone-on : (blocks : List Block) (count : ℕ) → Gone (signatures_of (take i ds)) blocks count → (x : Declared) → d ≡ x
        → Gone (with_firsts (signatures_of (take i ds)) (signature_of x)) (blocks ++ next_block w count x) (next_count w count x)
    gone-on blocks count g (declared.Named a n groups) e =
        named n.bytes groups (signatures_of (take i ds)) blocks count g
        (subst (λ (x : Declared). is_some (value_of (with_firsts (signatures_of (take i ds)) (signature_of x)) n.bytes) ≡ true
        → place_in w.predicates n.bytes ≡ place_in (names_of (with_firsts (signatures_of (take i ds)) (signature_of x))) n.bytes) e (place-kept n.bytes))
    gone-on blocks count g (declared.LeftOut a) e = record { found = append-nil blocks ∙ g.found; counted = g.counted }

    pub gone-more : (blocks after : List Block) (count more : ℕ) → Gone (signatures_of (take i ds)) blocks count → after ≡ blocks ++ next_block w count d → more ≡ next_count w count d
        → Gone (signatures_of (take (i + 1) ds)) after more
    gone-more blocks after count more g b c =
        subst (λ l. Gone l after more) here
        (subst (λ l. Gone (with_firsts (signatures_of (take i ds)) (signature_of d)) l more) (sym b)
        (subst (Gone (with_firsts (signatures_of (take i ds)) (signature_of d)) (blocks ++ next_block w count d)) (sym c) (gone-on blocks count g d refl)))

-- ---- how many bindings there are

length-block : (b : Block) → length (block_atoms b) ≡ block_count b
length-block b = length-map (choices b.1) (λ os. b.0 ∷ os) ∙ length-choices b.1

pub length-blocks : (bs : List Block) → length (flat_map block_atoms bs) ≡ together (map block_count bs)
length-blocks [] = refl
length-blocks (b ∷ bs) = length-append (block_atoms b) (flat_map block_atoms bs) ∙ ap₂ (λ m n. m + n) (length-block b) (length-blocks bs)

pub atoms-are : (w : World) (ds : List Declared) → flat_map block_atoms (changing_blocks w (signatures_of ds)) ≡ all_atoms w (λ p. not (w.is_static p)) ds
atoms-are w ds = flat_map-map block_atoms (block_from w) (filter (λ x. not (w.is_static x.0)) (enumerate_from 0 (signatures_of ds)))

together-more : (ms : List ℕ) (n : ℕ) → together (ms ++ (n ∷ [])) ≡ together ms + n
together-more [] n = omega arith
together-more (m ∷ ms) n = let e : together (ms ++ (n ∷ [])) ≡ together ms + n = together-more ms n in omega arith

pub counted-more : {X : Type 0} (f : X → ℕ) (xs : List X) (i : ℕ) (x : X) → i < length xs → x ≡ get_or xs i x → together (map f (take (i + 1) xs)) ≡ together (map f (take i xs)) + f x
counted-more f xs i x lt at = ap (λ l. together (map f l)) (taken xs i x lt at) ∙ ap together (map-append f (take i xs) (x ∷ [])) ∙ together-more (map f (take i xs)) (f x)

-- each of some blocks has no more bindings than they have together
pub block-within : {X : Type 0} (g : X → Block) (xs : List X) (i : ℕ) (x : X) → i < length xs → x ≡ get_or xs i x → together (map block_count (map g xs)) ≤ 16384 → block_count (g x) ≤ 16384
block-within g xs i x lt at h =
    let a : block_count (g x) ≤ together (map (λ y. block_count (g y)) xs) = summand (λ y. block_count (g y)) xs i x lt at in
    let e : together (map block_count (map g xs)) ≡ together (map (λ y. block_count (g y)) xs) = ap together (map-map block_count g xs) in
    omega arith

pub many-atoms : (w : World) (ds : List Declared) (bs : List Block) (n : ℕ) → bs ≡ changing_blocks w (signatures_of ds) → n ≡ min 16385 (together (map block_count bs)) → n ≡ 16385
    → 16384 < length (all_atoms w (λ p. not (w.is_static p)) ds)
many-atoms w ds bs n b c e =
    let l : length (all_atoms w (λ p. not (w.is_static p)) ds) ≡ together (map block_count bs) = ap length (sym (atoms-are w ds)) ∙ ap (λ x. length (flat_map block_atoms x)) (sym b) ∙ length-blocks bs in
    omega arith

pub capped-more : {X : Type 0} (g : X → Block) (xs : List X) (i : ℕ) (x : X) (count own after : ℕ) → i < length xs → x ≡ get_or xs i x → count ≡ min 16385 (together (map block_count (map g (take i xs))))
    → own ≡ min 16385 (block_count (g x)) → after ≡ min (count + own) 16385 → after ≡ min 16385 (together (map block_count (map g (take (i + 1) xs))))
capped-more g xs i x count own after lt at h k e =
    let a : together (map block_count (map g (take i xs))) ≡ together (map (λ y. block_count (g y)) (take i xs)) = ap together (map-map block_count g (take i xs)) in
    let b : together (map block_count (map g (take (i + 1) xs))) ≡ together (map (λ y. block_count (g y)) (take (i + 1) xs)) = ap together (map-map block_count g (take (i + 1) xs)) in
    let m : together (map (λ y. block_count (g y)) (take (i + 1) xs)) ≡ together (map (λ y. block_count (g y)) (take i xs)) + block_count (g x) = counted-more (λ y. block_count (g y)) xs i x lt at in
    omega arith

-- ---- one binding more

pub key-more : (p : ℕ) (bs : List Bound) (i : ℕ) (b : Bound) (before after : List ℕ) → i < length bs → b ≡ get_or bs i b
    → before ≡ p ∷ map (λ (x : Text × ℕ). x.1) (env_of (take i bs)) → after ≡ before ++ (b.object ∷ []) → after ≡ p ∷ map (λ (x : Text × ℕ). x.1) (env_of (take (i + 1) bs))
key-more p bs i b before after lt at h k =
    k ∙ ap (λ l. l ++ (b.object ∷ [])) h
    ∙ ap (λ l. p ∷ l) (sym (ap (λ l. map (λ (x : Text × ℕ). x.1) (env_of l)) (taken bs i b lt at)
    ∙ ap (map (λ (x : Text × ℕ). x.1)) (map-append (λ (c : Bound). (c.name.now, c.object)) (take i bs) (b ∷ []))
    ∙ map-append (λ (x : Text × ℕ). x.1) (env_of (take i bs)) ((b.name.now, b.object) ∷ [])))

chosen : (vs : List Variable) (k : ℕ) → map (λ (x : Text × ℕ). x.1) (paired (shown.names_of vs) (choice_at (columns_of vs) k)) ≡ choice_at (columns_of vs) k
chosen [] k = refl
chosen (v ∷ vs) k = ap (λ l. get_or v.column.now (k / choice_count (columns_of vs)) 0 ∷ l) (chosen vs (k % choice_count (columns_of vs)))

choice-more : (cs : List (List ℕ)) (k : ℕ) → k < choice_count cs → take (k + 1) (choices cs) ≡ take k (choices cs) ++ (choice_at cs k ∷ [])
choice-more cs k lt =
    let l : length (choices cs) ≡ choice_count cs = length-choices cs in
    take_more (choices cs) k [] (omega arith)
    ∙ ap (λ (x : List ℕ). take k (choices cs) ++ (x ∷ []))
    (ap (λ (l : List (List ℕ)). get_or l k []) (choices-by_number cs) ∙ get_or-map-range_with_len (choice_at cs) 0 (choice_count cs) k k [] lt (omega arith))

pub binding-more : (p : ℕ) (vs : List Variable) (k : ℕ) (e : Env) (old before after : List GroundAtom) → k < choice_count (columns_of vs)
    → e ≡ [] ++ paired (shown.names_of vs) (choice_at (columns_of vs) k)
    → before ≡ with_new old (map (λ os. p ∷ os) (take k (choices (columns_of vs)))) → after ≡ with_new before ((p ∷ map (λ b. b.1) e) ∷ [])
    → after ≡ with_new old (map (λ os. p ∷ os) (take (k + 1) (choices (columns_of vs))))
binding-more p vs k e old before after lt is h j =
    j ∙ ap₂ (λ (l : List GroundAtom) (x : List ℕ). with_new l ((p ∷ x) ∷ [])) h (ap (map (λ (b : Text × ℕ). b.1)) is ∙ chosen vs k)
    ∙ sym (with_new-append old (map (λ os. p ∷ os) (take k (choices (columns_of vs)))) ((p ∷ choice_at (columns_of vs) k) ∷ []))
    ∙ ap (with_new old) (sym (ap (map (λ os. p ∷ os)) (choice-more (columns_of vs) k lt) ∙ map-append (λ os. p ∷ os) (take k (choices (columns_of vs))) (choice_at (columns_of vs) k ∷ [])))

pub bindings-all : (p : ℕ) (vs : List Variable) (k : ℕ) (old after : List GroundAtom) → choice_count (columns_of vs) ≤ k
    → after ≡ with_new old (map (λ os. p ∷ os) (take k (choices (columns_of vs)))) → after ≡ with_new old (map (λ os. p ∷ os) (choices (columns_of vs)))
bindings-all p vs k old after h j =
    let l : length (choices (columns_of vs)) ≡ choice_count (columns_of vs) = length-choices (columns_of vs) in
    j ∙ ap (λ c. with_new old (map (λ os. p ∷ os) c)) (take_all k (choices (columns_of vs)) (omega arith))

-- ---- lists in ascending order have nothing twice

not_behind : (x o : List ℕ) (c : Bool) → bytes_eq x o ≡ c → list_cmp o x ≡ Less → c ≡ false
not_behind x o true e h =
    let same : list_cmp o o ≡ Less = ap (list_cmp o) (sym (same_text x o e)) ∙ h in
    let tie : list_cmp o o ≡ Equal = tied_itself nat_list_cmp_total o in
    cc
not_behind x o false e h = refl

apart : (old : List (List ℕ)) (x : List ℕ) (xs : List (List ℕ)) → IsStrictlySortedBy list_cmp (old ++ (x ∷ xs)) → has old x ≡ false
unfolding IsStrictlySortedBy
apart [] x xs h = refl
apart (o ∷ old) x xs h =
    let behind : Leads list_cmp o (x ∷ xs) = each_right (λ y. list_cmp o y ≡ Less) old (x ∷ xs) h.0 in
    ap₂ (λ a b. a || b) (not_behind x o (bytes_eq x o) refl behind.0) (apart old x xs h.1)

pub new-sorted : (old xs : List (List ℕ)) → IsStrictlySortedBy list_cmp (old ++ xs) → with_new old xs ≡ old ++ xs
new-sorted old [] h = sym (append-nil old)
new-sorted old (x ∷ xs) h =
    ap (λ b. with_new (if b then old else old ++ (x ∷ [])) xs) (apart old x xs h)
    ∙ new-sorted (old ++ (x ∷ [])) xs (subst (IsStrictlySortedBy list_cmp) (sym (append_assoc old (x ∷ []) xs)) h)
    ∙ append_assoc old (x ∷ []) xs

-- the bindings of what changes, each once
pub atoms-once : (w : World) (ds : List Declared) → ((s : Text) → IsStrictlySortedBy nat_cmp (w.fitting s))
    → with_new [] (flat_map block_atoms (changing_blocks w (signatures_of ds))) ≡ all_atoms w (λ p. not (w.is_static p)) ds
atoms-once w ds h = ap (with_new []) (atoms-are w ds) ∙ new-sorted [] (all_atoms w (λ p. not (w.is_static p)) ds) (atoms-sorted w (λ p. not (w.is_static p)) ds h)
