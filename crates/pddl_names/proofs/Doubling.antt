-- Names that stood before, along a list and along parts of it, and the first declarations of names.
use Rattle.std.proofs.Common.{◌≡◌, refl, sym, ap, ◌∙◌, ℕ, ◌+◌, ◌<◌, List, [], ◌∷◌, ◌++◌, map, Option, if◌then◌else◌, length, take, get_or, append-nil, append_assoc}
use Rattle.std.specs.List.{flat_map}
use Rattle.std.proofs.lemmas.List.{take_more, map-append}
use Rattle.std.proofs.lemmas.List.Concat.{flat_map-append}
use Rattle.pddl_terms.specs.declared.trees.Name.{Name}
use Rattle.pddl_terms.specs.declared.faults.Kind.TheVariants as kind
use Rattle.pddl_names.specs.declared.offences.Offence.{Offence}
use Rattle.pddl_names.specs.Declarations.{Text, among, with_new, with_first, with_firsts}
use Rattle.pddl_names.specs.Offences.{offence, earlier, least}
use Rattle.pddl_names.specs.Calls.{doubles}
use Rattle.pddl_names.proofs.Least.{least-append}

abbrev pub texts : List Name → List Text
texts names = map (λ n. n.bytes) names

pub with_new-append : (xs ys zs : List Text) → with_new xs (ys ++ zs) ≡ with_new (with_new xs ys) zs
with_new-append xs [] zs = refl
with_new-append xs (y ∷ ys) zs = with_new-append (if among xs y then xs else xs ++ (y ∷ [])) ys zs

pub doubles-append : (seen : List Text) (xs ys : List Name) → doubles seen (xs ++ ys) ≡ doubles seen xs ++ doubles (with_new seen (texts xs)) ys
doubles-append seen [] ys = refl
doubles-append seen (x ∷ xs) ys =
    ap (λ l. (if among seen x.bytes then offence kind.Double x.at ∷ [] else []) ++ l) (doubles-append (with_new seen (x.bytes ∷ [])) xs ys)
    ∙ sym (append_assoc (if among seen x.bytes then offence kind.Double x.at ∷ [] else []) (doubles (with_new seen (x.bytes ∷ [])) xs) (doubles (with_new (with_new seen (x.bytes ∷ [])) (texts xs)) ys))

pub grown : {X Y : Type 0} (f : X → List Y) (xs : List X) (i : ℕ) (x : X) → i < length xs → x ≡ get_or xs i x → flat_map f (take (i + 1) xs) ≡ flat_map f (take i xs) ++ f x
grown f xs i x h e = ap (flat_map f) (take_more xs i x h ∙ ap (λ y. take i xs ++ y ∷ []) (sym e)) ∙ flat_map-append f (take i xs) (x ∷ []) ∙ ap (λ l. flat_map f (take i xs) ++ l) (append-nil (f x))

module _ {V : Type 0} where
  pub with_firsts-append : (xs ys zs : List (Text × V)) → with_firsts xs (ys ++ zs) ≡ with_firsts (with_firsts xs ys) zs
  with_firsts-append xs [] zs = refl
  with_firsts-append xs (y ∷ ys) zs = with_firsts-append (with_first xs y) ys zs

  -- a loop over items adds what each declares
  pub firsts-loop : {X : Type 0} (f : X → List (Text × V)) (before : List (Text × V)) (xs : List X) (i : ℕ) (x : X) (now next : List (Text × V))
      → i < length xs → x ≡ get_or xs i x → now ≡ with_firsts before (flat_map f (take i xs)) → next ≡ with_firsts now (f x) → next ≡ with_firsts before (flat_map f (take (i + 1) xs))
  firsts-loop f before xs i x now next h e j n =
      n ∙ ap (λ t. with_firsts t (f x)) j ∙ sym (with_firsts-append before (flat_map f (take i xs)) (f x)) ∙ ap (with_firsts before) (sym (grown f xs i x h e))

-- along a list of items that declare names
pub record Doubled {X : Type 0} (f : X → List Name) (before now : List Text) (found : Option Offence) (xs : List X) : Type 0 where
  pub offences : found ≡ least (doubles before (flat_map f xs))
  pub names : now ≡ with_new before (texts (flat_map f xs))

pub doubled-loop : {X : Type 0} (f : X → List Name) (before now later : List Text) (xs : List X) (i : ℕ) (x : X) (found next other : Option Offence)
    → i < length xs → x ≡ get_or xs i x → Doubled f before now found (take i xs) → next ≡ earlier found other → other ≡ least (doubles now (f x)) → later ≡ with_new now (texts (f x))
    → Doubled f before later next (take (i + 1) xs)
doubled-loop f before now later xs i x found next other h e d n k m =
    let done = flat_map f (take i xs) in
    let more = grown f xs i x h e in
    record {
      offences = n ∙ ap (λ a. earlier a other) d.offences ∙ ap (earlier (least (doubles before done))) (k ∙ ap (λ s. least (doubles s (f x))) d.names)
          ∙ sym (ap (λ l. least (doubles before l)) more ∙ ap least (doubles-append before done (f x)) ∙ least-append (doubles before done) (doubles (with_new before (texts done)) (f x)));
      names = m ∙ ap (λ s. with_new s (texts (f x))) d.names ∙ sym (with_new-append before (texts done) (texts (f x))) ∙ ap (with_new before) (sym (ap texts more ∙ map-append (λ n. n.bytes) done (f x)));
    }

pub each_alone : {X : Type 0} (xs : List X) → flat_map (λ x. x ∷ []) xs ≡ xs
each_alone [] = refl
each_alone (x ∷ xs) = ap (λ l. x ∷ l) (each_alone xs)
