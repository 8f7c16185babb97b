-- What is found in a table of names is what the definitions name.
use Rattle.std.proofs.Common.{◌≡◌, refl, sym, ap, ◌∙◌, ℕ, ◌<◌, Bool, true, false, ◌&&◌, List, [], ◌∷◌, length, nat_eq, ◌≤◌, arith}
use Rattle.std.specs.Prelude.{map, position, is_some, if◌then◌else◌}
use Rattle.std.specs.List.{list_any}
use Rattle.std.specs.Cmp.Lexicographic.{pointwise}
use Rattle.std.specs.Str.{str_to_ascii_lowercase}
use Rattle.std.proofs.lemmas.List.{length-map}
use Rattle.std.proofs.Math.Bool.{and-true}
use Rattle.task_types.specs.declared.actions.Action.{Action}
use Rattle.task_types.specs.declared.actions.Schema.{Schema}
use Rattle.plan_files.specs.Names.{same_word}
use Rattle.plan_files.specs.Entries.{Entry, Key, same_entry, entry_of, object_entry, action_entry, schema_entry, durative_of}
use Rattle.plan_files.proofs.Positions.{position-any, position-map, position-same, any-map, any-same, any-filter}

pub object-found : (objects : List (List ℕ)) (w : List ℕ) → position (same_entry (str_to_ascii_lowercase w, [])) (map {B = Entry} object_entry objects) ≡ position (λ n. same_word w n) objects
object-found objects w = position-map object_entry (same_entry (str_to_ascii_lowercase w, [])) objects
    ∙ position-same (λ n. same_entry (str_to_ascii_lowercase w, []) (object_entry n)) (λ n. same_word w n) (λ n. and-true (same_word w n)) objects

pub action-found : (actions : List Action) (n os : List ℕ) → position (same_entry (str_to_ascii_lowercase n, os)) (map {B = Entry} action_entry actions) ≡ position (λ a. same_word n a.name && pointwise nat_eq os a.args) actions
action-found actions n os = position-map action_entry (same_entry (str_to_ascii_lowercase n, os)) actions

pub durative-found : (schemas : List Schema) (n : List ℕ) → is_some (position (same_entry (str_to_ascii_lowercase n, [])) (map {B = Entry} schema_entry (durative_of schemas))) ≡ list_any (λ s. same_word n s.name && s.durative) schemas
durative-found schemas n = position-any test (map {B = Entry} schema_entry (durative_of schemas))
    ∙ any-map schema_entry test (durative_of schemas)
    ∙ any-filter (λ s. test (schema_entry s)) (λ s. s.durative) schemas
    ∙ any-same (λ (s : Schema). test (schema_entry s) && s.durative) (λ s. same_word n s.name && s.durative) (λ s. ap (λ b. b && s.durative) (and-true (same_word n s.name))) schemas
  where
    test : Entry → Bool
    test = same_entry (str_to_ascii_lowercase n, [])

length-durative : (schemas : List Schema) → length (durative_of schemas) ≤ length schemas
length-durative [] = omega arith
length-durative (s ∷ ss) = let more = length-durative ss in go s.durative more
  where
    go : (b : Bool) → length (durative_of ss) ≤ length ss → length (if b then s ∷ durative_of ss else durative_of ss) ≤ length (s ∷ ss)
    go true h = omega arith
    go false h = omega arith

-- the keys of the actions that take time are not more than the actions
pub durative-few : (keys : List Key) (schemas : List Schema) (n : ℕ) → map {B = Entry} entry_of keys ≡ map {B = Entry} schema_entry (durative_of schemas) → length schemas < n → length keys < n
durative-few keys schemas n e h =
    let same : length keys ≡ length (durative_of schemas) = sym (length-map keys entry_of) ∙ ap length e ∙ length-map (durative_of schemas) schema_entry in
    omega (arith, same, length-durative schemas)

abbrev pub entry : List ℕ → List ℕ → Entry
entry a b = (a, b)
