-- What `clap` makes of the words of a simple command is what the grammar says.
use Rattle.std.proofs.Common.{◌≡◌, ℕ, Bool, true, false, cond, not, ◌&&◌, ◌||◌, List, [], ◌∷◌, ◌++◌, map, fold, length, Option, Some, None, is_some, codes, refl, sym, ap, ◌∙◌, subst, true≢false, arith}
use Rattle.std.specs.Prelude.{slice_get, option_and_then, option_map, find, ◌==◌, nat_lt, unwrap_or, MatchOption, drop, String, string_bytes, IsUtf8, encode_utf8_all}
use Rattle.std.specs.List.{list_all, list_any}
use Rattle.std.specs.Option.{option_map_or}
use Rattle.std.specs.Str.{bytes_eq, chars}
use Rattle.std.proofs.lemmas.Slice.Eq.{bytes_eq-Decides}
use Rattle.clap.specs.Lexer.{long_of, short_of, short_of_rest}
use Rattle.std.specs.Cmp.{unsigned_Decides}
use Rattle.std.specs.declared.alloc.Global.{Global}
use Rattle.std.proofs.lemmas.Str.{IsUtf8-drop, IsCharBoundary-after_ascii, IsUtf8-string_bytes, encodes-chars}
use Rattle.std.proofs.Math.Bool.{and-false}
use Rattle.std.proofs.lemmas.List.{append-nil}
use Rattle.clap.specs.Kinds.{Kinds, or_else}
use Rattle.clap.specs.Walk.{Held, default_rows, finished, first_of, nothing_held, rows_after, walk, walk_from, with_default, after_flag, long_met, Row, Rule, Step, Waiting, Walk, idle, option, trailing, value, next, after_step, arg_by_id, arg_by_index, arg_by_long, arg_by_short, at_row, has_row, long_or_other, more_values, short_or_plain, subcommand_met, subcommand_or_other, to_positional, is_pending, used_by_id, option_word, positional, is_empty, pushed, settled, used, walked, with_values, without, word_met, reading_by, next_position}
use Rattle.clap.specs.Simple.{Shape, built, entered, filled, help_rule, new_shape, with_index}
use Rattle.clap.specs.Takes.{is_given}
use Rattle.clap.specs.Facts.{explicit_source}
use Rattle.clap.proofs.SimpleLemmas.{is_nil}
use Rattle.clap.proofs.WalkLemmas.{both}
use Rattle.clap.specs.Faults.{built_fault, check_fault, entered_fault, default_fault, given_default_fault, defaults_fault, level_fault, walk_fault, bundle_step_fault, flag_word_fault, flags_fault, bundle_fault, long_fault, other_fault, short_fault, positional_fault, react_fault, settle_fault, step_fault, turn_fault, use_fault, word_fault}
use Rattle.clap.specs.declared.error.kind.ErrorKind.TheVariants as kind
use Rattle.clap.specs.declared.parser.matches.ValueSource.TheVariants.{CommandLine}
use Rattle.command_words.specs.Forms.{app_of_form, given, place_rule, option_rule, takes_words}
use Rattle.command_words.specs.Requests.{begins_with, schedule_form, validate_form}
use Rattle.command_words.specs.Grammar.{Text, Form, texts, Pairs, give, has_text, is_option, dashes, places_read, words_read, word_read, value_read, place_read, text_of, texts_given, all_placed}

-- ---- rows

abbrev the_place : ℕ → Text → Rule
the_place i p = with_index i (filled (place_rule p))

abbrev the_option : Text → Rule
the_option name = filled (option_rule name)

abbrev row : Text × Text → Row
row g = record { id = g.0; values = g.1 ∷ []; count = None; source = Some CommandLine; reading = reading_by (the_option g.0) }

abbrev rows : Pairs → List Row
rows seen = map row seen

has_row-rows : (name : Text) (seen : Pairs) → has_row name (rows seen) ≡ has_text name seen
has_row-rows name [] = refl
has_row-rows name (g ∷ gs) = ap (λ b. bytes_eq g.0 name || b) (has_row-rows name gs)

at_row-absent : (id : Text) (change : Row → List Row) (missing rs : List Row) → has_row id rs ≡ false → at_row id change missing rs ≡ rs ++ missing
at_row-absent id change missing [] none = refl
at_row-absent id change missing (r ∷ rs) none = go (bytes_eq r.id id) none (λ e. at_row-absent id change missing rs e)
  where
    go : (b : Bool) → (b || has_row id rs) ≡ false → (has_row id rs ≡ false → at_row id change missing rs ≡ rs ++ missing) → cond b (change r ++ rs) (r ∷ at_row id change missing rs) ≡ r ∷ (rs ++ missing)
    go true e more = absurd (true≢false e)
    go false e more = ap (λ l. r ∷ l) (more e)

map-append : (seen more : Pairs) → rows (seen ++ more) ≡ rows seen ++ rows more
map-append [] more = refl
map-append (g ∷ gs) more = ap (λ l. row g ∷ l) (map-append gs more)

-- a use of a name that has no row adds one
used_option : (name v : Text) (rs : List Row) → has_row name rs ≡ false → used (the_option name) (v ∷ []) rs ≡ rs ++ row (name, v) ∷ []
used_option name v rs none =
    let gone : without name rs ≡ rs = at_row-absent name (λ _. []) [] rs none ∙ append-nil rs in
    ap (λ l. with_values name (reading_by (the_option name)) CommandLine (v ∷ []) l) gone ∙ at_row-absent name (more_values CommandLine (v ∷ [])) _ rs none

used_place : (i : ℕ) (p v : Text) (rs : List Row) → has_row p rs ≡ false → used (the_place i p) (v ∷ []) rs ≡ rs ++ row (p, v) ∷ []
used_place i p v rs none =
    let gone : without p rs ≡ rs = at_row-absent p (λ _. []) [] rs none ∙ append-nil rs in
    ap (λ l. with_values p (reading_by (the_place i p)) CommandLine (v ∷ []) l) gone ∙ at_row-absent p (more_values CommandLine (v ∷ [])) _ rs none

-- and is no fault, where a second use is
abbrev conflict : Bool → Kinds
conflict b = cond b (kind.ArgumentConflict ∷ []) []

conflict_is : (b : Bool) → or_else (cond (b && not false) (kind.ArgumentConflict ∷ []) []) [] ≡ conflict b
conflict_is true = refl
conflict_is false = refl

use_option : (name v : Text) (rs : List Row) → use_fault false (the_option name) (v ∷ []) rs ≡ conflict (has_row name rs)
use_option name v rs = conflict_is (has_row name rs)

use_place : (i : ℕ) (p v : Text) (rs : List Row) → use_fault false (the_place i p) (v ∷ []) rs ≡ conflict (has_row p rs)
use_place i p v rs = conflict_is (has_row p rs)

-- ---- a command: what its rules answer

abbrev help : Rule
help = filled help_rule

abbrev long_found : List Text → Text → Option Rule
long_found [] name = cond (bytes_eq (codes "help") name || false) (Some help) None
long_found (o ∷ os) name = cond (bytes_eq o name || false) (Some (the_option o)) (long_found os name)

abbrev short_found : ℕ → Option Rule
short_found x = cond ((104 == x) || false) (Some help) None

-- the places that are left, from a position on
abbrev PlacesFrom : List Rule → ℕ → List Text → Type 0
PlacesFrom c n [] = arg_by_index c n ≡ None
PlacesFrom c n (p ∷ ps) = (arg_by_index c n ≡ Some (the_place n p)) × (arg_by_id c p ≡ Some (the_place n p)) × PlacesFrom c (next_position (the_place n p) n) ps

abbrev OptionsFound : List Rule → List Text → Type 0
OptionsFound c [] = Unit {0}
OptionsFound c (o ∷ os) = (arg_by_id c o ≡ Some (the_option o)) × OptionsFound c os

-- an option of the list is found by its name
found_by_id : (c : List Rule) (options : List Text) (name : Text) → OptionsFound c options → is_option options name ≡ true → arg_by_id c name ≡ Some (the_option name)
found_by_id c [] name all is = absurd (true≢false (sym is))
found_by_id c (o ∷ os) name all is = go (bytes_eq o name) (bytes_eq-Decides o name).0 is (found_by_id c os name all.1)
  where
    go : (b : Bool) → (b ≡ true → o ≡ name) → (b || is_option os name) ≡ true → (is_option os name ≡ true → arg_by_id c name ≡ Some (the_option name)) → arg_by_id c name ≡ Some (the_option name)
    go true same e more = subst (λ n. arg_by_id c n ≡ Some (the_option n)) (same refl) all.0
    go false same e more = more e

-- a long name is that of an option, of help, or of nothing
data Long (name : Text) : Option Rule → Bool → Type 0 where
  known : Long name (Some (the_option name)) true
  helps : Long name (Some help) false
  unknown : Long name None false

long_is : (options : List Text) (name : Text) → Long name (long_found options name) (is_option options name)
long_is [] name = go (bytes_eq (codes "help") name)
  where
    go : (b : Bool) → Long name (cond (b || false) (Some help) None) false
    go true = helps
    go false = unknown
long_is (o ∷ os) name = go (bytes_eq o name) (bytes_eq-Decides o name).0 (long_is os name)
  where
    go : (b : Bool) → (b ≡ true → o ≡ name) → Long name (long_found os name) (is_option os name) → Long name (cond (b || false) (Some (the_option o)) (long_found os name)) (b || is_option os name)
    go true same rest = subst (λ n. Long name (Some (the_option n)) true) (sym (same refl)) known
    go false same rest = rest

-- ---- kinds

nonempty_first : (a b : Kinds) → is_empty a ≡ false → is_empty (or_else a b) ≡ false
nonempty_first [] b e = absurd (true≢false e)
nonempty_first (k ∷ ks) b e = e

nonempty_second : (a b : Kinds) → is_empty b ≡ false → is_empty (or_else a b) ≡ false
nonempty_second [] b e = e
nonempty_second (k ∷ ks) b e = grind arith

abbrev if_empty : {X : Type 0} → Kinds → Option X → Option X
if_empty [] x = x
if_empty (k ∷ ks) x = None

stopped_there : {X : Type 0} (ks : Kinds) (x : Option X) → is_empty ks ≡ false → if_empty ks x ≡ None
stopped_there [] x e = absurd (true≢false e)
stopped_there (k ∷ ks) x e = refl

went_on : {X : Type 0} (ks : Kinds) (x : Option X) → ks ≡ [] → if_empty ks x ≡ x
went_on ks x e = ap (λ k. if_empty k x) e

no_subcommand : (waiting : Waiting) (word : Text) → subcommand_met [] waiting word ≡ None
no_subcommand idle word = refl
no_subcommand (option id) word = refl
no_subcommand positional word = refl

-- ---- rows at the end

is_given-rows : (name : Text) (seen : Pairs) → is_given name (rows seen) ≡ has_text name seen
is_given-rows name [] = refl
is_given-rows name (g ∷ gs) = go (bytes_eq g.0 name) (is_given-rows name gs)
  where
    go : (b : Bool) → is_given name (rows gs) ≡ has_text name gs → option_map_or (λ r. explicit_source r.source) (cond b (Some (row g)) (find (λ r. bytes_eq r.id name) (rows gs))) false ≡ (b || has_text name gs)
    go true more = refl
    go false more = more

first_of-rows : (name : Text) (seen : Pairs) → first_of name (rows seen) ≡ text_of name seen
first_of-rows name [] = refl
first_of-rows name (g ∷ gs) = go (bytes_eq g.0 name) (first_of-rows name gs)
  where
    go : (b : Bool) → first_of name (rows gs) ≡ text_of name gs
        → option_and_then (λ (r : Row). slice_get r.values 0) (cond b (Some (row g)) (find (λ r. bytes_eq r.id name) (rows gs))) ≡ option_map (λ (x : Text × Text). x.1) (cond b (Some g) (find (λ x. bytes_eq x.0 name) gs))
    go true more = refl
    go false more = more

any_missing : (places : List Text) (seen : Pairs) → list_any (λ p. not (is_given p (rows seen))) places ≡ not (list_all (λ p. has_text p seen) places)
any_missing [] seen = refl
any_missing (p ∷ ps) seen = (λ i. not (is_given-rows p seen i) || any_missing ps seen i) ∙ go (has_text p seen) (list_all (λ q. has_text q seen) ps)
  where
    go : (a b : Bool) → (not a || not b) ≡ not (a && b)
    go true b = refl
    go false b = refl

with_default-none : (rs : List Row) (a : Rule) → is_empty a.defaults ≡ true → with_default rs a ≡ rs
with_default-none rs a none = (λ i. cond (has_row a.id rs) rs (default_rows a.id (reading_by a) (is_nil a.defaults none i) rs)) ∙ go (has_row a.id rs)
  where
    go : (b : Bool) → cond b rs rs ≡ rs
    go true = refl
    go false = refl

default_fault-none : (rs : List Row) (a : Rule) → is_empty a.defaults ≡ true → default_fault rs a ≡ []
default_fault-none rs a none = (λ i. cond (has_row a.id rs || none i) [] (given_default_fault a a.defaults)) ∙ go (has_row a.id rs)
  where
    go : (b : Bool) → cond (b || true) [] (given_default_fault a a.defaults) ≡ []
    go true = refl
    go false = refl

defaults_none : (c : List Rule) (rs : List Row) → list_all (λ a. is_empty a.defaults) c ≡ true → defaults_fault rs c ≡ []
unfolding defaults_fault
defaults_none [] rs all = refl
defaults_none (a ∷ c) rs all =
    let p : (is_empty a.defaults ≡ true) × (list_all (λ x. is_empty x.defaults) c ≡ true) = both _ _ all in
    (λ i. or_else (default_fault-none rs a p.0 i) (defaults_fault (with_default-none rs a p.0 i) c)) ∙ defaults_none c rs p.1

fold_none : (c : List Rule) (rs : List Row) → list_all (λ a. is_empty a.defaults) c ≡ true → fold with_default rs c ≡ rs
fold_none [] rs all = refl
fold_none (a ∷ c) rs all =
    let p : (is_empty a.defaults ≡ true) × (list_all (λ x. is_empty x.defaults) c ≡ true) = both _ _ all in
    ap (λ l. fold with_default l c) (with_default-none rs a p.0) ∙ fold_none c rs p.1

-- the bytes behind a first dash begin with a character
abbrev Spelled : Text → Type 0
Spelled word = (flags : Text) → short_of word ≡ Some flags → is_some (slice_get (chars flags) 0) ≡ true

abbrev AllSpelled : List Text → Type 0
AllSpelled [] = Unit {0}
AllSpelled (word ∷ rest) = Spelled word × AllSpelled rest

split_empty : (a b : Kinds) → or_else a b ≡ [] → (a ≡ []) × (b ≡ [])
split_empty [] b e = (refl, e)
split_empty (k ∷ ks) b e =
    let more : is_empty (k ∷ ks) ≡ false = grind arith in
    absurd (true≢false (sym (ap is_empty e) ∙ more))

if_none : (ks : Kinds) (x : List Row) → if_empty ks (Some x) ≡ None → is_empty ks ≡ false
if_none [] x e = absurd (true≢false (ap is_some e))
if_none (k ∷ ks) x e = grind arith

if_some : (ks : Kinds) (x y : List Row) → if_empty ks (Some x) ≡ Some y → (ks ≡ []) × (x ≡ y)
if_some [] x y e = (refl, ap (λ o. unwrap_or o x) e)
if_some (k ∷ ks) x y e = absurd (true≢false (sym (ap is_some e)))

either_fails : (a b r : Kinds) → is_empty (or_else a b) ≡ false → is_empty (or_else a (or_else b r)) ≡ false
either_fails [] b r e = nonempty_first b r e
either_fails (k ∷ ks) b r e = grind arith

-- ---- the walk of a command

module _ (name : Text) (c : List Rule) (options : List Text) (by_long : (n : Text) → arg_by_long c n ≡ long_found options n) (by_short : (x : ℕ) → arg_by_short c x ≡ short_found x) (ids : OptionsFound c options) where
  abbrev s : Shape
  s = record (new_shape name) { rules = c; is_built = true; disable_help_subcommand = true }

  abbrev at : Held → Waiting → ℕ → Bool → Walk
  at h waiting n t = record { held = h; waiting = waiting; position = n; is_trailing = t; stopped = None }

  -- the rows at the end of the words, where nothing is a fault
  abbrev end_of : Held → Option (List Row)
  end_of h = if_empty (settle_fault c false h) (Some (settled c h).rows)

  abbrev clap_end : Walk → List Text → Option (List Row)
  clap_end w [] = end_of w.held
  clap_end w (word ∷ rest) = if_empty (turn_fault s [] w word) (clap_end (walked c [] w word) rest)

  record Settles (h : Held) (seen : Pairs) : Type 0 where
    none_skipped : h.skip ≡ 0
    no_fault : settle_fault c false h ≡ []
    rows_are : (settled c h).rows ≡ rows seen

  abbrev Doomed : Held → Type 0
  Doomed h = is_empty (settle_fault c false h) ≡ false

  -- one text that is held for a name
  abbrev held : Text → Text → List Row → ℕ → Held
  held id text rs k = record { rows = rs; pending = Some (id, text ∷ []); skip = k }

  held_fault : (a : Rule) (id text : Text) (seen : Pairs) (rs : List Row) (k : ℕ) → arg_by_id c id ≡ Some a → rs ≡ rows seen → use_fault false a (text ∷ []) rs ≡ conflict (has_row id rs)
      → settle_fault c false (held id text rs k) ≡ conflict (has_text id seen)
  held_fault a id text seen rs k found same fault =
      (λ i. option_map_or (λ x. use_fault false x (text ∷ []) rs) (found i) []) ∙ (fault ∙ ap conflict (ap (has_row id) same ∙ has_row-rows id seen))

  held_settles : (a : Rule) (id text : Text) (seen : Pairs) (rs : List Row) (k : ℕ) → k ≡ 0 → arg_by_id c id ≡ Some a → rs ≡ rows seen → use_fault false a (text ∷ []) rs ≡ conflict (has_row id rs)
      → (has_row id rs ≡ false → used a (text ∷ []) rs ≡ rs ++ row (id, text) ∷ []) → has_text id seen ≡ false → Settles (held id text rs k) (seen ++ (id, text) ∷ [])
  held_settles a id text seen rs k zero found same fault adds new =
      let absent : has_row id rs ≡ false = ap (has_row id) same ∙ (has_row-rows id seen ∙ new) in
      record {
        none_skipped = zero;
        no_fault = held_fault a id text seen rs k found same fault ∙ ap conflict new;
        rows_are = (λ i. used_by_id (found i) (text ∷ []) rs) ∙ (adds absent ∙ (ap (λ l. l ++ row (id, text) ∷ []) same ∙ sym (map-append seen ((id, text) ∷ []))));
      }

  held_doomed : (a : Rule) (id text : Text) (seen : Pairs) (rs : List Row) (k : ℕ) → arg_by_id c id ≡ Some a → rs ≡ rows seen → use_fault false a (text ∷ []) rs ≡ conflict (has_row id rs)
      → has_text id seen ≡ true → Doomed (held id text rs k)
  held_doomed a id text seen rs k found same fault old = ap is_empty (held_fault a id text seen rs k found same fault ∙ ap conflict old) ∙ refl

  -- ---- a word that goes to a place

  no_place : (n : ℕ) (h : Held) → arg_by_index c n ≡ None → step_fault s n h value ≡ kind.UnknownArgument ∷ []
  no_place n h none = λ i. option_map_or (λ a. positional_fault c false a h) (none i) (kind.UnknownArgument ∷ [])

  place_fault : (n : ℕ) (p : Text) (h : Held) → arg_by_index c n ≡ Some (the_place n p) → step_fault s n h value ≡ settle_fault c false h
  place_fault n p h found =
      (λ i. option_map_or (λ a. positional_fault c false a h) (found i) (kind.UnknownArgument ∷ [])) ∙ (λ i. cond (and-false (is_pending (the_place n p) h.pending) i) [] (settle_fault c false h))

  place_taken : (n : ℕ) (p word : Text) (h : Held) (waiting : Waiting) (t : Bool) → arg_by_index c n ≡ Some (the_place n p)
      → after_step c word (at h waiting n t) h value ≡ at (held p word (settled c h).rows h.skip) idle (next_position (the_place n p) n) (t || false)
  place_taken n p word h waiting t found =
      (λ i. to_positional c (found i) word (at h waiting n t) h) ∙ (λ i. at (pushed p word (cond (and-false (is_pending (the_place n p) h.pending) i) h (settled c h))) idle (next_position (the_place n p) n) (t || false))

  -- ---- behind `--`

  trail_doomed : (words : List Text) (h : Held) (waiting : Waiting) (left : List Text) (n : ℕ) → Doomed h → PlacesFrom c n left → clap_end (at h waiting n true) words ≡ None
  trail_doomed [] h waiting left n doomed places = stopped_there _ _ doomed
  trail_doomed (word ∷ rest) h waiting [] n doomed places = stopped_there _ _ (ap is_empty (no_place n h places) ∙ refl)
  trail_doomed (word ∷ rest) h waiting (p ∷ ps) n doomed places = stopped_there _ _ (ap is_empty (place_fault n p h places.0) ∙ doomed)

  -- a name that has a text already ends the reading, and any other goes on
  by_text : {X : Option (List Row)} (b : Bool) (id text : Text) (seen : Pairs) (f : Pairs → Option Pairs) → has_text id seen ≡ b → (has_text id seen ≡ true → X ≡ None)
      → (has_text id seen ≡ false → X ≡ option_map rows (f (seen ++ (id, text) ∷ []))) → X ≡ option_map rows (option_and_then f (cond b None (Some (seen ++ (id, text) ∷ []))))
  by_text true id text seen f e old new = old e
  by_text false id text seen f e old new = new e

  trail : (words : List Text) (h : Held) (waiting : Waiting) (left : List Text) (n : ℕ) (seen : Pairs) → Settles h seen → PlacesFrom c n left → clap_end (at h waiting n true) words ≡ option_map rows (places_read left words seen)
  unfolding places_read walked
  trail [] h waiting [] n seen settles places = went_on _ _ settles.no_fault ∙ ap (λ (l : List Row). Some l) settles.rows_are
  trail [] h waiting (p ∷ ps) n seen settles places = went_on _ _ settles.no_fault ∙ ap (λ (l : List Row). Some l) settles.rows_are
  trail (word ∷ rest) h waiting [] n seen settles places = stopped_there _ _ (ap is_empty (no_place n h places) ∙ refl)
  trail (word ∷ rest) h waiting (p ∷ ps) n seen settles places =
      let after : Held = held p word (settled c h).rows h.skip in
      let m : ℕ = next_position (the_place n p) n in
      let turn : turn_fault s [] (at h waiting n true) word ≡ [] = place_fault n p h places.0 ∙ settles.no_fault in
      let uses : use_fault false (the_place n p) (word ∷ []) (settled c h).rows ≡ conflict (has_row p (settled c h).rows) = use_place n p word (settled c h).rows in
      went_on _ _ turn ∙ (ap (λ w. clap_end w rest) (place_taken n p word h waiting true places.0)
      ∙ by_text (has_text p seen) p word seen (places_read ps rest) refl
      (λ old. trail_doomed rest after idle ps m (held_doomed (the_place n p) p word seen (settled c h).rows h.skip places.1 settles.rows_are uses old) places.2)
      (λ new. trail rest after idle ps m (seen ++ (p, word) ∷ [])
      (held_settles (the_place n p) p word seen (settled c h).rows h.skip settles.none_skipped places.1 settles.rows_are uses (used_place n p word (settled c h).rows) new) places.2))

  -- ---- a word where options may stand

  abbrev fault_by : Bool → Option (Text × Option Text) → Text → Held → Kinds
  fault_by b o word h = cond b [] (flag_word_fault c false o word h)

  abbrev met_by : Bool → Option (Text × Option Text) → Waiting → ℕ → Text → Held → Held × Step
  met_by b o waiting n word h = cond b (h, trailing n) (long_or_other c waiting word o h)

  fault_is : (b : Bool) (o : Option (Text × Option Text)) (waiting : Waiting) (word : Text) (h : Held) → bytes_eq word dashes ≡ b → long_of word ≡ o → word_fault s [] false waiting word h ≡ fault_by b o word h
  fault_is b o waiting word h e l = (λ i. other_fault s (no_subcommand waiting word i) word h) ∙ (λ i. fault_by (e i) (l i) word h)

  met_is : (b : Bool) (o : Option (Text × Option Text)) (waiting : Waiting) (n : ℕ) (word : Text) (h : Held) → bytes_eq word dashes ≡ b → long_of word ≡ o → word_met c [] false waiting n word h ≡ met_by b o waiting n word h
  met_is b o waiting n word h e l = (λ i. subcommand_or_other c (no_subcommand waiting word i) waiting n word h) ∙ (λ i. met_by (e i) (l i) waiting n word h)

  -- the turn of a word, by what it is
  turn_is : (b : Bool) (o : Option (Text × Option Text)) (waiting : Waiting) (n : ℕ) (word : Text) (h : Held) (f : Kinds) (m : Held × Step) → bytes_eq word dashes ≡ b → long_of word ≡ o → fault_by b o word h ≡ f → met_by b o waiting n word h ≡ m
      → turn_fault s [] (at h waiting n false) word ≡ or_else f (step_fault s n m.0 m.1)
  turn_is b o waiting n word h f m e l is_f is_m =
      λ i. or_else ((fault_is b o waiting word h e l ∙ is_f) i) (step_fault s n ((met_is b o waiting n word h e l ∙ is_m) i).0 ((met_is b o waiting n word h e l ∙ is_m) i).1)

  walk_is : (b : Bool) (o : Option (Text × Option Text)) (waiting : Waiting) (n : ℕ) (word : Text) (h : Held) (m : Held × Step) → bytes_eq word dashes ≡ b → long_of word ≡ o → met_by b o waiting n word h ≡ m
      → walked c [] (at h waiting n false) word ≡ after_step c word (at h waiting n false) m.0 m.1
  unfolding walked
  walk_is b o waiting n word h m e l is_m =
      λ i. after_step c word (at h waiting n false) ((met_is b o waiting n word h e l ∙ is_m) i).0 ((met_is b o waiting n word h e l ∙ is_m) i).1

  -- a word that is a fault by itself ends the reading
  word_stops : (b : Bool) (o : Option (Text × Option Text)) (waiting : Waiting) (n : ℕ) (word : Text) (h : Held) (rest : List Text) → bytes_eq word dashes ≡ b → long_of word ≡ o → is_empty (fault_by b o word h) ≡ false
      → clap_end (at h waiting n false) (word ∷ rest) ≡ None
  word_stops b o waiting n word h rest e l fails =
      stopped_there _ _ (ap is_empty (turn_is b o waiting n word h _ _ e l refl refl) ∙ nonempty_first _ _ fails)

  -- a word that is none goes on
  word_goes : (b : Bool) (o : Option (Text × Option Text)) (waiting : Waiting) (n : ℕ) (word : Text) (h : Held) (rest : List Text) (m : Held × Step) → bytes_eq word dashes ≡ b → long_of word ≡ o → fault_by b o word h ≡ [] → met_by b o waiting n word h ≡ m
      → step_fault s n m.0 m.1 ≡ [] → clap_end (at h waiting n false) (word ∷ rest) ≡ clap_end (after_step c word (at h waiting n false) m.0 m.1) rest
  word_goes b o waiting n word h rest m e l none is_m step =
      went_on _ _ (turn_is b o waiting n word h [] m e l none is_m ∙ step) ∙ ap (λ w. clap_end w rest) (walk_is b o waiting n word h m e l is_m)

  help_fails : (h : Held) → is_empty (react_fault c false help [] h) ≡ false
  help_fails h = nonempty_second (settle_fault c false h) _ refl

  -- a dash and more is a fault
  short_fails : (x : ℕ) (rest : Text) (h : Held) (more : Held → Kinds) → is_empty (short_fault c false (arg_by_short c x) rest h more) ≡ false
  short_fails x rest h more = (λ i. is_empty (short_fault c false (by_short x i) rest h more)) ∙ go (104 == x)
    where
      go : (b : Bool) → is_empty (short_fault c false (cond (b || false) (Some help) None) rest h more) ≡ false
      go true = nonempty_first (react_fault c false help [] h) _ (help_fails h)
      go false = refl

  bundle_fails : (flags : Text) (h : Held) → h.skip ≡ 0 → is_some (slice_get (chars flags) 0) ≡ true → is_empty (bundle_fault c false flags h) ≡ false
  unfolding flags_fault chars
  bundle_fails [] h none some = absurd (true≢false (sym some))
  bundle_fails (y ∷ ys) h none some =
      (λ i. is_empty (flags_fault c false (length (y ∷ ys)) (y ∷ ys) (none i) (record h { skip = 0 }))) ∙ go (slice_get (chars (y ∷ ys)) 0) some
    where
      go : (o : Option ℕ) → is_some o ≡ true → is_empty (bundle_step_fault c false o (y ∷ ys) 0 (record h { skip = 0 }) (flags_fault c false (length ys))) ≡ false
      go None e = absurd (true≢false (sym e))
      go (Some x) e = short_fails x _ _ _

  -- ---- an option

  long_known : (waiting : Waiting) (n : ℕ) (word nm v : Text) (h : Held) → arg_by_long c nm ≡ Some (the_option nm) → settle_fault c false h ≡ [] → (settled c h).rows ≡ (settled c h).rows
      → long_fault c false (arg_by_long c nm) (Some v) h ≡ conflict (has_row nm (settled c h).rows)
  long_known waiting n word nm v h found none same =
      (λ i. long_fault c false (found i) (Some v) h) ∙ ((λ i. or_else (none i) (use_fault false (the_option nm) (v ∷ []) (settled c h).rows)) ∙ use_option nm v (settled c h).rows)

  abbrev option_held : Text → Text → Held → Held
  option_held nm v h = record h { rows = used (the_option nm) (v ∷ []) (settled c h).rows; pending = None }

  met_known : (waiting : Waiting) (n : ℕ) (word nm v : Text) (h : Held) → arg_by_long c nm ≡ Some (the_option nm) → met_by false (Some (nm, Some v)) waiting n word h ≡ (option_held nm v h, next idle)
  met_known waiting n word nm v h found = λ i. after_flag c waiting word (long_met c (found i) (Some v) h).0 (long_met c (found i) (Some v) h).1

  met_waits : (waiting : Waiting) (n : ℕ) (word nm : Text) (h : Held) → arg_by_long c nm ≡ Some (the_option nm) → met_by false (Some (nm, None)) waiting n word h ≡ (record (settled c h) { pending = Some (nm, []) }, next (option nm))
  met_waits waiting n word nm h found = λ i. after_flag c waiting word (long_met c (found i) None h).0 (long_met c (found i) None h).1

  long_stops : (nm : Text) (v : Option Text) (h : Held) → arg_by_long c nm ≡ None → is_empty (long_fault c false (arg_by_long c nm) v h) ≡ false
  long_stops nm v h found = (λ i. is_empty (long_fault c false (found i) v h)) ∙ refl

  long_helps : (nm : Text) (v : Option Text) (h : Held) → arg_by_long c nm ≡ Some help → is_empty (long_fault c false (arg_by_long c nm) v h) ≡ false
  long_helps nm None h found = (λ i. is_empty (long_fault c false (found i) None h)) ∙ help_fails h
  long_helps nm (Some v) h found = (λ i. is_empty (long_fault c false (found i) (Some v) h)) ∙ refl

  -- where what is held is a fault, a long name is one
  long_doomed : (nm : Text) (v : Option Text) (h : Held) → Doomed h → is_empty (long_fault c false (arg_by_long c nm) v h) ≡ false
  long_doomed nm v h doomed = go (long_found options nm) (is_option options nm) (long_is options nm) (by_long nm) v
    where
      go : (r : Option Rule) (b : Bool) → Long nm r b → arg_by_long c nm ≡ r → (v : Option Text) → is_empty (long_fault c false (arg_by_long c nm) v h) ≡ false
      go _ _ unknown found v = long_stops nm v h found
      go _ _ helps found v = long_helps nm v h found
      go _ _ known found None = (λ i. is_empty (long_fault c false (found i) None h)) ∙ doomed
      go _ _ known found (Some v) = (λ i. is_empty (long_fault c false (found i) (Some v) h)) ∙ nonempty_first (settle_fault c false h) _ doomed

  -- ---- where what is held is a fault

  short_fault_is : (p : Option Text) (word : Text) (h : Held) → short_of word ≡ p → fault_by false None word h ≡ option_map_or (λ flags. bundle_fault c false flags h) p []
  short_fault_is p word h q = λ i. option_map_or (λ flags. bundle_fault c false flags h) (q i) []

  short_met_is : (p : Option Text) (waiting : Waiting) (n : ℕ) (word : Text) (h : Held) → short_of word ≡ p → met_by false None waiting n word h ≡ short_or_plain c waiting word p h
  short_met_is p waiting n word h q = λ i. short_or_plain c waiting word (q i) h

  short_stops : (waiting : Waiting) (n : ℕ) (word flags : Text) (h : Held) (rest : List Text) → bytes_eq word dashes ≡ false → long_of word ≡ None → short_of word ≡ Some flags → h.skip ≡ 0 → Spelled word
      → clap_end (at h waiting n false) (word ∷ rest) ≡ None
  short_stops waiting n word flags h rest e l q none spelled =
      word_stops false None waiting n word h rest e l (ap is_empty (short_fault_is (Some flags) word h q) ∙ bundle_fails flags h none (spelled flags q))

  dashes_doomed : (o : Option (Text × Option Text)) (waiting : Waiting) (n : ℕ) (left : List Text) (word : Text) (h : Held) (rest : List Text) → bytes_eq word dashes ≡ true → long_of word ≡ o → Doomed h → PlacesFrom c n left
      → clap_end (at h waiting n false) (word ∷ rest) ≡ None
  dashes_doomed o waiting n left word h rest e l doomed places =
      word_goes true o waiting n word h rest (h, trailing n) e l refl refl refl ∙ trail_doomed rest h waiting left n doomed places

  place_doomed : (left : List Text) (n : ℕ) (h : Held) → Doomed h → PlacesFrom c n left → is_empty (step_fault s n h value) ≡ false
  place_doomed [] n h doomed places = ap is_empty (no_place n h places) ∙ refl
  place_doomed (p ∷ ps) n h doomed places = ap is_empty (place_fault n p h places.0) ∙ doomed

  doomed_ends : (words : List Text) (h : Held) (left : List Text) (n : ℕ) → AllSpelled words → Doomed h → h.skip ≡ 0 → PlacesFrom c n left → clap_end (at h idle n false) words ≡ None
  doomed_ends [] h left n spelled doomed none places = stopped_there _ _ doomed
  doomed_ends (word ∷ rest) h left n spelled doomed none places = go (bytes_eq word dashes) (long_of word) (short_of word) refl refl refl
    where
      go : (b : Bool) (o : Option (Text × Option Text)) (p : Option Text) → bytes_eq word dashes ≡ b → long_of word ≡ o → short_of word ≡ p → clap_end (at h idle n false) (word ∷ rest) ≡ None
      go true o p e l q = dashes_doomed o idle n left word h rest e l doomed places
      go false (Some r) p e l q = word_stops false (Some r) idle n word h rest e l (long_doomed r.0 r.1 h doomed)
      go false None (Some flags) e l q = short_stops idle n word flags h rest e l q none spelled.0
      go false None None e l q =
          stopped_there _ _ (ap is_empty (turn_is false None idle n word h [] (h, value) e l (short_fault_is None word h q) (short_met_is None idle n word h q)) ∙ place_doomed left n h doomed places)

  -- ---- what the grammar says is what the walk does

  abbrev Idle : List Text → Type 0
  Idle words = (h : Held) (left : List Text) (n : ℕ) (seen : Pairs) → Settles h seen → PlacesFrom c n left → clap_end (at h idle n false) words ≡ option_map rows (words_read options left None words seen)

  abbrev waiting_held : Text → List Row → ℕ → Held
  waiting_held nm rs k = record { rows = rs; pending = Some (nm, []); skip = k }

  abbrev Waits : List Text → Type 0
  Waits words = (nm : Text) (left : List Text) (n : ℕ) (seen : Pairs) (rs : List Row) (k : ℕ) → k ≡ 0 → rs ≡ rows seen → is_option options nm ≡ true → PlacesFrom c n left
      → clap_end (at (waiting_held nm rs k) (option nm) n false) words ≡ option_map rows (words_read options left (Some nm) words seen)

  abbrev by_option : Bool → Text → Option Text → Pairs → (Option Text → Pairs → Option Pairs) → Option Pairs
  by_option b nm (Some v) seen more = cond b (option_and_then (more None) (give nm v seen)) None
  by_option b nm None seen more = cond b (more (Some nm) seen) None

  long_step : (word : Text) (rest : List Text) (h : Held) (left : List Text) (n : ℕ) (seen : Pairs) → Idle rest → Waits rest → Settles h seen → PlacesFrom c n left → bytes_eq word dashes ≡ false
      → (nm : Text) (r : Option Rule) (b : Bool) → Long nm r b → arg_by_long c nm ≡ r → is_option options nm ≡ b → (v : Option Text) → long_of word ≡ Some (nm, v)
      → clap_end (at h idle n false) (word ∷ rest) ≡ option_map rows (by_option b nm v seen (λ waiting now. words_read options left waiting rest now))
  long_step word rest h left n seen i w st places e nm _ _ unknown found is None l = word_stops false (Some (nm, None)) idle n word h rest e l (long_stops nm None h found)
  long_step word rest h left n seen i w st places e nm _ _ unknown found is (Some v) l = word_stops false (Some (nm, Some v)) idle n word h rest e l (long_stops nm (Some v) h found)
  long_step word rest h left n seen i w st places e nm _ _ helps found is None l = word_stops false (Some (nm, None)) idle n word h rest e l (long_helps nm None h found)
  long_step word rest h left n seen i w st places e nm _ _ helps found is (Some v) l = word_stops false (Some (nm, Some v)) idle n word h rest e l (long_helps nm (Some v) h found)
  long_step word rest h left n seen i w st places e nm _ _ known found is None l =
      word_goes false (Some (nm, None)) idle n word h rest (waiting_held nm (settled c h).rows h.skip, next (option nm)) e l ((λ j. long_fault c false (found j) None h) ∙ st.no_fault) (met_waits idle n word nm h found) refl
      ∙ w nm left n seen (settled c h).rows h.skip st.none_skipped st.rows_are is places
  long_step word rest h left n seen i w st places e nm _ _ known found is (Some v) l =
      let has : has_row nm (settled c h).rows ≡ has_text nm seen = ap (has_row nm) st.rows_are ∙ has_row-rows nm seen in
      let fault : long_fault c false (arg_by_long c nm) (Some v) h ≡ conflict (has_text nm seen) = long_known idle n word nm v h found st.no_fault refl ∙ ap conflict has in
      by_text (has_text nm seen) nm v seen (λ now. words_read options left None rest now) refl
      (λ old. word_stops false (Some (nm, Some v)) idle n word h rest e l (ap is_empty (fault ∙ ap conflict old) ∙ refl))
      (λ new. word_goes false (Some (nm, Some v)) idle n word h rest (option_held nm v h, next idle) e l (fault ∙ ap conflict new) (met_known idle n word nm v h found) refl
      ∙ i (option_held nm v h) left n (seen ++ (nm, v) ∷ []) (record {
        none_skipped = st.none_skipped;
        no_fault = refl;
        rows_are = used_option nm v (settled c h).rows (has ∙ new) ∙ (ap (λ x. x ++ row (nm, v) ∷ []) st.rows_are ∙ sym (map-append seen ((nm, v) ∷ [])));
      }) places)

  place_step : (word : Text) (rest : List Text) (h : Held) (left : List Text) (n : ℕ) (seen : Pairs) → Idle rest → AllSpelled rest → Settles h seen → PlacesFrom c n left → bytes_eq word dashes ≡ false → long_of word ≡ None → short_of word ≡ None
      → clap_end (at h idle n false) (word ∷ rest) ≡ option_map rows (place_read left word seen (λ more now. words_read options more None rest now))
  place_step word rest h [] n seen i spelled st places e l q =
      stopped_there _ _ (ap is_empty (turn_is false None idle n word h [] (h, value) e l (short_fault_is None word h q) (short_met_is None idle n word h q) ∙ no_place n h places) ∙ refl)
  place_step word rest h (p ∷ ps) n seen i spelled st places e l q =
      let after : Held = held p word (settled c h).rows h.skip in
      let m : ℕ = next_position (the_place n p) n in
      let uses : use_fault false (the_place n p) (word ∷ []) (settled c h).rows ≡ conflict (has_row p (settled c h).rows) = use_place n p word (settled c h).rows in
      word_goes false None idle n word h rest (h, value) e l (short_fault_is None word h q) (short_met_is None idle n word h q) (place_fault n p h places.0 ∙ st.no_fault)
      ∙ (ap (λ x. clap_end x rest) (place_taken n p word h idle false places.0)
      ∙ by_text (has_text p seen) p word seen (λ now. words_read options ps None rest now) refl
      (λ old. doomed_ends rest after ps m spelled (held_doomed (the_place n p) p word seen (settled c h).rows h.skip places.1 st.rows_are uses old) st.none_skipped places.2)
      (λ new. i after ps m (seen ++ (p, word) ∷ []) (held_settles (the_place n p) p word seen (settled c h).rows h.skip st.none_skipped places.1 st.rows_are uses (used_place n p word (settled c h).rows) new) places.2))

  idle_step : (word : Text) (rest : List Text) → Spelled word → AllSpelled rest → Idle rest → Waits rest → Idle (word ∷ rest)
  unfolding words_read
  idle_step word rest spelled more i w h left n seen st places = go (bytes_eq word dashes) (long_of word) (short_of word) refl refl refl
    where
      go : (b : Bool) (o : Option (Text × Option Text)) (p : Option Text) → bytes_eq word dashes ≡ b → long_of word ≡ o → short_of word ≡ p
          → clap_end (at h idle n false) (word ∷ rest) ≡ option_map rows (cond b (places_read left rest seen) (word_read options left word o p seen (λ more waiting now. words_read options more waiting rest now)))
      go true o p e l q = word_goes true o idle n word h rest (h, trailing n) e l refl refl refl ∙ trail rest h idle left n seen st places
      go false (Some (nm, Some v)) p e l q = long_step word rest h left n seen i w st places e nm (long_found options nm) (is_option options nm) (long_is options nm) (by_long nm) refl (Some v) l
      go false (Some (nm, None)) p e l q = long_step word rest h left n seen i w st places e nm (long_found options nm) (is_option options nm) (long_is options nm) (by_long nm) refl None l
      go false None (Some flags) e l q = short_stops idle n word flags h rest e l q st.none_skipped spelled
      go false None None e l q = place_step word rest h left n seen i more st places e l q

  waiting_doomed : (nm : Text) (rs : List Row) (k : ℕ) → arg_by_id c nm ≡ Some (the_option nm) → Doomed (waiting_held nm rs k)
  waiting_doomed nm rs k found = (λ j. is_empty (option_map_or (λ a. use_fault false a [] rs) (found j) [])) ∙ refl

  same_text : (nm : Text) → bytes_eq nm nm ≡ true
  same_text nm = (bytes_eq-Decides nm nm).1 refl

  value_met : (nm word : Text) (n : ℕ) (rs : List Row) (k : ℕ) → arg_by_id c nm ≡ Some (the_option nm) → short_of word ≡ None
      → met_by false None (option nm) n word (waiting_held nm rs k) ≡ (held nm word rs k, next idle)
  value_met nm word n rs k found q =
      short_met_is None (option nm) n word (waiting_held nm rs k) q
      ∙ ((λ j. ((option_word (found j) nm word (waiting_held nm rs k)).0, next (option_word (found j) nm word (waiting_held nm rs k)).1))
      ∙ (λ j. (held nm word rs k, next (cond (nat_lt (cond (same_text nm j) 1 0) 1) (option nm) idle))))

  waits_step : (word : Text) (rest : List Text) → Spelled word → AllSpelled rest → Idle rest → Waits (word ∷ rest)
  unfolding words_read
  waits_step word rest spelled more i nm left n seen rs k zero same is places = go (bytes_eq word dashes) (long_of word) (short_of word) refl refl refl
    where
      h : Held
      h = waiting_held nm rs k

      found : arg_by_id c nm ≡ Some (the_option nm)
      found = found_by_id c options nm ids is

      go : (b : Bool) (o : Option (Text × Option Text)) (p : Option Text) → bytes_eq word dashes ≡ b → long_of word ≡ o → short_of word ≡ p
          → clap_end (at (waiting_held nm rs k) (option nm) n false) (word ∷ rest) ≡ option_map rows (cond b None (value_read nm word o p seen (λ now. words_read options left None rest now)))
      go true o p e l q = dashes_doomed o (option nm) n left word (waiting_held nm rs k) rest e l (waiting_doomed nm rs k found) places
      go false (Some r) p e l q = word_stops false (Some r) (option nm) n word (waiting_held nm rs k) rest e l (long_doomed r.0 r.1 (waiting_held nm rs k) (waiting_doomed nm rs k found))
      go false None (Some flags) e l q = short_stops (option nm) n word flags (waiting_held nm rs k) rest e l q zero spelled
      go false None None e l q =
          let uses : use_fault false (the_option nm) (word ∷ []) rs ≡ conflict (has_row nm rs) = use_option nm word rs in
          word_goes false None (option nm) n word (waiting_held nm rs k) rest (held nm word rs k, next idle) e l (short_fault_is None word (waiting_held nm rs k) q) (value_met nm word n rs k found q) refl
          ∙ by_text (has_text nm seen) nm word seen (λ now. words_read options left None rest now) refl
          (λ old. doomed_ends rest (held nm word rs k) left n more (held_doomed (the_option nm) nm word seen rs k found same uses old) zero places)
          (λ new. i (held nm word rs k) left n (seen ++ (nm, word) ∷ []) (held_settles (the_option nm) nm word seen rs k zero found same uses (used_option nm word rs) new) places)

  simulated : (words : List Text) → AllSpelled words → Idle words × Waits words
  unfolding words_read
  simulated [] spelled = (
    λ h left n seen st places. went_on _ _ st.no_fault ∙ ap (λ (l : List Row). Some l) st.rows_are,
    λ nm left n seen rs k zero same is places. stopped_there _ _ (waiting_doomed nm rs k (found_by_id c options nm ids is)),
  )
  simulated (word ∷ rest) spelled =
      let more : Idle rest × Waits rest = simulated rest spelled.1 in
      (idle_step word rest spelled.0 spelled.1 more.0 more.1, waits_step word rest spelled.0 spelled.1 more.0)

  -- ---- the whole of a parse

  clap_end_is : (words : List Text) (w : Walk) → clap_end w words ≡ if_empty (or_else (walk_fault s [] w words) (settle_fault c false (fold (walked c []) w words).held)) (Some (settled c (fold (walked c []) w words).held).rows)
  unfolding walk_fault
  clap_end_is [] w = refl
  clap_end_is (word ∷ rest) w = go (turn_fault s [] w word) (clap_end_is rest (walked c [] w word))
    where
      go : (ks : Kinds) → clap_end (walked c [] w word) rest ≡ if_empty (or_else (walk_fault s [] (walked c [] w word) rest) (settle_fault c false (fold (walked c []) w (word ∷ rest)).held)) (Some (settled c (fold (walked c []) w (word ∷ rest)).held).rows)
          → if_empty ks (clap_end (walked c [] w word) rest)
          ≡ if_empty (or_else (or_else ks (walk_fault s [] (walked c [] w word) rest)) (settle_fault c false (fold (walked c []) w (word ∷ rest)).held)) (Some (settled c (fold (walked c []) w (word ∷ rest)).held).rows)
      go [] more = more
      go (k ∷ ks) more = refl

  module _ (places : List Text) (start : PlacesFrom c 1 places) (none_given : list_all (λ a. is_empty a.defaults) c ≡ true)
      (missing : (rs : List Row) → list_any (λ a. a.required && not (is_given a.id rs)) c ≡ list_any (λ p. not (is_given p rs)) places) where
    abbrev end : List Text → Held
    end words = (walk c [] nothing_held words).held

    abbrev total : List Text → Kinds
    total words = level_fault s [] nothing_held words false []

    read_end : (words : List Text) → AllSpelled words
        → if_empty (or_else (walk_fault s [] (walk_from nothing_held) words) (settle_fault c false (end words))) (Some (settled c (end words)).rows) ≡ option_map rows (words_read options places None words [])
    read_end words spelled =
        sym (clap_end_is words (walk_from nothing_held)) ∙ (simulated words spelled).0 nothing_held places 1 [] (record { none_skipped = refl; no_fault = refl; rows_are = refl }) start

    rest_of : List Text → Kinds
    rest_of words = or_else (defaults_fault (settled c (end words)).rows c) (check_fault s (finished c (end words)) false)

    missing_kinds : Bool → Kinds
    missing_kinds b = cond b (kind.MissingRequiredArgument ∷ []) []

    rest_is : (words : List Text) (seen : Pairs) → (settled c (end words)).rows ≡ rows seen → rest_of words ≡ missing_kinds (not (list_all (λ p. has_text p seen) places))
    unfolding rest_of missing_kinds
    rest_is words seen same =
        (λ i. or_else (defaults_none c (settled c (end words)).rows none_given i) (check_fault s (fold_none c (settled c (end words)).rows none_given i) false))
        ∙ ((λ i. missing_kinds (missing (same i) i)) ∙ ap missing_kinds (any_missing places seen))

    abbrev LevelReads : List Text → Option Pairs → Type 0
    LevelReads words o = MatchOption o (is_empty (total words) ≡ false) (λ seen. (is_empty (total words) ≡ true) × (finished c (end words) ≡ rows seen))

    level_reads : (words : List Text) → AllSpelled words → LevelReads words (all_placed places (words_read options places None words []))
    unfolding rest_of missing_kinds
    level_reads words spelled = go (words_read options places None words []) (read_end words spelled)
      where
        placed : (b : Bool) (seen : Pairs) → list_all (λ p. has_text p seen) places ≡ b → total words ≡ missing_kinds (not (list_all (λ p. has_text p seen) places)) → finished c (end words) ≡ rows seen → LevelReads words (cond b (Some seen) None)
        placed true seen all is same = (ap is_empty (is ∙ ap (λ x. missing_kinds (not x)) all) ∙ refl, same)
        placed false seen all is same = ap is_empty (is ∙ ap (λ x. missing_kinds (not x)) all) ∙ refl

        go : (o : Option Pairs) → if_empty (or_else (walk_fault s [] (walk_from nothing_held) words) (settle_fault c false (end words))) (Some (settled c (end words)).rows) ≡ option_map rows o → LevelReads words (all_placed places o)
        go None e = either_fails (walk_fault s [] (walk_from nothing_held) words) (settle_fault c false (end words)) (rest_of words) (if_none _ _ e)
        go (Some seen) e =
            let both_are : (or_else (walk_fault s [] (walk_from nothing_held) words) (settle_fault c false (end words)) ≡ []) × ((settled c (end words)).rows ≡ rows seen) = if_some _ _ _ e in
            let each : (walk_fault s [] (walk_from nothing_held) words ≡ []) × (settle_fault c false (end words) ≡ []) = split_empty _ _ both_are.0 in
            let is : total words ≡ missing_kinds (not (list_all (λ p. has_text p seen) places)) = (λ i. or_else (each.0 i) (or_else (each.1 i) (rest_of words))) ∙ rest_is words seen both_are.1 in
            placed (list_all (λ p. has_text p seen) places) seen refl is (fold_none c (settled c (end words)).rows none_given ∙ both_are.1)

-- ---- at the commands

lifted : (t : Shape) (words : List Text) (o : Option Pairs)
    → MatchOption o (is_empty (level_fault t [] nothing_held words false []) ≡ false) (λ seen. (is_empty (level_fault t [] nothing_held words false []) ≡ true) × (finished t.rules (walk t.rules [] nothing_held words).held ≡ rows seen))
    → MatchOption o (is_empty (built_fault (record { top = t; subs = [] }) nothing_held words) ≡ false)
    (λ seen. (is_empty (built_fault (record { top = t; subs = [] }) nothing_held words) ≡ true) × ((id : Text) → first_of id (rows_after t.rules [] words) ≡ text_of id seen))
lifted t words o reads = go o reads
  where
    same : (stop : Option (Text × List Text)) → level_fault t [] nothing_held words (is_some (entered (record { top = t; subs = [] }) stop)) (entered_fault (record { top = t; subs = [] }) stop) ≡ level_fault t [] nothing_held words false []
    same None = refl
    same (Some p) = refl

    go : (o : Option Pairs) → MatchOption o (is_empty (level_fault t [] nothing_held words false []) ≡ false) (λ seen. (is_empty (level_fault t [] nothing_held words false []) ≡ true) × (finished t.rules (walk t.rules [] nothing_held words).held ≡ rows seen))
        → MatchOption o (is_empty (built_fault (record { top = t; subs = [] }) nothing_held words) ≡ false)
        (λ seen. (is_empty (built_fault (record { top = t; subs = [] }) nothing_held words) ≡ true) × ((id : Text) → first_of id (rows_after t.rules [] words) ≡ text_of id seen))
    go None fails = ap is_empty (same (walk t.rules [] nothing_held words).stopped) ∙ fails
    go (Some seen) reads = (ap is_empty (same (walk t.rules [] nothing_held words).stopped) ∙ reads.0, λ id. ap (first_of id) reads.1 ∙ first_of-rows id seen)

-- the grammar gives what `clap` gives; the first word is the command's name
abbrev pub ReadsAs : Form → List Text → Type 0
ReadsAs f words = MatchOption (texts_given f (drop 1 words)) (takes_words f words ≡ false) (λ seen. (takes_words f words ≡ true) × ((id : Text) → given f words id ≡ text_of id seen))

pub validate_reads : (cmd : Text) (words : List Text) → AllSpelled words → ReadsAs validate_form (cmd ∷ words)
unfolding takes_words given
validate_reads cmd words spelled =
    lifted (built (app_of_form validate_form)).top words (texts_given validate_form words)
    (level_reads (codes "validate") (built (app_of_form validate_form)).top.rules validate_form.options (λ n. refl) (λ x. refl) (refl, (refl, tt)) validate_form.places (refl, refl, (refl, refl, (refl, refl, refl))) refl (λ rs. refl) words spelled)

pub schedule_reads : (cmd : Text) (words : List Text) → AllSpelled words → ReadsAs schedule_form (cmd ∷ words)
unfolding takes_words given
schedule_reads cmd words spelled =
    lifted (built (app_of_form schedule_form)).top words (texts_given schedule_form words)
    (level_reads (codes "schedule") (built (app_of_form schedule_form)).top.rules schedule_form.options (λ n. refl) (λ x. refl) (refl, (refl, (refl, (refl, tt)))) schedule_form.places (refl, refl, (refl, refl, (refl, refl, refl))) refl (λ rs. refl) words spelled)

-- ---- words are text

spelled : (bs : Text) → IsUtf8 bs → Spelled bs
spelled [] u flags q = absurd (true≢false (sym (ap is_some q)))
spelled (b ∷ []) u flags q = go (b == 45) q
  where
    go : (t : Bool) → option_and_then short_of_rest (cond t (Some []) None) ≡ Some flags → is_some (slice_get (chars flags) 0) ≡ true
    go true e = absurd (true≢false (sym (ap is_some e)))
    go false e = absurd (true≢false (sym (ap is_some e)))
spelled (b ∷ x ∷ xs) u flags q = go (b == 45) refl q
  where
    some : (cs : List ℕ) → encode_utf8_all cs ≡ x ∷ xs → is_some (slice_get cs 0) ≡ true
    some [] e = let n : 0 ≡ length (x ∷ xs) = ap length e in absurd (omega (arith, n))
    some (y ∷ ys) e = refl

    rest : (b == 45) ≡ true → IsUtf8 (x ∷ xs)
    rest dash =
        let is : b ≡ 45 = (unsigned_Decides b 45).0 dash in
        IsUtf8-drop (b ∷ x ∷ xs) 1 u (IsCharBoundary-after_ascii (b ∷ x ∷ xs) 0 u (omega arith) (omega (arith, is)))

    last : (t : Bool) → (b == 45) ≡ true → cond t None (Some (x ∷ xs)) ≡ Some flags → is_some (slice_get (chars flags) 0) ≡ true
    last true dash e = absurd (true≢false (sym (ap is_some e)))
    last false dash e = subst (λ f. is_some (slice_get (chars f) 0) ≡ true) (ap (λ o. unwrap_or o flags) e) (some (chars (x ∷ xs)) (encodes-chars (x ∷ xs) (rest dash)))

    go : (t : Bool) → (b == 45) ≡ t → option_and_then short_of_rest (cond t (Some (x ∷ xs)) None) ≡ Some flags → is_some (slice_get (chars flags) 0) ≡ true
    go true dash e = last (x == 45) dash e
    go false dash e = absurd (true≢false (sym (ap is_some e)))

spelled_texts : (words : List (String Global)) → AllSpelled (texts words)
spelled_texts [] = tt
spelled_texts (word ∷ rest) = (spelled (string_bytes word) (IsUtf8-string_bytes word), spelled_texts rest)

pub validate_words : (words : List (String Global)) → begins_with (codes "validate") (texts words) ≡ true → ReadsAs validate_form (texts words)
validate_words [] named = absurd (true≢false (sym named))
validate_words (word ∷ rest) named = validate_reads (string_bytes word) (texts rest) (spelled_texts rest)

pub schedule_words : (words : List (String Global)) → begins_with (codes "schedule") (texts words) ≡ true → ReadsAs schedule_form (texts words)
schedule_words [] named = absurd (true≢false (sym named))
schedule_words (word ∷ rest) named = schedule_reads (string_bytes word) (texts rest) (spelled_texts rest)
