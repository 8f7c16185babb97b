-- The parts of declarations and actions are no more than the words and lists that they were read from.
use Rattle.std.proofs.Common.{◌≡◌, refl, sym, ap, subst, ◌∙◌, ℕ, suc, ◌+◌, ◌*◌, ◌≤◌, Bool, true, false, List, [], ◌∷◌, map, length, Option, Some, None, if◌then◌else◌, arith}
use Rattle.std.specs.List.{AllByRecursion as Each, flat_map}
use Rattle.std.specs.Char.{to_ascii_lowercase}
use Rattle.std.proofs.lemmas.List.{length-append, length-map}
use lib.Chars.{codes}
use Rattle.basics.proofs.Lists.{each_append}
use Rattle.pddl_terms.specs.declared.domain_heads.DomainHead.{DomainHead}
use Rattle.pddl_terms.specs.declared.domain_heads.DomainHead.TheVariants as head
use Rattle.pddl_terms.specs.declared.domain_heads.EffHead.{EffHead}
use Rattle.pddl_terms.specs.declared.domain_heads.EffHead.TheVariants as eff_heads
use Rattle.pddl_terms.specs.declared.domain_heads.TimedEffHead.{TimedEffHead}
use Rattle.pddl_terms.specs.declared.domain_heads.TimedEffHead.TheVariants as timed_heads
use Rattle.pddl_terms.specs.declared.files.Domain.{Domain}
use Rattle.pddl_terms.specs.declared.files.Problem.{Problem}
use Rattle.pddl_terms.specs.declared.grammar.ActionSort.{ActionSort}
use Rattle.pddl_terms.specs.declared.grammar.ActionSort.TheVariants.{Instant, Durative}
use Rattle.pddl_terms.specs.declared.grammar.Listed.TheVariants.{Variables}
use Rattle.pddl_terms.specs.declared.heads.DurHead.{DurHead}
use Rattle.pddl_terms.specs.declared.heads.DurHead.TheVariants as dur_heads
use Rattle.pddl_terms.specs.declared.trees.Atom.{Atom}
use Rattle.pddl_terms.specs.declared.trees.Call.{Call}
use Rattle.pddl_terms.specs.declared.trees.Call.TheVariants as call
use Rattle.pddl_terms.specs.declared.trees.DurTree.{DurTree}
use Rattle.pddl_terms.specs.declared.trees.DurTree.TheVariants as dur
use Rattle.pddl_terms.specs.declared.trees.EffTree.{EffTree}
use Rattle.pddl_terms.specs.declared.trees.EffTree.TheVariants as eff
use Rattle.pddl_terms.specs.declared.trees.Group.{Group}
use Rattle.pddl_terms.specs.declared.trees.TimedEff.{TimedEff}
use Rattle.pddl_terms.specs.declared.trees.TimedEff.TheVariants as timed
use Rattle.pddl_terms.specs.Content.{Lexeme, Content, End, Word, Inner, behind, content_at}
use Rattle.pddl_terms.specs.Files.{lexed}
use Rattle.pddl_terms.specs.Words.{same_word, is_left_out}
use Rattle.pddl_terms.specs.Typed.{name_of, atom_of, groups}
use Rattle.pddl_terms.specs.Calls.{call_tree}
use Rattle.pddl_terms.specs.Expressions.{expr_tree}
use Rattle.pddl_terms.specs.Durations.{is_start, dur_head, tagged, dur_by, dur_list, durs, dur_behind, dur_tree}
use Rattle.pddl_terms.specs.Effects.{eff_head, timed_eff_head}
use Rattle.pddl_terms.specs.Domains.{domain_head}
use Rattle.pddl_terms.specs.Sections.{behind_word, section}
use Rattle.pddl_terms.specs.Shape.{word_ahead}
use Rattle.pddl_names.specs.Calls.{names_of}
use Rattle.pddl_names.specs.Declarations.{type_bytes, sorts_of, signature_of, signatures}
use Rattle.pddl_forms.proofs.Least.{concat-map, concat-map_at}
use Rattle.pddl_domain.specs.Actions.{effect_of, duration_of, timed_effect_of, action_body, action_tree, as_action, actions}
use Rattle.pddl_domain.specs.Domains.{declared_by, declared_list, declarations, declarations_of, domain_of, domain_tree}
use Rattle.pddl_domain.specs.Readings.{IsDomain}
use Rattle.pddl_domain.specs.Effects.{deleted_tree, eff_by, eff_list, effs, eff_tree}
use Rattle.pddl_domain.specs.Timed.{rate_tree, timed_eff_at, timed_eff_by, timed_eff_list, timed_effs, timed_eff_tree}
use Rattle.pddl_domain.proofs.Sizes.{size, size_of, text-size, behind-size, section-size, groups-size}
use Rattle.ground_world.specs.Changes.{staged, Deletes, Moves, Flows, atoms_in, effect_parts, timed_effect_parts, body_changes}
use Rattle.ground_world.specs.declared.changes.Stage.{Stage}
use Rattle.ground_world.specs.declared.changes.Stage.TheVariants.{AtStart, AtEnd}
use Rattle.ground_world.specs.Conditions.{duration_bounds, body_bounds}
use Rattle.ground_world.specs.World.{either}
use Rattle.ground_world.proofs.Walks as walk
use Rattle.accepted_files.specs.Laws.{IsActionWithin, IsSymbolWithin, PartsAreNoLonger}
use Rattle.pddl_problem.specs.Entries.{entries, entries_of}
use Rattle.pddl_problem.specs.Problems.{problem_of, problem_tree}
use Rattle.pddl_problem.specs.Readings.{IsProblem}
use Rattle.accepted_files.proofs.Spelling.{Spelt, SpeltIn, text-spelt, behind-spelt, section-spelt}

-- ---- the bounds of durations, each of which takes a list and its mark

abbrev Bounds : Bool → DurTree → ℕ
Bounds e t = length (duration_bounds e t)

abbrev AllBounds : Bool → List DurTree → ℕ
AllBounds e ts = length (flat_map (duration_bounds e) ts)

bounds-joined : (e : Bool) (t : DurTree) (ts : List DurTree) → AllBounds e (t ∷ ts) ≡ Bounds e t + AllBounds e ts
bounds-joined e t ts = length-append (duration_bounds e t) (flat_map (duration_bounds e) ts)

left_out-bounds : (e : Bool) (at n : ℕ) → Bounds e (dur.LeftOut at) * 2 ≤ n
left_out-bounds e at n = let none : Bounds e (dur.LeftOut at) ≡ 0 = ap length (walk.duration_bounds-LeftOut e at) in omega (arith, none)

module _ (at : ℕ) (parts : List DurTree) (body : DurTree) (x : Content) (others : (e : Bool) → AllBounds e parts * 2 ≤ size x) (inside : (e : Bool) → Bounds e body * 2 ≤ size x) where
  tagged-bounds : (start e : Bool) → Bounds e (tagged start at body) * 2 ≤ suc (suc (size x))
  tagged-bounds true e =
      let is : Bounds e (dur.AtStart at body) ≡ Bounds false body = ap length (walk.duration_bounds-AtStart e at body) in
      let few = inside false in omega (arith, is, few)
  tagged-bounds false e =
      let is : Bounds e (dur.AtEnd at body) ≡ Bounds true body = ap length (walk.duration_bounds-AtEnd e at body) in
      let few = inside true in omega (arith, is, few)

  head-bounds : (h : DurHead) (e : Bool) → Bounds e (dur_by h at parts body x) * 2 ≤ suc (suc (size x))
  head-bounds dur_heads.LeftOut e = left_out-bounds e at (suc (suc (size x)))
  head-bounds dur_heads.And e =
      let is : Bounds e (dur.And at parts) ≡ AllBounds e parts = ap length (walk.duration_bounds-And e at parts ∙ concat-map_at (λ c f. duration_bounds f c) e parts) in
      let few = others e in omega (arith, is, few)
  head-bounds dur_heads.At e = tagged-bounds (is_start x) e
  head-bounds (dur_heads.Bound c) e = let one : Bounds e (dur.Bound at c (expr_tree (behind x))) ≡ 1 = ap length (walk.duration_bounds-Bound e at c (expr_tree (behind x))) in omega (arith, one)
  head-bounds dur_heads.Unknown e = left_out-bounds e at (suc (suc (size x)))

mutual
  unfolding size dur_list durs dur_behind dur_tree

  list-bounds : (at : ℕ) (x : Content) (e : Bool) → Bounds e (dur_list at x) * 2 ≤ suc (size x)
  list-bounds at (End close) e = left_out-bounds e at 1
  list-bounds at (Word w more) e = head-bounds at (durs more) (dur_behind more) more (durs-bounds more) (behind-bounds more) (dur_head w.bytes) e
  list-bounds at (Inner place inner more) e = left_out-bounds e at (suc (suc (size inner + size more)))

  durs-bounds : (x : Content) (e : Bool) → AllBounds e (durs x) * 2 ≤ size x
  durs-bounds (End close) e = omega arith
  durs-bounds (Word w more) e = let rest = durs-bounds more e in omega (arith, rest)
  durs-bounds (Inner at inner more) e =
      let here = list-bounds at inner e in
      let rest = durs-bounds more e in
      let both = bounds-joined e (dur_list at inner) (durs more) in
      omega (arith, here, rest, both)

  behind-bounds : (x : Content) (e : Bool) → Bounds e (dur_behind x) * 2 ≤ size x
  behind-bounds (End close) e = left_out-bounds e 0 0
  behind-bounds (Word w more) e = let rest = tree-bounds more e in omega (arith, rest)
  behind-bounds (Inner at inner more) e = let rest = tree-bounds more e in omega (arith, rest)

  tree-bounds : (x : Content) (e : Bool) → Bounds e (dur_tree x) * 2 ≤ size x
  tree-bounds (Inner at inner more) e = let here = list-bounds at inner e in omega (arith, here)
  tree-bounds (End close) e = left_out-bounds e 0 0
  tree-bounds (Word w more) e = left_out-bounds e 0 (suc (size more))

-- ---- the changes of effects

abbrev Parts : EffTree → ℕ
Parts e = length (effect_parts e)

abbrev AllParts : List EffTree → ℕ
AllParts es = length (flat_map effect_parts es)

pub one-atom : {A : Type 0} (f : Atom → A) (c : Call) → length (map f (atoms_in c)) ≤ 1
one-atom f (call.Named a) = omega arith
one-atom f (call.LeftOut at) = omega arith

empty-parts : (at n : ℕ) → Parts (eff.Empty at) ≤ n
empty-parts at n = let none : Parts (eff.Empty at) ≡ 0 = ap length (walk.effect_parts-Empty at) in omega (arith, none)

head-parts : (h : EffHead) (at : ℕ) (w : Lexeme) (parts : List EffTree) (x : Content) → AllParts parts ≤ size x → Parts (eff_by h at w parts x) ≤ suc (suc (size x))
head-parts eff_heads.LeftOut at w parts x few = let none : Parts (eff.LeftOut at) ≡ 0 = ap length (walk.effect_parts-LeftOut at) in omega (arith, none)
head-parts eff_heads.And at w parts x few =
    let is : Parts (eff.And at parts) ≡ AllParts parts = ap length (walk.effect_parts-And at parts ∙ concat-map effect_parts parts) in
    omega (arith, is, few)
head-parts eff_heads.Not at w parts x few =
    let is : Parts (eff.Delete at (deleted_tree x)) ≡ length (map Deletes (atoms_in (deleted_tree x))) = ap length (walk.effect_parts-Delete at (deleted_tree x)) in
    let one = one-atom Deletes (deleted_tree x) in omega (arith, is, one)
head-parts (eff_heads.Change c) at w parts x few =
    let amount = expr_tree (behind x) in
    let is : Parts (eff.Change at c (call_tree x) amount) ≡ length (map (λ f. Moves c f amount) (atoms_in (call_tree x))) = ap length (walk.effect_parts-Change at c (call_tree x) amount) in
    let one = one-atom (λ f. Moves c f amount) (call_tree x) in omega (arith, is, one)
head-parts eff_heads.Named at w parts x few = let one : Parts (eff.Add (atom_of at w x)) ≡ 1 = ap length (walk.effect_parts-Add (atom_of at w x)) in omega (arith, one)

mutual
  unfolding size eff_list effs

  list-parts : (at : ℕ) (x : Content) → Parts (eff_list at x) ≤ suc (size x)
  list-parts at (End close) = empty-parts at 1
  list-parts at (Word w more) = head-parts (eff_head w.bytes) at w (effs more) more (effs-parts more)
  list-parts at (Inner place inner more) = empty-parts at (suc (suc (size inner + size more)))

  effs-parts : (x : Content) → AllParts (effs x) ≤ size x
  effs-parts (End close) = omega arith
  effs-parts (Word w more) = let rest = effs-parts more in omega (arith, rest)
  effs-parts (Inner at inner more) =
      let here = list-parts at inner in
      let rest = effs-parts more in
      let both = length-append (effect_parts (eff_list at inner)) (flat_map effect_parts (effs more)) in
      omega (arith, here, rest, both)

effect-parts : (x : Content) → Parts (eff_tree x) ≤ size x
unfolding size eff_tree
effect-parts (Inner at inner more) = let here = list-parts at inner in omega (arith, here)
effect-parts (End close) = empty-parts 0 0
effect-parts (Word w more) = empty-parts 0 (suc (size more))

-- ---- those of durative actions

abbrev TimedParts : TimedEff → ℕ
TimedParts e = length (timed_effect_parts e)

abbrev AllTimedParts : List TimedEff → ℕ
AllTimedParts es = length (flat_map timed_effect_parts es)

empty-timed : (at n : ℕ) → TimedParts (timed.Empty at) ≤ n
empty-timed at n = let none : TimedParts (timed.Empty at) ≡ 0 = ap length (walk.timed_effect_parts-Empty at) in omega (arith, none)

left_out-timed : (at n : ℕ) → TimedParts (timed.LeftOut at) ≤ n
left_out-timed at n = let none : TimedParts (timed.LeftOut at) ≡ 0 = ap length (walk.timed_effect_parts-LeftOut at) in omega (arith, none)

staged-many : {A : Type 0} (s : Stage) (xs : List A) → length (staged s xs) ≡ length xs
staged-many s xs = length-map xs (λ x. record { stage = s; part = x })

module _ (at : ℕ) (x : Content) where
  snap-parts : (start : Bool) → TimedParts (timed_eff_at start at (eff_tree (behind x))) ≤ size x
  snap-parts true =
      let is : TimedParts (timed.AtStart at (eff_tree (behind x))) ≡ length (staged AtStart (effect_parts (eff_tree (behind x)))) = ap length (walk.timed_effect_parts-AtStart at (eff_tree (behind x))) in
      let many = staged-many AtStart (effect_parts (eff_tree (behind x))) in
      let few = effect-parts (behind x) in
      let less = behind-size x in
      omega (arith, is, many, few, less)
  snap-parts false =
      let is : TimedParts (timed.AtEnd at (eff_tree (behind x))) ≡ length (staged AtEnd (effect_parts (eff_tree (behind x)))) = ap length (walk.timed_effect_parts-AtEnd at (eff_tree (behind x))) in
      let many = staged-many AtEnd (effect_parts (eff_tree (behind x))) in
      let few = effect-parts (behind x) in
      let less = behind-size x in
      omega (arith, is, many, few, less)

  timed_head-parts : (h : TimedEffHead) (parts : List TimedEff) → AllTimedParts parts ≤ size x → TimedParts (timed_eff_by h at parts x) ≤ suc (suc (size x))
  timed_head-parts timed_heads.LeftOut parts few = left_out-timed at (suc (suc (size x)))
  timed_head-parts timed_heads.And parts few =
      let is : TimedParts (timed.And at parts) ≡ AllTimedParts parts = ap length (walk.timed_effect_parts-And at parts ∙ concat-map timed_effect_parts parts) in
      omega (arith, is, few)
  timed_head-parts timed_heads.At parts few = let here = snap-parts (is_start x) in omega (arith, here)
  timed_head-parts (timed_heads.Rate t) parts few =
      let r = rate_tree (behind x) in
      let is : TimedParts (timed.Rate at t (call_tree x) r) ≡ length (staged AtStart (map (λ f. Flows t f r) (atoms_in (call_tree x)))) = ap length (walk.timed_effect_parts-Rate at t (call_tree x) r) in
      let many = staged-many AtStart (map (λ f. Flows t f r) (atoms_in (call_tree x))) in
      let one = one-atom (λ f. Flows t f r) (call_tree x) in
      omega (arith, is, many, one)
  timed_head-parts timed_heads.Unknown parts few = left_out-timed at (suc (suc (size x)))

mutual
  unfolding size timed_eff_list timed_effs

  timed_list-parts : (at : ℕ) (x : Content) → TimedParts (timed_eff_list at x) ≤ suc (size x)
  timed_list-parts at (End close) = empty-timed at 1
  timed_list-parts at (Word w more) = timed_head-parts at more (timed_eff_head w.bytes) (timed_effs more) (timed_effs-parts more)
  timed_list-parts at (Inner place inner more) = empty-timed at (suc (suc (size inner + size more)))

  timed_effs-parts : (x : Content) → AllTimedParts (timed_effs x) ≤ size x
  timed_effs-parts (End close) = omega arith
  timed_effs-parts (Word w more) = let rest = timed_effs-parts more in omega (arith, rest)
  timed_effs-parts (Inner at inner more) =
      let here = timed_list-parts at inner in
      let rest = timed_effs-parts more in
      let both = length-append (timed_effect_parts (timed_eff_list at inner)) (flat_map timed_effect_parts (timed_effs more)) in
      omega (arith, here, rest, both)

timed_effect-parts : (x : Content) → TimedParts (timed_eff_tree x) ≤ size x
unfolding size timed_eff_tree
timed_effect-parts (Inner at inner more) = let here = timed_list-parts at inner in omega (arith, here)
timed_effect-parts (End close) = empty-timed 0 0
timed_effect-parts (Word w more) = empty-timed 0 (suc (size more))

-- ---- actions

behind_word-size : (key : List ℕ) (x : Content) → size_of (behind_word key x) ≤ size x
unfolding size size_of behind_word
behind_word-size key (End close) = omega arith
behind_word-size key (Word w more) = by (same_word w.bytes key) (behind_word-size key more)
  where
    by : (b : Bool) → size_of (behind_word key more) ≤ size more → size_of (if b then Some more else behind_word key more) ≤ suc (size more)
    by true rest = omega arith
    by false rest = omega (arith, rest)
behind_word-size key (Inner at inner more) = let rest = behind_word-size key more in omega (arith, rest)

duration-bounds : (o : Option Content) → Bounds false (duration_of o) * 2 ≤ size_of o
unfolding size_of
duration-bounds None = left_out-bounds false 0 0
duration-bounds (Some x) = tree-bounds x false

effect-changes : (o : Option Content) → length (either [] (λ e. staged AtStart (effect_parts e)) (effect_of o)) ≤ size_of o
unfolding size_of
effect-changes None = omega arith
effect-changes (Some x) =
    let many = staged-many AtStart (effect_parts (eff_tree x)) in
    let few = effect-parts x in
    omega (arith, many, few)

timed_effect-changes : (o : Option Content) → length (either [] timed_effect_parts (timed_effect_of o)) ≤ size_of o
unfolding size_of
timed_effect-changes None = omega arith
timed_effect-changes (Some x) = timed_effect-parts x

body-bounds : (sort : ActionSort) (x : Content) → length (body_bounds (action_body sort x)) * 2 ≤ size x
body-bounds Instant x = omega arith
body-bounds Durative x =
    let few = duration-bounds (behind_word (codes ":duration") x) in
    let less = behind_word-size (codes ":duration") x in
    omega (arith, few, less)

body-changes : (sort : ActionSort) (x : Content) → length (body_changes (action_body sort x)) ≤ size x
body-changes Instant x =
    let few = effect-changes (behind_word (codes ":effect") x) in
    let less = behind_word-size (codes ":effect") x in
    omega (arith, few, less)
body-changes Durative x =
    let few = timed_effect-changes (behind_word (codes ":effect") x) in
    let less = behind_word-size (codes ":effect") x in
    omega (arith, few, less)

action-few : (n : ℕ) (h : DomainHead) (at : ℕ) (x : Content) → size x ≤ n → Each (IsActionWithin n) (as_action h at x)
unfolding action_tree
action-few n (head.Action sort) at x less =
    let bounds = body-bounds sort x in
    let changes = body-changes sort x in
    (record { bounds = omega (arith, bounds, less); changes = omega (arith, changes, less) }, tt)
action-few n h at x less = tt

actions-few : (n : ℕ) (x : Content) → size x ≤ n → Each (IsActionWithin n) (actions x)
unfolding size actions
actions-few n (End close) less = tt
actions-few n (Word w more) less = actions-few n more (omega (arith, less))
actions-few n (Inner at inner more) less = each_append (IsActionWithin n) (as_action (domain_head (word_ahead inner)) at (behind inner)) (actions more)
    (action-few n (domain_head (word_ahead inner)) at (behind inner) (let inside = behind-size inner in omega (arith, inside, less)))
    (actions-few n more (omega (arith, less)))

-- ---- declarations

pub sorts-many : (gs : List Group) → length (sorts_of gs) ≡ length (names_of gs)
sorts-many [] = refl
sorts-many (g ∷ gs) =
    let here = length-map g.names (λ n. type_bytes g.of) in
    let rest = sorts-many gs in
    let sorts = length-append (map (λ n. type_bytes g.of) g.names) (sorts_of gs) in
    let names = length-append g.names (names_of gs) in
    omega (arith, here, rest, sorts, names)

module _ (n : ℕ) where
  symbol-short : (at : ℕ) (x : Content) → Spelt n x → size x ≤ n → Each (IsSymbolWithin n) (signature_of (declared_list at x))
  unfolding Spelt size
  symbol-short at (End close) h less = tt
  symbol-short at (Word w more) h less = by (is_left_out w.bytes)
    where
      by : (b : Bool) → Each (IsSymbolWithin n) (signature_of (declared_by b at w more))
      by true = tt
      by false =
          let name : length (name_of w).bytes ≡ length w.bytes = length-map w.bytes to_ascii_lowercase in
          let within = h.0.within in
          let sorts = sorts-many (groups Variables [] more) in
          let names = groups-size Variables [] more in
          ((omega (arith, name, within), omega (arith, sorts, names, less)), tt)
  symbol-short at (Inner place inner more) h less = tt

  symbols-short : (x : Content) → Spelt n x → size x ≤ n → Each (IsSymbolWithin n) (signatures (declarations x))
  unfolding Spelt size declarations
  symbols-short (End close) h less = tt
  symbols-short (Word w more) h less = symbols-short more h.1 (omega (arith, less))
  symbols-short (Inner at inner more) h less = each_append (IsSymbolWithin n) (signature_of (declared_list at inner)) (signatures (declarations more))
      (symbol-short at inner h.0 (omega (arith, less))) (symbols-short more h.1 (omega (arith, less)))

  found-short : (o : Option Content) → SpeltIn n o → size_of o ≤ n → Each (IsSymbolWithin n) (signatures (declarations_of o))
  unfolding size_of
  found-short None h less = tt
  found-short (Some x) h less = symbols-short x h less

  section-short : (key : List ℕ) (x : Content) → Spelt n x → size x ≤ n → Each (IsSymbolWithin n) (signatures (declarations_of (section key x)))
  section-short key x h less = found-short (section key x) (section-spelt n key x h) (let inside = section-size key x in omega (arith, inside, less))

-- ---- entries of `:init`

entries-size : (x : Content) → length (entries x) ≤ size x
unfolding size entries
entries-size (End close) = omega arith
entries-size (Word w more) = let rest = entries-size more in omega (arith, rest)
entries-size (Inner at inner more) = let rest = entries-size more in omega (arith, rest)

found-entries : (o : Option Content) → length (entries_of o) ≤ size_of o
unfolding size_of
found-entries None = omega arith
found-entries (Some x) = entries-size x

section-entries : (n : ℕ) (x : Content) → size x ≤ n → length (problem_of x).init ≤ n
unfolding problem_of
section-entries n x less =
    let few = found-entries (section (codes ":init") x) in
    let inside = section-size (codes ":init") x in
    omega (arith, few, inside, less)

problem-entries : (n : ℕ) (x : Content) → size x ≤ n → length (problem_tree x).init ≤ n
unfolding size problem_tree
problem-entries n (Inner at inner more) less = section-entries n (behind inner) (let inside = behind-size inner in omega (arith, inside, less))
problem-entries n (End close) less = section-entries n (End close) less
problem-entries n (Word w more) less = section-entries n more (omega (arith, less))

-- ---- whole files

record DomainParts (d : Domain) (n : ℕ) : Type 0 where
  predicates : Each (IsSymbolWithin n) (signatures d.predicates)
  functions : Each (IsSymbolWithin n) (signatures d.functions)
  actions : Each (IsActionWithin n) d.actions

section-parts : (n : ℕ) (x : Content) → Spelt n x → size x ≤ n → DomainParts (domain_of x) n
unfolding domain_of
section-parts n x h less = record {
  predicates = section-short n (codes ":predicates") x h less;
  functions = section-short n (codes ":functions") x h less;
  actions = actions-few n x less;
}

domain-parts : (n : ℕ) (x : Content) → Spelt n x → size x ≤ n → DomainParts (domain_tree x) n
unfolding size Spelt domain_tree
domain-parts n (Inner at inner more) h less = section-parts n (behind inner) (behind-spelt n inner h.0) (let inside = behind-size inner in omega (arith, inside, less))
domain-parts n (End close) h less = section-parts n (End close) h less
domain-parts n (Word w more) h less = section-parts n more h.1 (omega (arith, less))

pub parts_no_longer : (domain problem : List ℕ) (d : Domain) (p : Problem) → IsDomain domain d → IsProblem d problem p → PartsAreNoLonger d p (length domain) (length problem)
parts_no_longer domain problem d p f g =
    let parts : DomainParts d (length domain) = subst (λ (t : Domain). DomainParts t (length domain)) (sym f.tree_is)
    (domain-parts (length domain) (content_at (lexed domain f.tokens) 0) (text-spelt domain f.tokens f.lexes) (text-size domain f.tokens f.lexes)) in
    record {
      predicates = parts.predicates;
      functions = parts.functions;
      actions = parts.actions;
      entries = subst (λ (t : Problem). length t.init ≤ length problem) (sym g.tree_is)
          (problem-entries (length problem) (content_at (lexed problem g.tokens) 0) (text-size problem g.tokens g.lexes));
    }
