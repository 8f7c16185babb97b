-- What is given by the matches is given by the words.
use Rattle.std.proofs.Common.{refl, ◌≡◌, Bool, true, false, List, [], ◌∷◌, Option, Some, None, codes, sym, ap, ◌∙◌, subst, MatchOption, IsTrue, true≢false}
use Rattle.std.specs.Prelude.{◌↔◌}
use Rattle.std.specs.Str.{bytes_eq}
use Rattle.std.proofs.lemmas.Slice.Eq.{bytes_eq-Decides}
use Rattle.std.specs.Prelude.{unwrap_or, drop, is_some}
use Rattle.command_words.specs.Grammar.{Text, Form, Pairs, text_of, texts_given}
use Rattle.command_words.proofs.Grammar.{ReadsAs}
use Rattle.rational.specs.Rational.{ℚ, zeroℚ, ◌<ℚ◌, ◌≤ℚ◌}
use Rattle.clap.specs.Words.{first_value, found_of}
use Rattle.clap.specs.declared.parser.matches.ArgMatches.{ArgMatches}
use Rattle.command_words.specs.Forms.{IsReadBy, given, takes_words}
use Rattle.command_words.specs.Requests.{Asked, AsksBy, Asks, SetsValidate, SetsSchedule, begins_with, validate_form, schedule_form, request_seen}
use Rattle.command_words.specs.Requests as asked
use Rattle.command_words.specs.declared.requests.Request.{Request}
use Rattle.command_words.specs.declared.requests.Request.TheVariants.{Validate, Schedule}

pub asked_by : (seen form : Form) (Sets : (Text → Option Text) → Asked → Type 0) (words : List Text) (read : Option ArgMatches) (m : ArgMatches) (o : Option Request)
    → ReadsAs form words → seen ≡ form → read ≡ Some m → IsReadBy seen words read → begins_with form.name words ≡ true
    → MatchOption o ((r : Asked) → ¬ (Sets (first_value (found_of m)) r)) (λ r. Sets (first_value (found_of m)) (request_seen r))
    → MatchOption o ((r : Asked) → ¬ (AsksBy form Sets words r)) (λ r. AsksBy form Sets words (request_seen r))
asked_by seen form Sets words read m o grammar same is by named sets =
    let taken : IsReadBy form words (Some m) = subst (λ f. IsReadBy f words (Some m)) same (subst (IsReadBy seen words) is by) in
    by_pairs (texts_given form (drop 1 words)) refl grammar taken
  where
    last : (o : Option Request) (pairs : Pairs) → texts_given form (drop 1 words) ≡ Some pairs → MatchOption o ((r : Asked) → ¬ (Sets (λ name. text_of name pairs) r)) (λ r. Sets (λ name. text_of name pairs) (request_seen r))
        → MatchOption o ((r : Asked) → ¬ (AsksBy form Sets words r)) (λ r. AsksBy form Sets words (request_seen r))
    last None pairs e none = λ r asks.
        let one : asks.pairs ≡ pairs = ap (λ x. unwrap_or x pairs) (sym asks.read ∙ e) in
        none r (subst (λ p. Sets (λ name. text_of name p) r) one asks.sets)
    last (Some r) pairs e sets = record { named = named; pairs = pairs; read = e; sets = sets }

    by_pairs : (given_texts : Option Pairs) → texts_given form (drop 1 words) ≡ given_texts
        → MatchOption given_texts (takes_words form words ≡ false) (λ pairs. (takes_words form words ≡ true) × ((id : Text) → given form words id ≡ text_of id pairs))
        → IsReadBy form words (Some m) → MatchOption o ((r : Asked) → ¬ (AsksBy form Sets words r)) (λ r. AsksBy form Sets words (request_seen r))
    by_pairs None e refused taken = absurd (true≢false (sym taken.0 ∙ refused))
    by_pairs (Some pairs) e reads taken =
        let texts_are : first_value (found_of m) ≡ (λ name. text_of name pairs) = λ i name. (ap (λ f. f name) taken.1 ∙ reads.1 name) i in
        last o pairs e (subst (λ text. MatchOption o ((r : Asked) → ¬ (Sets text r)) (λ r. Sets text (request_seen r))) texts_are sets)

pub not_taken : (seen form : Form) (Sets : (Text → Option Text) → Asked → Type 0) (words : List Text) (read : Option ArgMatches)
    → ReadsAs form words → seen ≡ form → read ≡ None → IsReadBy seen words read → (r : Asked) → ¬ (AsksBy form Sets words r)
not_taken seen form Sets words read grammar same is by r asks =
    let refused : takes_words form words ≡ false = subst (λ f. IsReadBy f words None) same (subst (IsReadBy seen words) is by) in
    go (texts_given form (drop 1 words)) asks.read grammar refused
  where
    go : (o : Option Pairs) → o ≡ Some asks.pairs → MatchOption o (takes_words form words ≡ false) (λ pairs. (takes_words form words ≡ true) × ((id : Text) → given form words id ≡ text_of id pairs)) → takes_words form words ≡ false → ⊥
    go None e reads refused = true≢false (sym (ap is_some e))
    go (Some pairs) e reads refused = true≢false (sym reads.0 ∙ refused)

-- a word is one command's name
pub one_name : (words : List Text) → begins_with (codes "validate") words ≡ true → begins_with (codes "schedule") words ≡ true → ⊥
one_name [] v s = true≢false (sym v)
one_name (word ∷ rest) v s =
    let same : codes "validate" ≡ codes "schedule" = sym ((bytes_eq-Decides word (codes "validate")).0 v) ∙ (bytes_eq-Decides word (codes "schedule")).0 s in
    true≢false (ap (λ t. bytes_eq t (codes "validate")) same)

pub asks_validate : (words : List Text) (o : Option Request) → begins_with (codes "validate") words ≡ true
    → MatchOption o ((r : Asked) → ¬ (AsksBy validate_form SetsValidate words r)) (λ r. AsksBy validate_form SetsValidate words (request_seen r))
    → MatchOption o ((r : Asked) → ¬ (Asks words r)) (λ r. Asks words (request_seen r))
asks_validate words None named none = go
  where
    go : (r : Asked) → ¬ (Asks words r)
    go (asked.Validate files limits) asks = none _ asks
    go (asked.Schedule files limits pivots leaves) asks = one_name words named asks.named
asks_validate words (Some (Validate files limits)) named asks = asks
asks_validate words (Some (Schedule files limits pivots leaves)) named asks = absurd asks.sets

pub asks_schedule : (words : List Text) (o : Option Request) → begins_with (codes "schedule") words ≡ true
    → MatchOption o ((r : Asked) → ¬ (AsksBy schedule_form SetsSchedule words r)) (λ r. AsksBy schedule_form SetsSchedule words (request_seen r))
    → MatchOption o ((r : Asked) → ¬ (Asks words r)) (λ r. Asks words (request_seen r))
asks_schedule words None named none = go
  where
    go : (r : Asked) → ¬ (Asks words r)
    go (asked.Validate files limits) asks = one_name words asks.named named
    go (asked.Schedule files limits pivots leaves) asks = none _ asks
asks_schedule words (Some (Validate files limits)) named asks = absurd asks.sets
asks_schedule words (Some (Schedule files limits pivots leaves)) named asks = asks

pub asks_nothing : (words : List Text) → begins_with (codes "validate") words ≡ false → begins_with (codes "schedule") words ≡ false → (r : Asked) → ¬ (Asks words r)
asks_nothing words v s (asked.Validate files limits) asks = true≢false (sym asks.named ∙ v)
asks_nothing words v s (asked.Schedule files limits pivots leaves) asks = true≢false (sym asks.named ∙ s)

-- a number that is read and not within bounds is the only one that the text stands for
pub outside : (number q top : ℚ) (b : Bool) → Some number ≡ Some q → IsTrue b ↔ ((zeroℚ <ℚ number) × (number ≤ℚ top)) → b ≡ false → zeroℚ <ℚ q → q ≤ℚ top → ⊥
outside number q top b same tells out above most =
    let is : number ≡ q = ap (λ o. unwrap_or o number) same in
    let test : IsTrue b = tells.1 (rw is (above, most)) in
    true≢false (sym test ∙ out)
