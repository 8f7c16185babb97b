-- Private: keys of timed literals, by which one that contradicts another is found without a look at all others.
use Rattle.std.specs.Prelude.{ℕ, zero, suc, ◌/◌, ◌%◌, Bool, true, false, not, ℤ, pos, negsuc, unsigned_abs, List, [], ◌∷◌, ◌++◌}
use Rattle.std.specs.List.{flat_map}
use Rattle.rational.specs.Rational.{ℚ}
use Rattle.pddl_names.specs.Declarations.{Text, among, with_new}
use Rattle.pddl_terms.specs.declared.faults.Kind.TheVariants as kind
use Rattle.pddl_terms.specs.declared.files.TimedLiteral.{TimedLiteral}
use Rattle.pddl_terms.specs.declared.trees.Atom.{Atom}
use Rattle.pddl_terms.specs.declared.trees.Call.{Call}
use Rattle.pddl_terms.specs.declared.trees.Call.TheVariants as call
use Rattle.pddl_names.specs.declared.offences.Offence.{Offence}
use Rattle.pddl_forms.specs.Offences.{unless}
use Rattle.pddl_forms.specs.TimedLiterals.{fact_words}

-- a word whose end can be told: each byte behind a 1, and then a 0
unfoldable pub encoded : List ℕ → List ℕ
encoded [] = 0 ∷ []
encoded (b ∷ bs) = 1 ∷ b ∷ encoded bs

-- the digits of a number to the base 256, the lowest first, each behind a 1, and then a 0; at most so many
unfoldable pub digits : ℕ → ℕ → List ℕ
digits zero n = 0 ∷ []
digits (suc most) zero = 0 ∷ []
digits (suc most) (suc n) = 1 ∷ suc n % 256 ∷ digits most (suc n / 256)

-- A number has no more digits than its value says.
abbrev pub number_key : ℕ → List ℕ
number_key n = digits n n

abbrev pub sign_of : ℤ → ℕ
sign_of (pos n) = 0
sign_of (negsuc n) = 1

unfoldable pub moment_key : ℚ → List ℕ
moment_key q = sign_of q.num ∷ number_key (unsigned_abs q.num) ++ number_key q.den

abbrev pub truth_key : Bool → ℕ
truth_key true = 1
truth_key false = 0

unfoldable pub key : Bool → ℚ → Atom → Text
key holds moment fact = truth_key holds ∷ moment_key moment ++ flat_map encoded (fact_words fact)

-- the key of a timed literal; none where the fact is left out
abbrev pub keys_by : Bool → ℚ → Call → List Text
keys_by holds moment (call.Named fact) = key holds moment fact ∷ []
keys_by holds moment (call.LeftOut at) = []

abbrev pub keys_of : TimedLiteral → List Text
keys_of l = keys_by l.holds l.moment l.atom

-- whether one that contradicts it is among these
abbrev pub is_seen_by : List Text → Bool → ℚ → Call → Bool
is_seen_by seen holds moment (call.Named fact) = among seen (key (not holds) moment fact)
is_seen_by seen holds moment (call.LeftOut at) = false

abbrev pub is_seen : List Text → TimedLiteral → Bool
is_seen seen l = is_seen_by seen l.holds l.moment l.atom

-- each literal that contradicts one whose key was seen
unfoldable pub clashes_seen : List Text → List TimedLiteral → List Offence
clashes_seen seen [] = []
clashes_seen seen (l ∷ ls) = unless (not (is_seen seen l)) kind.TilClash l.at ++ clashes_seen (with_new seen (keys_of l)) ls
