-- A command that is the one of a form is read by that form.
use Rattle.std.proofs.Common.{arith, ◌≡◌, true, false, List, [], ◌∷◌, Some, None, inl, inr, ap, ◌∙◌, subst}
use Rattle.clap.specs.Kinds.{HasKind, Kinds}
use Rattle.clap.specs.Words.{App, HasMatchesOf, fault_of, first_of, found_of, is_simple, is_simple_and_free, kind_of, matches_of, rows_of}
use Rattle.clap.specs.Walk.{is_empty}
use Rattle.clap.specs.Faults.{is_free_app}
use Rattle.clap.specs.Simple.{built}
use Rattle.clap.specs.declared.error.Error.{Error}
use Rattle.clap.specs.declared.error.kind.ErrorKind.TheVariants.{OutOfMemory}
use Rattle.clap.specs.declared.parser.matches.ArgMatches.{ArgMatches}
use Rattle.clap.proofs.WalkLemmas.{both, first_value-rows}
use Rattle.command_words.specs.Grammar.{Text, Form}
use Rattle.command_words.specs.Forms.{IsReadBy, app_of_form, given, takes_words}

pub is_read : (form : Form) (a : App) (words : List Text) (m : ArgMatches) → a ≡ app_of_form form → is_simple_and_free (app_of_form form) ≡ true
    → (is_simple_and_free a ≡ true → fault_of a words ≡ []) → HasMatchesOf a words m → IsReadBy form words (Some m)
unfolding takes_words given
is_read form a words m same simple none has =
    let F : App → Type 0 = λ x. is_simple_and_free x ≡ true → fault_of x words ≡ [] in
    let G : App → Type 0 = λ x. HasMatchesOf x words m in
    let rows : rows_of (found_of m) ≡ matches_of (app_of_form form) words =
    (subst G same has (both (is_simple (app_of_form form)) (is_free_app (built (app_of_form form))) simple).0).0 in
    (ap is_empty (subst F same none simple), λ i id. (first_value-rows (found_of m) id ∙ ap (first_of id) rows) i)

has_kinds : (e : Error) (kinds : Kinds) → HasKind kinds e → ¬ (kind_of e ≡ OutOfMemory) → is_empty kinds ≡ false
has_kinds e [] h other = absurd (other (elim h [ inl m ↦ m | inr none ↦ absurd none ]))
has_kinds e (k ∷ ks) h other = grind arith

pub is_refused : (form : Form) (a : App) (words : List Text) (e : Error) → a ≡ app_of_form form → is_simple_and_free (app_of_form form) ≡ true
    → (is_simple_and_free a ≡ true → HasKind (fault_of a words) e) → ¬ (kind_of e ≡ OutOfMemory) → IsReadBy form words None
unfolding takes_words
is_refused form a words e same simple kinds other =
    let F : App → Type 0 = λ x. is_simple_and_free x ≡ true → HasKind (fault_of x words) e in
    has_kinds e (fault_of (app_of_form form) words) (subst F same kinds simple) other
