use Rattle.command_words.specs.Grammar.{texts}
use Rattle.command_words.specs.Forms.{form_seen}
use Rattle.command_words.specs.Requests.{validate_form, SetsValidate}
use Rattle.command_words.proofs.Asked.{asked_by, not_taken}
use Rattle.command_words.proofs.Grammar.{validate_words}
use Rattle.command_words.proofs.requests.read_validate.Goals as goal

pub returns-in-Some : goal.returns-in-Some
returns-in-Some c =
    asked_by (form_seen c.validate_form.result) validate_form SetsValidate (texts c.args.words.now) c.in_ok-matches.field-0 c.in-Some.matches c.validate_asked.result (validate_words c.args.words.now c.requires) c.validate_form.ensures c.in-Some.is c.in_ok-matches.ensures c.requires c.validate_asked.ensures

pub returns-in-None : goal.returns-in-None
returns-in-None c =
    not_taken (form_seen c.validate_form.result) validate_form SetsValidate (texts c.args.words.now) c.in_ok-matches.field-0 (validate_words c.args.words.now c.requires) c.validate_form.ensures c.in-None.is c.in_ok-matches.ensures
