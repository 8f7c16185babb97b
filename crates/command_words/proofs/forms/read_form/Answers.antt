use Rattle.std.proofs.Common.{◌∙◌}
use Rattle.command_words.specs.Grammar.{texts}
use Rattle.command_words.specs.Forms.{form_seen}
use Rattle.command_words.proofs.Read.{is_read, is_refused}
use Rattle.command_words.proofs.forms.read_form.Goals as goal

pub returns-in-Ok : goal.returns-in-Ok
returns-in-Ok c =
    is_read (form_seen c.args.form) _ (texts c.args.words.now) c.in-Ok.matches c.in_ok-command_of.ensures c.requires c.in-Ok.ensures.kinds c.in-Ok.ensures.matches

pub returns : goal.returns
returns c =
    is_refused (form_seen c.args.form) _ (texts c.args.words.now) c.in-Err.error c.in_ok-command_of.ensures c.requires c.in-Err.ensures.kinds (λ e. c.in_default.not-OutOfMemory (c.kind.ensures ∙ e))
