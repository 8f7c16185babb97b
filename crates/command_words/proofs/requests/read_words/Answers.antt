use Rattle.std.proofs.Common.{rules}
use Rattle.std.proofs.lemmas.Result.{IfOk-weaker}
use Rattle.command_words.specs.Grammar.{texts}
use Rattle.command_words.proofs.Asked.{asks_validate, asks_schedule}
use Rattle.command_words.proofs.requests.read_words.Goals as goal

pub returns-then-begins_with : goal.returns-then-begins_with
returns-then-begins_with c =
    IfOk-weaker c.read_validate.result _ _ (λ read. asks_validate (texts c.args.words.now) read (search rules)) c.read_validate.ensures

pub returns-then-begins_with-2 : goal.returns-then-begins_with-2
returns-then-begins_with-2 c =
    IfOk-weaker c.read_schedule.result _ _ (λ read. asks_schedule (texts c.args.words.now) read (search rules)) c.read_schedule.ensures
