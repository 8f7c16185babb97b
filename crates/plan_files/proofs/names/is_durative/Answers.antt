use Rattle.std.proofs.Common.{◌∙◌, List, ℕ, ap}
use Rattle.std.specs.Prelude.{map, position, is_some}
use Rattle.std.specs.Str.{str_to_ascii_lowercase}
use Rattle.plan_files.specs.Entries.{Entry, same_entry, schema_entry, durative_of}
use Rattle.plan_files.proofs.Found.{entry, durative-found}
use Rattle.plan_files.proofs.names.is_durative.Goals as goal

pub returns : goal.returns
returns c =
    let schemas = c.args.names.now.task.now.parts.schemas in
    c.is_some.ensures ∙ ap is_some (c.find.ensures (map {B = Entry} schema_entry (durative_of schemas)) c.requires.durative
    ∙ ap (λ (e : Entry). position (same_entry e) (map {B = Entry} schema_entry (durative_of schemas))) (c.in_ok-key.ensures ∙ ap (λ (os : List ℕ). entry (str_to_ascii_lowercase c.args.name.now) os) c.new.ensures.items))
    ∙ durative-found schemas c.args.name.now
