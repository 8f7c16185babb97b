use Rattle.accepted_files.proofs.FileNames.{file_names, types_named}
use Rattle.accepted_files.proofs.laws.accepted_names_are_task_names.Goals as goal

pub returns-clause-names : goal.returns-clause-names
returns-clause-names c = file_names

pub returns-clause-types : goal.returns-clause-types
returns-clause-types c = types_named
