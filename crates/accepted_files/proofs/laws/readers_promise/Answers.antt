use Rattle.accepted_files.proofs.Promises.{readers_promise}
use Rattle.accepted_files.proofs.laws.readers_promise.Goals as goal

pub returns : goal.returns
returns c = readers_promise
