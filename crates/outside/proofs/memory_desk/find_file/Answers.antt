use Rattle.outside.proofs.Files.{found_file}
use Rattle.outside.proofs.memory_desk.find_file.Goals as goal

pub returns : goal.returns
returns c = found_file c.args.files.now c.args.name.now c.get.result c.get.ensures.value
