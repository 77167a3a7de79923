use Rattle.module_file.specs.Whole.{spelling_injective, no_front}
use Rattle.module_file.proofs.a_file_says_one_thing.Goals as goal

pub returns : goal.returns
returns c = record { injective = spelling_injective; front = no_front }
