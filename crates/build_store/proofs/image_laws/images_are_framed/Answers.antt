use Rattle.build_store.specs.ImageLaws.{image_is_true, front_is_not_sealed}
use Rattle.build_store.proofs.image_laws.images_are_framed.Goals as goal

pub returns-clause-truth : goal.returns-clause-truth
returns-clause-truth c = image_is_true

pub returns-clause-front : goal.returns-clause-front
returns-clause-front c = front_is_not_sealed
