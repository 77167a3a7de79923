use Rattle.std.proofs.Common.{◌∙◌, sym, ap, None}
use Rattle.std.specs.Prelude.{option_copied}
use Rattle.build_store.proofs.RowLemmas.{part_at_is}
use Rattle.build_store.proofs.library.Library.part.Goals as goal

pub returns-in-None : goal.returns-in-None
returns-in-None c = part_at_is c.args.self.now.parts c.args.x None (ap option_copied (sym c.in-None.is) ∙ c.get.ensures)
