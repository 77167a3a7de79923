use Rattle.std.proofs.Common.{◌≡◌, rules}
use Rattle.cm_outside.specs.Trees.{without_path}
use Rattle.cm_outside.proofs.CachedFiles.{true_after_remove, answers_after_remove}
use Rattle.cm_outside.proofs.sure_cache.SureCacheCache.remove.Goals as goal

pub returns-clause-stays : goal.returns-clause-stays
returns-clause-stays g c =
    let is : c.remove_file.new.files.items ≡ without_path c.args.name.now c.args.self.now.files = search rules in
    true_after_remove g.I.Images.is_true c.args.name.now c.args.self.now.files c.remove_file.new.files.items is

pub returns-clause-still : goal.returns-clause-still
returns-clause-still g c =
    let is : c.remove_file.new.files.items ≡ without_path c.args.name.now c.args.self.now.files = search rules in
    answers_after_remove c.args.name.now c.args.self.now.files c.remove_file.new.files.items is
