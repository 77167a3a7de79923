use Rattle.std.proofs.Common.{◌≡◌, rules}
use Rattle.cm_outside.specs.Caches.{with_file}
use Rattle.cm_outside.proofs.CachedFiles.{true_after_put, answers_after_put}
use Rattle.cm_outside.proofs.mem_cache.MemCacheCache.replace.Goals as goal

pub returns-clause-stays : goal.returns-clause-stays
returns-clause-stays g c = λ all image.
    let is : c.put_file.new.files.items ≡ with_file c.args.name.now c.args.bytes.now c.args.self.now.files = search rules in
    true_after_put g.I.Images.is_true c.args.name.now c.args.bytes.now c.args.self.now.files c.put_file.new.files.items is all (g.I.Images.image_is_true c.args.bytes.now image)

pub returns-clause-still : goal.returns-clause-still
returns-clause-still g c =
    let is : c.put_file.new.files.items ≡ with_file c.args.name.now c.args.bytes.now c.args.self.now.files = search rules in
    answers_after_put c.args.name.now c.args.bytes.now c.args.self.now.files c.put_file.new.files.items is
