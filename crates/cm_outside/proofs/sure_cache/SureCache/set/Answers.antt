use Rattle.std.proofs.Common.{◌≡◌, OnOk, OnErr, rules}
use Rattle.std.specs.Option.{option_copied}
use Rattle.cm_outside.specs.Caches.{with_set}
use Rattle.cm_outside.proofs.CachedFiles.{true_after_set, answers_after_set}
use Rattle.cm_outside.proofs.sure_cache.SureCache.set.Goals as goal

pub returns-clause-stays : goal.returns-clause-stays
returns-clause-stays g c =
    let is : OnOk c.set_file.result (c.set_file.new.files.items ≡ with_set c.args.name.now (option_copied c.args.bytes) c.args.self.now.files) = search rules in
    let same : OnErr c.set_file.result (c.set_file.new.files.items ≡ c.args.self.now.files) = search rules in
    true_after_set c.set_file.result g.I.Images.is_true c.args.name.now (option_copied c.args.bytes) c.args.self.now.files c.set_file.new.files.items is same

pub returns-clause-still : goal.returns-clause-still
returns-clause-still g c =
    let is : OnOk c.set_file.result (c.set_file.new.files.items ≡ with_set c.args.name.now (option_copied c.args.bytes) c.args.self.now.files) = search rules in
    let same : OnErr c.set_file.result (c.set_file.new.files.items ≡ c.args.self.now.files) = search rules in
    answers_after_set c.set_file.result c.args.name.now (option_copied c.args.bytes) c.args.self.now.files c.set_file.new.files.items is same
