use Rattle.std.proofs.Common.{◌≡◌, ◌-◌}
use Rattle.module_file.specs.Reading.{read_items}
use Rattle.module_file.proofs.Lists.{with_front}
use Rattle.module_file.proofs.form.read_list_of.Given as goal

abbrev pub invariant-loop-at : goal.invariant-loop-at
invariant-loop-at g l =
    with_front l.items (read_items g.T.Form.read_of (l.count - l._at) l.reader) ≡ read_items g.T.Form.read_of l.count l.initial.reader
