-- Each name is new, since the names differ.
use Rattle.std.proofs.Common.{◌≡◌, [], get_or, ◌∙◌}
use Rattle.std.specs.List.{IsDistinct}
use Rattle.std.specs.Str.{bytes_eq}
use Rattle.std.proofs.lemmas.List.{get_or_read}
use Rattle.cm_core.proofs.TableLemmas.{numbered-next}
use Rattle.cm_core.proofs.sub_list.SubList.new.Goals as goal

pub loop-name-preserved : goal.loop-name-preserved
loop-name-preserved c =
    let names = c.items-name-items.result.now in
    let distinct : IsDistinct bytes_eq names = rw c.items-name-items.ensures c.requires in
    let read : c.name-item.result ≡ get_or names c.loop-name.name-index [] = get_or_read names _ _ c.loop-name-test.true c.name-item.is [] in
    let next = numbered-next names c.loop-name.name-index distinct c.loop-name-test.true in
    c.in_ok-number.ensures.number.1 ∙ rw (c.loop-name.invariant, c.text.ensures, read) next
