use Rattle.std.proofs.Common.{refl}
use Rattle.map_grammar.proofs.MapLaws.{whole_some, whole_none}
use Rattle.map_grammar.proofs.Cutting.{stray_at}
use Rattle.map_grammar.proofs.parse.declaration.Goals as goal

pub returns-in-Ok-clause-ok : goal.returns-in-Ok-clause-ok
returns-in-Ok-clause-ok c = whole_some c.args.words.now c.in-Ok.declaration c.in-Ok.ensures

pub returns-in-Err-NotInGrammar-clause-err : goal.returns-in-Err-NotInGrammar-clause-err
returns-in-Err-NotInGrammar-clause-err c =
    let none = rw c.in-Err-NotInGrammar.field-0-is at c.in-Err-NotInGrammar.ensures in
    stray_at c.args.words.now _ c.requires (λ w ws e. rw e refl) (whole_none c.args.words.now none)
