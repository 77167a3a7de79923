-- A text has one list of declarations at most, and is refused for want of memory alone where it has one.
use Rattle.std.proofs.Common.{◌≡◌, refl, List, Result, Ok, Err}
use Rattle.cm_core.specs.declared.numbers.Place.{Place}
use Rattle.c_lex.specs.declared.lexer.LexFault.{LexFault}
use Rattle.map_grammar.specs.declared.word.Word.{Word}
use Rattle.map_grammar.specs.declared.declaration.MapDecl.{MapDecl}
use Rattle.map_grammar.specs.declared.fault.MapFault.{MapFault}
use Rattle.map_grammar.specs.declared.fault.MapFault.TheVariants.{Lex, TooDeep, NotInGrammar, NoMemory}
use Rattle.map_grammar.specs.MapText.{AreDeclarations, no_more, one_more, IsFirstStray, here, later, IsMap, IsRefusal}
use Rattle.map_grammar.proofs.MapLaws.{one_tree}

same_declarations : (cuts : List (List Word)) (ds es : List MapDecl) → AreDeclarations ds cuts → AreDeclarations es cuts → ds ≡ es
same_declarations cuts ds es no_more no_more = refl
same_declarations cuts ds es (one_more d xs cut others h a) (one_more e ys same left k b) =
    let first : d ≡ e = one_tree cut d e h k in
    let rest : xs ≡ ys = same_declarations others xs ys a b in
    rw (first, rest) refl

no_stray : (p : Place) (ds : List MapDecl) (cuts : List (List Word)) → IsFirstStray p cuts → AreDeclarations ds cuts → ⊥
no_stray p ds cuts (here w ws others none) (one_more d xs cut left h a) = none d h
no_stray p ds cuts (later q e cut others k s) (one_more d xs same left h a) = no_stray q xs others s a

pub one_map : (lexed : Result (List Word) LexFault) (a b : List MapDecl) → IsMap lexed a → IsMap lexed b → a ≡ b
one_map (Ok words) a b x y = same_declarations _ a b x.1 y.1
one_map (Err fault) a b x y = absurd x

pub no_map_refused : (lexed : Result (List Word) LexFault) (ds : List MapDecl) (fault : MapFault) → IsMap lexed ds → IsRefusal lexed fault → fault ≡ NoMemory
no_map_refused lexed ds NoMemory x y = refl
no_map_refused (Ok words) ds (Lex fault) x y = absurd (cc)
no_map_refused (Ok words) ds (TooDeep place) x y = let none = x.0 in absurd (cc)
no_map_refused (Ok words) ds (NotInGrammar place) x y = absurd (no_stray place ds _ y.1 x.1)
no_map_refused (Err lexical) ds fault x y = absurd x
