-- Faults in the words and declarations of maps, apart from want of memory. Own: no public promise cites this.
use Rattle.std.specs.Prelude.{◌≡◌, List, [], ◌∷◌, Result, Err, ⊤}
use Rattle.cm_core.specs.declared.numbers.Place.{Place}
use Rattle.c_lex.specs.declared.lexer.LexFault.{LexFault}
use Rattle.c_lex.specs.declared.lexer.LexFault.TheVariants.{Unclosed, BadByte, LongName, NoMemory as LexNoMemory}
use Rattle.map_grammar.specs.declared.word.Word.{Word}
use Rattle.map_grammar.specs.declared.fault.MapFault.{MapFault}
use Rattle.map_grammar.specs.declared.fault.MapFault.TheVariants.{Lex, TooDeep, NotInGrammar, NoMemory}
use Rattle.map_grammar.specs.MapText.{IsNoDeclaration, IsFirstStray}

abbrev pub fault_from : LexFault → MapFault
fault_from (Unclosed place) = Lex (Unclosed place)
fault_from (BadByte place) = Lex (BadByte place)
fault_from (LongName place) = Lex (LongName place)
fault_from LexNoMemory = NoMemory

-- a text without words
abbrev pub IsLexFault : Result (List Word) LexFault → MapFault → Type 0
IsLexFault lexed (Lex fault) = lexed ≡ Err fault
IsLexFault lexed NoMemory = ⊤
IsLexFault lexed (TooDeep place) = ⊥
IsLexFault lexed (NotInGrammar place) = ⊥

-- words that are no declaration
abbrev pub IsStrayAt : Place → List Word → Type 0
IsStrayAt place [] = ⊥
IsStrayAt place (w ∷ ws) = (place ≡ w.place) × IsNoDeclaration (w ∷ ws)

abbrev pub IsStray : List Word → MapFault → Type 0
IsStray ws (NotInGrammar place) = IsStrayAt place ws
IsStray ws NoMemory = ⊤
IsStray ws (TooDeep place) = ⊥
IsStray ws (Lex fault) = ⊥

-- cuts of which one is no declaration
abbrev pub AreStray : List (List Word) → MapFault → Type 0
AreStray cuts (NotInGrammar place) = IsFirstStray place cuts
AreStray cuts NoMemory = ⊤
AreStray cuts (TooDeep place) = ⊥
AreStray cuts (Lex fault) = ⊥
