-- The texts of the diagnostics, as docs/FORMATS.md lists them: own. A `%` in a text is a place for an argument.
use Rattle.std.specs.Prelude.{ℕ, ◌+◌, ◌==◌, if◌then◌else◌, List, [], ◌∷◌, codes}
use Rattle.diag_texts.specs.declared.severity.Severity.{Severity}
use Rattle.diag_texts.specs.declared.severity.Severity.TheVariants.{Error, Warning}
use Rattle.diag_texts.specs.declared.rows.Row.{Row as DeclaredRow}
use Rattle.diag_texts.specs.Severities.{severity_of, offset, shown}

-- a diagnostic's severity, the number that is shown of it, and its text
abbrev pub Row : Type 0
Row = Severity × ℕ × List ℕ

-- the number of a row's diagnostics
abbrev pub number_of : Row → ℕ
number_of row = row.1 + offset row.0

-- a row of the code's table
abbrev pub row_of : DeclaredRow → Row
row_of row = (row.0, row.1, row.2.now)

-- the text of a number: that of its row, and empty without one
abbrev pub text_in : List Row → ℕ → List ℕ
text_in [] number = []
text_in (row ∷ rows) number = if number_of row == number then row.2 else text_in rows number

unfoldable pub rows : List Row
rows =
    (Error, 1, codes "file '%' is absent")
    ∷ (Error, 2, codes "file '%' has % bytes, more than 16777216")
    ∷ (Error, 3, codes "file '%' is not UTF-8 at byte %")
    ∷ (Error, 4, codes "not a line of this file's form")
    ∷ (Error, 5, codes "not built yet")
    ∷ (Error, 6, codes "more than 1024 units")
    ∷ (Error, 10, codes "comment is not closed")
    ∷ (Error, 11, codes "zero byte")
    ∷ (Error, 12, codes "identifier is longer than 4096 bytes")
    ∷ (Error, 20, codes "not a module map declaration")
    ∷ (Error, 21, codes "nested deeper than 256")
    ∷ (Error, 22, codes "module '%' is declared twice")
    ∷ (Error, 23, codes "no module '%'")
    ∷ (Error, 24, codes "'module *' without an umbrella")
    ∷ (Error, 25, codes "folder '%' has two umbrellas")
    ∷ (Error, 26, codes "header '%' already belongs to '%'")
    ∷ (Error, 27, codes "more than 4096 submodules")
    ∷ (Error, 28, codes "config_macros outside a top-level module")
    ∷ (Error, 29, codes "path '%' is not usable")
    ∷ (Error, 30, codes "unknown directive '%'")
    ∷ (Error, 31, codes "malformed directive '%'")
    ∷ (Error, 32, codes "'%' without #if")
    ∷ (Error, 33, codes "#if is not closed")
    ∷ (Error, 34, codes "#error %")
    ∷ (Error, 35, codes "bad condition")
    ∷ (Error, 36, codes "header '%' is not found")
    ∷ (Error, 37, codes "headers nested deeper than 200")
    ∷ (Error, 50, codes "no module '%'")
    ∷ (Error, 51, codes "module '%' is not available")
    ∷ (Error, 52, codes "module '%' is cyclic")
    ∷ (Error, 53, codes "header '%' is private to '%'")
    ∷ (Error, 54, codes "module '%' does not use '%'")
    ∷ (Error, 55, codes "import inside a declaration")
    ∷ (Warning, 58, codes "module '%' conflicts with '%': %")
    ∷ (Warning, 59, codes "configured macro '%' is changed before the import of '%'")
    ∷ (Error, 60, codes "'%' is ambiguous: % and %")
    ∷ (Error, 61, codes "macro '%' is redefined")
    ∷ (Error, 62, codes "macro '%' has the wrong number of arguments")
    ∷ (Error, 63, codes "macro '%' has no closing parenthesis")
    ∷ (Error, 64, codes "'%' and '%' do not paste to one token")
    ∷ (Error, 65, codes "directive inside macro arguments")
    ∷ (Error, 66, codes "'%' cannot be a macro name")
    ∷ (Error, 67, codes "more than 1024 macro parameters")
    ∷ (Error, 68, codes "more than 2000000 tokens")
    ∷ (Error, 69, codes "macro arguments expanded deeper than 256")
    ∷ (Error, 100, codes "not a declaration")
    ∷ (Error, 101, codes "nested deeper than 256")
    ∷ (Error, 102, codes "bad integer constant '%'")
    ∷ (Error, 103, codes "bad character constant '%'")
    ∷ (Error, 104, codes "bad escape in '%'")
    ∷ (Error, 110, codes "'%' is not declared")
    ∷ (Error, 112, codes "conflicting declarations of '%': % and %")
    ∷ (Error, 113, codes "'%' is defined twice")
    ∷ (Error, 114, codes "'%' is declared twice in this scope")
    ∷ (Error, 115, codes "'%' is another kind of tag")
    ∷ (Error, 116, codes "'%' has internal and external linkage")
    ∷ (Error, 117, codes "incomplete type")
    ∷ (Error, 120, codes "operands of [] do not fit")
    ∷ (Error, 121, codes "called value is no function")
    ∷ (Error, 122, codes "wrong number of arguments")
    ∷ (Error, 123, codes "argument % does not fit its parameter")
    ∷ (Error, 124, codes "no structure or union here")
    ∷ (Error, 125, codes "no member '%'")
    ∷ (Error, 126, codes "operand of ++ or -- does not fit")
    ∷ (Error, 127, codes "address cannot be taken")
    ∷ (Error, 128, codes "operand of * is no pointer")
    ∷ (Error, 129, codes "operand of unary '%' does not fit")
    ∷ (Error, 130, codes "sizeof does not apply")
    ∷ (Error, 131, codes "cast does not apply")
    ∷ (Error, 132, codes "operands of '%' do not fit")
    ∷ (Error, 139, codes "branches of ?: do not fit")
    ∷ (Error, 140, codes "left side cannot be changed")
    ∷ (Error, 141, codes "types do not fit in assignment")
    ∷ (Error, 143, codes "integer constant expected")
    ∷ (Error, 144, codes "assertion failed: %")
    ∷ (Error, 145, codes "constant is out of range")
    ∷ (Error, 150, codes "more than one storage class")
    ∷ (Error, 151, codes "type specifiers do not fit together")
    ∷ (Error, 152, codes "array length is not positive")
    ∷ (Error, 153, codes "array of incomplete or function type")
    ∷ (Error, 154, codes "function returns a function or an array")
    ∷ (Error, 155, codes "enumerator does not fit int")
    ∷ (Error, 156, codes "bit-field does not fit")
    ∷ (Error, 158, codes "too many initialisers")
    ∷ (Error, 159, codes "designator does not fit")
    ∷ (Error, 160, codes "initialiser is not constant")
    ∷ (Error, 161, codes "object cannot be initialised")
    ∷ (Error, 162, codes "'%' outside its statement")
    ∷ (Error, 163, codes "duplicate case")
    ∷ (Error, 164, codes "return does not fit the function")
    ∷ (Error, 165, codes "no label '%'")
    ∷ (Error, 166, codes "label '%' twice")
    ∷ (Error, 167, codes "controlling expression does not fit")
    ∷ (Error, 168, codes "restrict does not apply")
    ∷ (Error, 169, codes "function specifier on no function")
    ∷ (Error, 170, codes "function definition does not fit")
    ∷ (Error, 171, codes "auto or register at file scope")
    ∷ (Error, 172, codes "void parameter among others")
    ∷ (Error, 173, codes "floating operand")
    ∷ (Error, 174, codes "type has more than 1024 parts")
    ∷ (Error, 175, codes "object is too large")
    ∷ []

abbrev pub text_of : ℕ → List ℕ
text_of number = text_in rows number

-- what a number shows
abbrev pub shown_of : ℕ → Row
shown_of number = (severity_of number, shown number, text_of number)
