use Rattle.std.proofs.Common.{◌≡◌, false, length, arith}
use Rattle.cm_core.specs.declared.token.TokenKind.TheVariants.{Ident}
use Rattle.cm_core.specs.declared.token.Token.{Token}
use Rattle.unit_fold.proofs.FormLemmas.{no_begin, no_target, no_unit, pointer_held}
use Rattle.unit_fold.proofs.open_piece.OpenPiece.form.Goals as goal
use Rattle.unit_fold.proofs.open_piece.OpenPiece.form.Goals.{else-is_unit-via-then-is_unit+then-begins_pointer+else-has_target, else-is_unit-via-then-is_unit+else-begins_pointer, else-is_unit-via-else-is_unit}

abbrev none : Token
none = record { kind = Ident; name = record { index = 0 }; place = record { file = record { index = 0 }; line = 0; col = 0 }; spaced = false }

pub returns-then-has_target-clause-form : goal.returns-then-has_target-clause-form
returns-then-has_target-clause-form c =
    let seven : length c.args.tokens.now ≡ 7 = omega arith in
    pointer_held c.args.owner c.args.self.now.names c.args.tokens.now none seven c.if-is_unit.ensures c.if-begins_pointer.ensures c.if-has_target.ensures

pub returns-else-is_unit-clause-form : goal.returns-else-is_unit-clause-form
returns-else-is_unit-clause-form c =
    let seven : length c.args.tokens.now ≡ 7 = omega arith in
    elim c.else-is_unit.branch [
      | else-is_unit-via-then-is_unit+then-begins_pointer+else-has_target w ↦
          no_target c.args.owner c.args.self.now.names c.args.tokens.now none seven w.if-is_unit.ensures w.if-begins_pointer.ensures w.if-has_target.ensures
      | else-is_unit-via-then-is_unit+else-begins_pointer w ↦ no_begin c.args.owner c.args.self.now.names c.args.tokens.now none seven w.if-is_unit.ensures w.if-begins_pointer.ensures
      | else-is_unit-via-else-is_unit w ↦ no_unit c.args.owner c.args.self.now.names c.args.tokens.now none seven w.if-is_unit.ensures
    ]
