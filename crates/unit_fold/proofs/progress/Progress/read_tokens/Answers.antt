use Rattle.std.proofs.Common.{true, subst}
use Rattle.unit_fold.specs.Owners.{read_on}
use Rattle.unit_fold.specs.Reads.{StepMoves}
use Rattle.unit_fold.specs.Told.{told}
use Rattle.unit_fold.specs.declared.lexed.Step.TheVariants.{Goes, Ends, Stops, Includes}
use Rattle.unit_fold.proofs.TextLemmas.{goes_behind, include_moves, step_read}
use Rattle.unit_fold.proofs.progress.Progress.read_tokens.Goals as goal

pub loop-begins_line-preserved : goal.loop-begins_line-preserved
loop-begins_line-preserved c =
    let l = c.loop-begins_line in
    let goes = subst (StepMoves l.lexer c.token.new.lexer) c.in-Goes.is c.in_ok-begins_line.ensures.moves in
    let behind = goes_behind c.args.text.now c.args.next l.lexer c.token.new.lexer l.invariant.text l.invariant.later goes in
    record {
      text = behind.0;
      fresh = goes.fresh;
      later = behind.1;
      so_far = step_read c.args.owner c.args.text.now l.lexer l.is_first (told l.self) (told c.token.new.self) c.token.new.lexer.at c.in_ok-begins_line.field-0 (Goes c.in-Goes.begins_line) (read_on c.args.owner c.args.text.now true (told c.args.self.now) c.args.next)
          l.invariant.so_far l.invariant.text c.in_ok-begins_line.ensures.step c.in-Goes.is;
    }

pub loop-begins_line-smaller : goal.loop-begins_line-smaller
loop-begins_line-smaller c =
    let l = c.loop-begins_line in
    let goes = subst (StepMoves l.lexer c.token.new.lexer) c.in-Goes.is c.in_ok-begins_line.ensures.moves in
    (goes_behind c.args.text.now c.args.next l.lexer c.token.new.lexer l.invariant.text l.invariant.later goes).2

pub returns-in-Ends-clause-end : goal.returns-in-Ends-clause-end
returns-in-Ends-clause-end c =
    let l = c.loop-begins_line in
    step_read c.args.owner c.args.text.now l.lexer l.is_first (told l.self) (told c.token.new.self) c.token.new.lexer.at c.in_ok-begins_line.field-0 Ends (read_on c.args.owner c.args.text.now true (told c.args.self.now) c.args.next)
    l.invariant.so_far l.invariant.text c.in_ok-begins_line.ensures.step c.in-Ends.is

pub returns-in-Stops-clause-end : goal.returns-in-Stops-clause-end
returns-in-Stops-clause-end c =
    let l = c.loop-begins_line in
    step_read c.args.owner c.args.text.now l.lexer l.is_first (told l.self) (told c.token.new.self) c.token.new.lexer.at c.in_ok-begins_line.field-0 Stops (read_on c.args.owner c.args.text.now true (told c.args.self.now) c.args.next)
    l.invariant.so_far l.invariant.text c.in_ok-begins_line.ensures.step c.in-Stops.is

pub returns-in-Includes-clause-end : goal.returns-in-Includes-clause-end
returns-in-Includes-clause-end c =
    let l = c.loop-begins_line in
    step_read c.args.owner c.args.text.now l.lexer l.is_first (told l.self) (told c.token.new.self) c.token.new.lexer.at c.in_ok-begins_line.field-0 (Includes c.in-Includes.include) (read_on c.args.owner c.args.text.now true (told c.args.self.now) c.args.next)
    l.invariant.so_far l.invariant.text c.in_ok-begins_line.ensures.step c.in-Includes.is

pub returns-in-Includes-clause-moves : goal.returns-in-Includes-clause-moves
returns-in-Includes-clause-moves c =
    let l = c.loop-begins_line in
    include_moves c.args.text.now c.args.next l.lexer c.token.new.lexer c.in_ok-begins_line.field-0 c.in-Includes.include l.invariant.text l.invariant.later c.in_ok-begins_line.ensures.moves c.in-Includes.is
