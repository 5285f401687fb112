use Rattle.std.proofs.Common.{◌<◌, length, None, arith}
use Rattle.std.proofs.lemmas.Result.{err_from_is_err_and}
use Rattle.tks_text.proofs.Texts.{text_drop}
use Rattle.tks_parse.specs.Gives.{parts_of_piece, words_of_option, script_of_option}
use Rattle.tks_parse.specs.View.{words_of, script_of_commands}
use Rattle.tks_parse.specs.Reading.{nest, index}
use Rattle.tks_parse.proofs.Loops.{parts_go, parts_stop, parts_err, words_go, words_stop, words_err, commands_go, commands_stop, commands_fail}
use Rattle.tks_parse.proofs.Closings.{nested_fails, nested_found, index_found, index_missing, quoted_found}
use Rattle.tks_parse.proofs.reading.+parse.Goals as goal

-- the steps of the loops

pub read_parts-pieces-preserved : goal.read_parts-pieces-preserved
read_parts-pieces-preserved t c =
    let read = rw c.in-Some.is at c.in_ok-piece.ensures.gives in
    let lt : c.in-Some.more < length c.pieces.rest.now = rw c.in-Some.is at c.in_ok-piece.ensures.bound in
    record {
      so_far = rw (c.in_ok-add.ensures, c.split_at.ensures.back) (parts_go (nest c.args.depth) (index c.args.depth) c.args.mode c.pieces.builder (parts_of_piece c.in-Some.piece) c.pieces.taken c.in-Some.more c.pieces.rest.now _ c.pieces.invariant.so_far read lt);
      len = omega arith;
      is_text = rw c.split_at.ensures.back (text_drop _ _ c.pieces.invariant.is_text);
    }

pub read_words-words-preserved : goal.read_words-words-preserved
read_words-words-preserved t c =
    let read = rw c.in-Some.is at c.in_ok-word.ensures.gives in
    let lt : c.in-Some.more < length c.words.rest.now = rw c.in-Some.is at c.in_ok-word.ensures.bound in
    record {
      so_far = rw (c.in_ok-add_word.ensures, c.split_at.ensures.back) (words_go (nest c.args.depth) (index c.args.depth) c.args.place (words_of c.words.words.items) (words_of_option c.in-Some.word) c.words.taken c.in-Some.more c.words.rest.now _ c.words.invariant.so_far read lt);
      len = omega arith;
      is_text = rw c.split_at.ensures.back (text_drop _ _ c.words.invariant.is_text);
    }

pub read_commands-commands-preserved : goal.read_commands-commands-preserved
read_commands-commands-preserved t c =
    let read = rw c.in-Ok-Some.field-0-is at c.in-Ok-Some.ensures.gives in
    let lt : c.in-Ok-Some.more < length c.commands.rest.now = rw c.in-Ok-Some.field-0-is at c.in-Ok-Some.ensures.bound in
    record {
      so_far = rw (c.in_ok-add_command-in-Ok-Some.ensures, c.split_at.ensures.back) (commands_go (nest c.args.depth) (index c.args.depth) c.args.place (script_of_commands c.commands.commands.items None) (script_of_option c.in-Ok-Some.command) c.commands.taken c.in-Ok-Some.more c.commands.rest.now _ c.commands.invariant.so_far read lt);
      len = omega arith;
      is_text = rw c.split_at.ensures.back (text_drop _ _ c.commands.invariant.is_text);
    }

-- their ends

pub read_parts-returns-clause-gives : goal.read_parts-returns-clause-gives
read_parts-returns-clause-gives t c =
    let read = rw c.in_default.is at c.in_ok-piece.ensures.gives in
    rw (c.in_ok-parts.ensures, c.in_ok-into_parts.ensures) (parts_stop (nest c.args.depth) (index c.args.depth) c.args.mode c.pieces.builder c.pieces.taken c.pieces.rest.now _ c.pieces.invariant.so_far read)

pub read_parts-returns-in_err-piece-clause-gives : goal.read_parts-returns-in_err-piece-clause-gives
read_parts-returns-in_err-piece-clause-gives t c =
    let p = err_from_is_err_and c.from_residual.result c.from_residual.ensures.1 in
    rw (p.1, p.2) (parts_err (nest c.args.depth) (index c.args.depth) c.args.mode c.pieces.builder c.pieces.taken c.pieces.rest.now _ c.in_err-piece.field-0.0 c.pieces.invariant.so_far c.in_err-piece.ensures.gives)

pub read_words-returns-clause-gives : goal.read_words-returns-clause-gives
read_words-returns-clause-gives t c =
    let read = rw c.in_default.is at c.in_ok-word.ensures.gives in
    rw c.in_ok-command.ensures (words_stop (nest c.args.depth) (index c.args.depth) c.args.place (words_of c.words.words.items) c.words.taken c.words.rest.now _ c.words.invariant.so_far read)

pub read_words-returns-in_err-word-clause-gives : goal.read_words-returns-in_err-word-clause-gives
read_words-returns-in_err-word-clause-gives t c =
    let p = err_from_is_err_and c.from_residual-in_err-word.result c.from_residual-in_err-word.ensures.1 in
    rw (p.1, p.2) (words_err (nest c.args.depth) (index c.args.depth) c.args.place (words_of c.words.words.items) c.words.taken c.words.rest.now _ c.in_err-word.field-0.0 c.words.invariant.so_far c.in_err-word.ensures.gives)

pub read_commands-returns-in-Ok-None-clause-gives : goal.read_commands-returns-in-Ok-None-clause-gives
read_commands-returns-in-Ok-None-clause-gives t c =
    let read = rw c.in-Ok-None.field-0-is at c.in-Ok-None.ensures.gives in
    commands_stop (nest c.args.depth) (index c.args.depth) c.args.place (script_of_commands c.commands.commands.items None) c.commands.taken c.commands.rest.now _ c.commands.invariant.so_far read

pub read_commands-returns-in-Err-Script-clause-gives : goal.read_commands-returns-in-Err-Script-clause-gives
read_commands-returns-in-Err-Script-clause-gives t c =
    let read = rw c.in-Err-Script.field-0-is at c.in-Err-Script.ensures.gives in
    rw c.in-Err-Script.fault-is (commands_fail (nest c.args.depth) (index c.args.depth) c.args.place (script_of_commands c.commands.commands.items None) c.commands.taken c.in-Err-Script.fault c.commands.rest.now _ c.commands.invariant.so_far read)

-- what closes brackets, parentheses and quotes

pub read_nested-returns-in-Some-clause-gives : goal.read_nested-returns-in-Some-clause-gives
read_nested-returns-in-Some-clause-gives t c =
    let found = c.in_ok-commands.field-0 in
    nested_fails c.args.depth c.args.text.now (script_of_commands found.commands.items None) found.fault found.taken c.in-Some.failed (omega arith) c.in_ok-commands.ensures.gives c.in-Some.is

pub read_nested-returns-in_ok-script-clause-gives : goal.read_nested-returns-in_ok-script-clause-gives
read_nested-returns-in_ok-script-clause-gives t c =
    let found = c.in_ok-commands.field-0 in
    rw c.in_ok-script.ensures (nested_found c.args.depth c.args.text.now (script_of_commands found.commands.items None) found.fault found.taken (omega arith) c.in_ok-commands.ensures.gives c.in_default.is c.if-taken-text.true)

pub read_index-returns-in_ok-name-clause-gives : goal.read_index-returns-in_ok-name-clause-gives
read_index-returns-in_ok-name-clause-gives t c =
    rw c.in_ok-name.ensures (index_found c.args.depth c.args.syntax c.args.name.now c.args.text.now c.in_ok-parts.parts c.in_ok-parts.taken (omega arith) c.in_ok-parts.ensures.gives c.if-taken-text.true)

pub read_index-returns-else-taken-text-clause-gives : goal.read_index-returns-else-taken-text-clause-gives
read_index-returns-else-taken-text-clause-gives t c =
    rw c.fault-else-taken-text.ensures (index_missing c.args.depth c.args.syntax c.args.name.now c.args.text.now c.in_ok-parts.parts c.in_ok-parts.taken (omega arith) c.in_ok-parts.ensures.gives c.if-taken-text.false)

pub read_quoted-returns-then-taken-text-clause-gives : goal.read_quoted-returns-then-taken-text-clause-gives
read_quoted-returns-then-taken-text-clause-gives t c =
    quoted_found (nest c.args.depth) (index c.args.depth) c.args.syntax c.args.text.now c.in_ok-parts.parts c.in_ok-parts.taken c.in_ok-parts.ensures.gives c.if-taken-text.true
