use Rattle.std.proofs.Common.{◌≡◌, length, ◌+◌, ◌*◌, None}
use Rattle.tks_text.specs.Text.{IsText}
use Rattle.tks_text.proofs.Runs.{behind}
use Rattle.tks_parse.specs.Tree.{join_parts, join_words, join_scripts}
use Rattle.tks_parse.specs.View.{words_of, script_of_commands}
use Rattle.tks_parse.specs.Reading.{parts_at, words_at, commands_at, nest, index}
use Rattle.tks_parse.proofs.reading.+parse.Given as goal

abbrev pub decreases-read_nested : goal.decreases-read_nested
decreases-read_nested l = 11 * l.depth

abbrev pub decreases-read_index : goal.decreases-read_index
decreases-read_index l = 11 * l.depth

abbrev pub decreases-read_variable : goal.decreases-read_variable
decreases-read_variable l = 11 * l.depth + 1

abbrev pub decreases-read_piece : goal.decreases-read_piece
decreases-read_piece l = 11 * l.depth + 2

abbrev pub decreases-read_parts : goal.decreases-read_parts
decreases-read_parts l = 11 * l.depth + 3

abbrev pub decreases-read_quoted : goal.decreases-read_quoted
decreases-read_quoted l = 11 * l.depth + 4

abbrev pub decreases-read_plain : goal.decreases-read_plain
decreases-read_plain l = 11 * l.depth + 5

abbrev pub decreases-read_prefixed : goal.decreases-read_prefixed
decreases-read_prefixed l = 11 * l.depth + 6

abbrev pub decreases-read_word : goal.decreases-read_word
decreases-read_word l = 11 * l.depth + 7

abbrev pub decreases-read_words : goal.decreases-read_words
decreases-read_words l = 11 * l.depth + 8

abbrev pub decreases-read_command : goal.decreases-read_command
decreases-read_command l = 11 * l.depth + 9

abbrev pub decreases-read_commands : goal.decreases-read_commands
decreases-read_commands l = 11 * l.depth + 10

abbrev pub invariant-read_parts-pieces : goal.invariant-read_parts-pieces
invariant-read_parts-pieces l = record {
  so_far : behind (join_parts l.builder) l.taken (parts_at (nest l.depth) (index l.depth) l.mode l.rest) ≡ parts_at (nest l.depth) (index l.depth) l.mode l.text;
  len : l.taken + length l.rest ≡ length l.text;
  is_text : IsText l.rest;
}

abbrev pub decreases-read_parts-pieces : goal.decreases-read_parts-pieces
decreases-read_parts-pieces l = length l.rest

abbrev pub invariant-read_words-words : goal.invariant-read_words-words
invariant-read_words-words l = record {
  so_far : behind (join_words (words_of l.words.items)) l.taken (words_at (nest l.depth) (index l.depth) l.place l.rest) ≡ words_at (nest l.depth) (index l.depth) l.place l.text;
  len : l.taken + length l.rest ≡ length l.text;
  is_text : IsText l.rest;
}

abbrev pub decreases-read_words-words : goal.decreases-read_words-words
decreases-read_words-words l = length l.rest

abbrev pub invariant-read_commands-commands : goal.invariant-read_commands-commands
invariant-read_commands-commands l = record {
  so_far : behind (join_scripts (script_of_commands l.commands.items None)) l.taken (commands_at (nest l.depth) (index l.depth) l.place l.rest) ≡ commands_at (nest l.depth) (index l.depth) l.place l.text;
  len : l.taken + length l.rest ≡ length l.text;
  is_text : IsText l.rest;
}

abbrev pub decreases-read_commands-commands : goal.decreases-read_commands-commands
decreases-read_commands-commands l = length l.rest
