use Rattle.std.proofs.Common.{◌≡◌, ◌≤◌, length}
use Rattle.tks_text.specs.Text.{IsText}
use Rattle.tks_event.specs.Reading.{words_at, in_words}
use Rattle.tks_event.specs.View.{led}
use Rattle.tks_event.proofs.reading.read_words.Given as goal

abbrev pub invariant-words : goal.invariant-words
invariant-words l = record {
  so_far : led l.lead (in_words (words_at l.rest)) ≡ in_words (words_at l.text);
  len : length l.rest ≤ length l.text;
  is_text : IsText l.rest;
}

abbrev pub decreases-words : goal.decreases-words
decreases-words l = length l.rest
