use Rattle.std.proofs.Common.{◌<◌, length, arith}
use Rattle.tks_text.proofs.Texts.{text_drop}
use Rattle.tks_parse.specs.Ready.{ready_option}
use Rattle.tks_parse.specs.View.{ready_words}
use Rattle.tks_parse.proofs.Loops.{words_go, words_stop}
use Rattle.tks_parse.proofs.ready.read_ready.Goals as goal

pub words-preserved : goal.words-preserved
words-preserved c =
    let lt : c.in-Some.more < length c.words.rest.now = rw c.in-Some.is at c.ready_word.ensures.bound in
    record {
      so_far = λ nest index. rw (c.in_ok-add_text.ensures, c.split_at.ensures.back) (words_go nest index c.args.place (ready_words c.words.texts.items) (ready_option c.in-Some.word) c.words.taken c.in-Some.more c.words.rest.now _ (c.words.invariant.so_far nest index) (rw c.in-Some.is at c.ready_word.ensures.gives nest index) lt);
      len = omega arith;
      is_text = rw c.split_at.ensures.back (text_drop _ _ c.words.invariant.is_text);
      ready = rw c.split_at.ensures.back (rw c.in-Some.is at c.ready_word.ensures.behind);
    }

pub returns-clause-gives : goal.returns-clause-gives
returns-clause-gives c = λ nest index.
    rw c.in_ok-command.ensures (words_stop nest index c.args.place (ready_words c.words.texts.items) c.words.taken c.words.rest.now _ (c.words.invariant.so_far nest index) (rw c.in_default.is at c.ready_word.ensures.gives nest index))
