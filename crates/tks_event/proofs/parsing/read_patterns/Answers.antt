use Rattle.std.proofs.Common.{◌<◌, sym, ap, subst, ◌∙◌, arith, length}
use Rattle.std.proofs.lemmas.Bool.{eqb-true, eqb-false}
use Rattle.tks_text.proofs.Texts.{text_drop}
use Rattle.tks_text.specs.Integer.{is_space}
use Rattle.tks_text.specs.Text.{IsText, BeginsNot}
use Rattle.tks_event.specs.Reading.{patterns_in}
use Rattle.tks_event.specs.View.{pattern_seen, kept, kept_after}
use Rattle.tks_event.proofs.Collecting.{spaces_behind, begins_behind, kept_item, kept_end, kept_bad, detail_is_text}
use Rattle.tks_event.proofs.parsing.read_patterns.Goals as goal

pub patterns-init : goal.patterns-init
patterns-init c =
    let e = c.behind_spaces-rest.ensures in
    record {
      so_far = ap (λ t. kept_after (kept c.new-found.result) (patterns_in t)) e
          ∙ ap (kept_after (kept c.new-found.result)) (spaces_behind c.args.text.now)
          ∙ ap (λ k. kept_after k (patterns_in c.args.text.now)) c.new-found.ensures;
      begins = subst (BeginsNot is_space) (sym e) (begins_behind c.args.text.now);
      is_text = subst IsText (sym e) (text_drop _ c.args.text.now c.requires);
    }

pub add-requires : goal.add-requires
add-requires c = detail_is_text (pattern_seen c.in-Some.written) c.patterns.rest.now c.in-Some.behind.now (sym c.in-Some.ensures.value)

pub patterns-preserved : goal.patterns-preserved
patterns-preserved c =
    let e = c.behind_spaces-rest-in-Some.ensures in
    let behind = c.in-Some.behind.now in
    record {
      so_far = ap (λ t. kept_after (kept c.add.new.self) (patterns_in t)) e
          ∙ ap (kept_after (kept c.add.new.self)) (spaces_behind behind)
          ∙ ap (λ k. kept_after k (patterns_in behind)) c.in_ok-add.ensures
          ∙ sym (kept_item (kept c.patterns.found) (pattern_seen c.in-Some.written) c.patterns.rest.now behind (sym c.in-Some.ensures.value))
          ∙ c.patterns.invariant.so_far;
      begins = subst (BeginsNot is_space) (sym e) (begins_behind behind);
      is_text = subst IsText (sym e) (text_drop _ behind c.in-Some.ensures.text);
    }

pub returns-then-not-is_empty : goal.returns-then-not-is_empty
returns-then-not-is_empty c =
    let other = eqb-false (length c.patterns.rest.now) 0 (sym c.is_empty.ensures ∙ c.if-not-is_empty.true) in
    let some : 0 < length c.patterns.rest.now = omega arith in
    sym (kept_bad (kept c.patterns.found) c.patterns.rest.now some c.patterns.invariant.begins (sym c.in_default.ensures.value))
    ∙ c.patterns.invariant.so_far

pub returns : goal.returns
returns c =
    let none = eqb-true (length c.patterns.rest.now) 0 (sym c.is_empty.ensures ∙ c.if-not-is_empty.false) in
    sym (kept_end (kept c.patterns.found) c.patterns.rest.now none) ∙ c.patterns.invariant.so_far
