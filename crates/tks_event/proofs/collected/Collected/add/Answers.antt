use Rattle.std.proofs.Common.{◌≡◌, ◌++◌, ◌∷◌, [], ◌-◌, append_assoc, sym, ap, ◌∙◌, false, true, not, List}
use Rattle.std.proofs.lemmas.Bool.{and_parts, not-true}
use Rattle.tks_event.specs.Sequences.{near_ones, events_of}
use Rattle.tks_event.specs.View.{pattern_seen}
use Rattle.tks_event.specs.View.{kept, room}
use Rattle.tks_event.specs.declared.pattern.Pattern.{Pattern}
use Rattle.tks_event.proofs.Collecting.{kept_full, kept_more}
use Rattle.tks_event.proofs.collected.Collected.add.Goals as goal

pub returns-then-not-has_room : goal.returns-then-not-has_room
returns-then-not-has_room c =
    let full : room (kept c.args.self.now) (c.args.written.now.times - 1) ≡ false =
    ap (room (kept c.args.self.now)) (sym c.saturating_sub-near.ensures) ∙ sym c.has_room.ensures ∙ c.if-not-has_room.true in
    sym (kept_full (kept c.args.self.now) (pattern_seen c.args.written.now) full)

pub returns : goal.returns
returns c =
    let r = pattern_seen c.args.written.now in
    let old = kept c.args.self.now in
    let free : room old (c.args.written.now.times - 1) ≡ true = ap (room old) (sym c.saturating_sub-near.ensures) ∙ sym c.has_room.ensures ∙ c.if-not-has_room.false in
    let short = not-true c.args.self.now.is_too_long (and_parts (not c.args.self.now.is_too_long) _ free).0 in
    let all : c.push_near.new.patterns.items ≡ old.items ++ events_of r =
    c.in_ok-push_near.ensures
    ∙ ap (λ n. c.push.new.self.items ++ near_ones r.pattern n) c.saturating_sub-near.ensures
    ∙ ap (λ (xs : List Pattern). xs ++ near_ones r.pattern (r.times - 1)) (c.in_ok-push.ensures.ok ∙ ap (λ x. old.items ++ x ∷ []) c.in_ok-first.ensures)
    ∙ append_assoc old.items (r.pattern ∷ []) (near_ones r.pattern (r.times - 1)) in
    ap (λ (xs : List Pattern). record { items = xs; is_too_long = c.args.self.now.is_too_long }) all
    ∙ ap (λ b. record { items = old.items ++ events_of r; is_too_long = b }) short
    ∙ sym (kept_more old r free)
