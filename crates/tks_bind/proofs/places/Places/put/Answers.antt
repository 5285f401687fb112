use Rattle.std.proofs.Common.{◌≡◌, length, sym, ap, ◌∙◌, arith}
use Rattle.std.proofs.lemmas.List.{length-map}
use Rattle.tks_bind.specs.declared.places.Counted.{Counted}
use Rattle.tks_bind.proofs.Counting.{put_set, put_last}
use Rattle.tks_bind.proofs.places.Places.put.Goals as goal

pub returns-in_ok-set-clause-ok : goal.returns-in_ok-set-clause-ok
returns-in_ok-set-clause-ok c =
    let lens : length c.self.inside.numbers ≡ length c.args.self.now = sym (length-map c.self.inside.numbers (λ (d : Counted). d.number)) ∙ ap length c.self.view_is in
    c.in_ok-set.ensures.ok ∙ put_set c.args.self.now c.args.index c.args.number (omega (arith, lens, c.len.ensures.value, c.if-index-len.true))

pub returns-in_ok-push-clause-ok : goal.returns-in_ok-push-clause-ok
returns-in_ok-push-clause-ok c =
    let lens : length c.self.inside.numbers ≡ length c.args.self.now = sym (length-map c.self.inside.numbers (λ (d : Counted). d.number)) ∙ ap length c.self.view_is in
    c.in_ok-push.ensures.ok ∙ put_last c.args.self.now c.args.index c.args.number (omega (arith, lens, c.len.ensures.value, c.if-index-len.false))
