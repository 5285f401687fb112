use Rattle.std.proofs.Common.{◌≡◌, ℕ, ◌+◌, ◌<◌, ◌≤◌, ◌^◌, List, length, map, sym, ap, ◌∙◌, subst, arith}
use Rattle.tks_lines.specs.declared.parts.Tag.{Tag}
use Rattle.tks_lines.specs.Lines.{Lines, Formed, spliced, grown, shrunk, is_among, moved_on}
use Rattle.tks_lines.proofs.Inside.{small_on}
use Rattle.tks_lines.proofs.Inserted.{among_grown_formed}
use Rattle.tks_lines.proofs.Round.{same_tags}
use Rattle.tks_lines.proofs.lines.TextWidget.put_among.Goals as goal

pub invariant_of-self-in-Err : goal.invariant_of-self-in-Err
invariant_of-self-in-Err c =
    let old : Lines = record { options = c.self.inside.options; text = c.self.inside.text; tags = c.self.inside.tags; marks = c.self.inside.marks } in
    let place = c.args.place in
    let here : place ≤ length old.text = omega (arith, c.requires, ap (λ (t : Lines). length t.text) c.self.view_is) in
    let tags = c.shrink.ensures ∙ ap (map (shrunk place (place + length c.as_bytes-count.result.now))) c.in_ok-grow_among.ensures.ok ∙ same_tags place (length c.as_bytes-count.result.now) (length old.text) (is_among c.args.names.now) old.tags here c.self.invariant.long in
    subst (λ gs. Formed (record old { text = c.insert.new.self; tags = gs })) (sym tags) (subst (λ t. Formed (record old { text = t })) (sym c.in-Err.ensures.err) c.self.invariant)

pub returns-in-Err-clause-err : goal.returns-in-Err-clause-err
returns-in-Err-clause-err c =
    let old : Lines = record { options = c.self.inside.options; text = c.self.inside.text; tags = c.self.inside.tags; marks = c.self.inside.marks } in
    let place = c.args.place in
    let here : place ≤ length old.text = omega (arith, c.requires, ap (λ (t : Lines). length t.text) c.self.view_is) in
    let tags = c.shrink.ensures ∙ ap (map (shrunk place (place + length c.as_bytes-count.result.now))) c.in_ok-grow_among.ensures.ok ∙ same_tags place (length c.as_bytes-count.result.now) (length old.text) (is_among c.args.names.now) old.tags here c.self.invariant.long in
    ap (λ gs. record old { text = c.insert.new.self; tags = gs }) tags ∙ ap (λ t. record old { text = t }) c.in-Err.ensures.err ∙ c.self.view_is

pub move_on-requires : goal.move_on-requires
move_on-requires c =
    let few : length c.self.inside.text + length c.as_bytes-count.result.now < 2 ^ 64 = omega (arith, ap (λ (t : Lines). length t.text) c.self.view_is) in
    small_on (length c.self.inside.text) (length c.as_bytes-count.result.now) (2 ^ 64) c.self.inside.marks few c.self.invariant.inside

pub invariant_of-self-2 : goal.invariant_of-self-2
invariant_of-self-2 c =
    let old : Lines = record { options = c.self.inside.options; text = c.self.inside.text; tags = c.self.inside.tags; marks = c.self.inside.marks } in
    let place = c.args.place in
    let here : place ≤ length old.text = omega (arith, c.requires, ap (λ (t : Lines). length t.text) c.self.view_is) in
    let text : c.insert.new.self ≡ spliced place c.args.more.now old.text = c.in_default.ensures.ok in
    let growth = λ (n : ℕ) (g : Tag). grown place n (is_among c.args.names.now g) g in
    let tags : c.grow_among.new.self ≡ map (growth (length c.args.more.now)) old.tags = c.in_ok-grow_among.ensures.ok ∙ ap (λ (more : List ℕ). map (growth (length more)) old.tags) c.as_bytes-count.ensures.value in
    let marks : c.move_on.new.self ≡ map (moved_on place (length c.args.more.now)) old.marks = c.move_on.ensures ∙ ap (λ (more : List ℕ). map (moved_on place (length more)) old.marks) c.as_bytes-count.ensures.value in
    among_grown_formed old place c.args.more.now c.args.names.now c.insert.new.self c.grow_among.new.self c.move_on.new.self c.self.invariant here text tags marks
