use Rattle.std.proofs.Common.{refl, sym, ap, subst, ◌∙◌}
use Rattle.std.specs.FinMap as fin
use Rattle.tks_share.specs.Maps.{IsChangedIn}
use Rattle.tks_vars.specs.Few.{put_behind}
use Rattle.tks_vars.proofs.Firsts.{looked_up, changed_at, changed_behind, lacks, found_behind, len_changed, len_kept, through, none_through}
use Rattle.tks_vars.proofs.frame.Frame.change.Goals as goal

pub invariant_of-self : goal.invariant_of-self
invariant_of-self g c =
    let gives = g.C.Change.gives c.args.change.now in
    let name = c.args.name.now in
    let first = c.self.inside.first in
    let at = looked_up name name first c.place.result refl c.place.ensures.value ∙ c.in-Some.is in
    c.self.invariant ∙ len_changed gives name _ _ c.change-answer.result (changed_at name gives c.self.inside.rest first c.change-answer.new.self c.in-Some.place c.change-answer.result at c.change-answer.ensures)

pub invariant_of-self-in-None : goal.invariant_of-self-in-None
invariant_of-self-in-None g c =
    let gives = g.C.Change.gives c.args.change.now in
    let name = c.args.name.now in
    let rest = c.self.inside.rest in
    let first = c.self.inside.first in
    let answer = c.in_ok-answer-in-None.answer in
    let lacking = lacks name first (looked_up name name first c.place.result refl c.place.ensures.value ∙ c.in-None.is) in
    c.self.invariant ∙ len_kept gives name (put_behind rest first) (put_behind c.change.new.self first) answer
    (through _ _ answer (λ a told. changed_behind name gives rest c.change.new.self first a lacking told) c.in_ok-answer-in-None.ensures.some)
    (none_through answer (λ told. ap (λ m. put_behind m first) told.0) c.in_ok-answer-in-None.ensures.none)

pub returns-in-Some-clause-some : goal.returns-in-Some-clause-some
returns-in-Some-clause-some g c =
    let gives = g.C.Change.gives c.args.change.now in
    let name = c.args.name.now in
    let rest = c.self.inside.rest in
    let first = c.self.inside.first in
    let new = c.change-answer.new.self in
    let at = looked_up name name first c.place.result refl c.place.ensures.value ∙ c.in-Some.is in
    subst (λ m. IsChangedIn gives name m (put_behind rest new) c.change-answer.result) c.self.view_is
    (changed_at name gives rest first new c.in-Some.place c.change-answer.result at c.change-answer.ensures)

pub returns-in_ok-answer-in-None-clause-some : goal.returns-in_ok-answer-in-None-clause-some
returns-in_ok-answer-in-None-clause-some g c =
    let gives = g.C.Change.gives c.args.change.now in
    let name = c.args.name.now in
    let rest = c.self.inside.rest in
    let first = c.self.inside.first in
    let new = c.change.new.self in
    let lacking = lacks name first (looked_up name name first c.place.result refl c.place.ensures.value ∙ c.in-None.is) in
    through _ _ c.in_ok-answer-in-None.answer (λ a told. subst (λ m. IsChangedIn gives name m (put_behind new first) a) c.self.view_is
    (changed_behind name gives rest new first a lacking told)) c.in_ok-answer-in-None.ensures.some

pub returns-in_ok-answer-in-None-clause-none : goal.returns-in_ok-answer-in-None-clause-none
returns-in_ok-answer-in-None-clause-none g c =
    let name = c.args.name.now in
    let rest = c.self.inside.rest in
    let first = c.self.inside.first in
    let lacking = lacks name first (looked_up name name first c.place.result refl c.place.ensures.value ∙ c.in-None.is) in
    none_through c.in_ok-answer-in-None.answer (λ told.
    (ap (λ m. put_behind m first) told.0 ∙ c.self.view_is, ap (λ m. fin.get m name) (sym c.self.view_is) ∙ found_behind name rest first lacking ∙ told.1)) c.in_ok-answer-in-None.ensures.none
