use Rattle.std.proofs.Common.{◌+◌, ◌++◌, ◌∷◌, [], None, take, drop, ap, sym, subst, ◌∙◌}
use Rattle.std.proofs.lemmas.List.{take-append-drop, drop_more, take_more}
use Rattle.tks_spelling.specs.Spelling.{last_of, Rise}
use Rattle.tks_spelling.specs.Header.{may_follow}
use Rattle.tks_spelling.proofs.Rising.{rise_more, rise_at, never}
use Rattle.tks_spelling.proofs.names.are_names.Goals as goal

pub returns-then-not-is_behind : goal.returns-then-not-is_behind
returns-then-not-is_behind c =
    let names = c.args.names.now in
    let i = c.loop-index.index in
    let x = c.index-names-index.result in
    let whole = sym (take-append-drop i names) ∙ ap (λ w. take i names ++ w) (drop_more names i x c.loop-index-test.true ∙ ap (λ y. y ∷ drop (i + 1) names) (sym c.index-names-index.is)) in
    (never, λ h. sym c.if-not-is_behind.true ∙ c.is_behind.ensures ∙ ap (λ w. may_follow (last_of None w) x) c.split_at.ensures.front ∙ rise_at None (take i names) x (drop (i + 1) names) (subst (Rise (λ name. name) None) whole h))

pub loop-index-preserved : goal.loop-index-preserved
loop-index-preserved c =
    let names = c.args.names.now in
    let i = c.loop-index.index in
    let x = c.index-names-index.result in
    let more = take_more names i x c.loop-index-test.true ∙ ap (λ y. take i names ++ y ∷ []) (sym c.index-names-index.is) in
    subst (Rise (λ name. name) None) (sym more) (rise_more None (take i names) x c.loop-index.invariant (sym (c.is_behind.ensures ∙ ap (λ w. may_follow (last_of None w) x) c.split_at.ensures.front) ∙ c.if-not-is_behind.false))
