use Rattle.std.proofs.Common.{◌≡◌, ◌≤◌, ℕ, List, length, take, sym, ap, ◌∙◌, subst, arith}
use Rattle.std.proofs.lemmas.List.{take_all}
use Rattle.tks_lines.specs.Lines.{Lines, Formed, with_tags}
use Rattle.tks_lines.proofs.Tagged.{front_stays}
use Rattle.tks_lines.proofs.lines.TextWidget.insert_with.Goals as goal

-- the tags that were there before others were added
as_before : (names : List (List ℕ)) (n : ℕ) (t u : Lines) → n ≡ length t.tags → u ≡ record t { tags = with_tags names (length t.text) t.tags } → record u { tags = take n u.tags } ≡ t
as_before names n t u e m =
    let all : length t.tags ≤ n = omega (arith, e) in
    let few : n ≤ length t.tags = omega (arith, e) in
    ap (λ (v : Lines). record v { tags = take n v.tags }) m
    ∙ ap (λ gs. record t { tags = gs }) (front_stays names (length t.text) n t.tags t.tags (take_all n t.tags all) few)

pub invariant_of-self : goal.invariant_of-self
invariant_of-self c =
    let old = c.args.self.now in
    let now : Lines = record { options = c.self-2.inside.options; text = c.self-2.inside.text; tags = c.self-2.inside.tags; marks = c.self-2.inside.marks } in
    let before : c.len-before.result ≡ length old.tags = c.len-before.ensures ∙ ap (λ (t : Lines). length t.tags) c.self.view_is in
    let same = as_before c.args.names.now c.len-before.result old now before (c.self-2.view_is ∙ c.in-Err.ensures.err ∙ c.in_ok-add_tags.ensures.ok) in
    subst (λ gs. Formed (record now { tags = gs })) (sym c.truncate.ensures) (subst Formed (sym same) (subst Formed c.self.view_is c.self.invariant))

pub returns-in-Err-clause-err : goal.returns-in-Err-clause-err
returns-in-Err-clause-err c =
    let old = c.args.self.now in
    let now : Lines = record { options = c.self-2.inside.options; text = c.self-2.inside.text; tags = c.self-2.inside.tags; marks = c.self-2.inside.marks } in
    let before : c.len-before.result ≡ length old.tags = c.len-before.ensures ∙ ap (λ (t : Lines). length t.tags) c.self.view_is in
    ap (λ gs. record now { tags = gs }) c.truncate.ensures ∙ as_before c.args.names.now c.len-before.result old now before (c.self-2.view_is ∙ c.in-Err.ensures.err ∙ c.in_ok-add_tags.ensures.ok)
