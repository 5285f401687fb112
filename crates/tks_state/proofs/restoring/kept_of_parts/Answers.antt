use Rattle.std.proofs.Common.{rules, ◌≡◌, ◌+◌, ◌++◌, Some, [], ◌∷◌, sym, ap, ◌∙◌, append_assoc, drop}
use Rattle.std.specs.Prelude.{slice_get}
use Rattle.std.proofs.lemmas.List.{append-nil}
use Rattle.tks_tree.specs.View.{window_seen}
use Rattle.tks_state.specs.Restoring.{kept_with, kept_of_parts}
use Rattle.tks_state.proofs.Restored.{kept_at, none_kept}
use Rattle.tks_state.proofs.restoring.kept_of_parts.Goals as goal

pub returns-in_default-next : goal.returns-in_default-next
returns-in_default-next c =
    let ws = c.args.tree.now.windows in
    let i = c.loop-index.index in
    let kept = c.loop-index.kept in
    let none : c.loop-index.parts.rest.items ≡ [] = search rules in
    sym (append-nil kept) ∙ ap (λ xs. kept ++ xs) (sym (ap (kept_of_parts (drop i ws)) none ∙ none_kept (drop i ws))) ∙ c.loop-index.invariant

pub loop-index-preserved : goal.loop-index-preserved
loop-index-preserved c =
    let ws = c.args.tree.now.windows in
    let i = c.loop-index.index in
    let kept = c.loop-index.kept in
    let w = window_seen c.in-Some.window in
    let part = c.in-Some-next.part in
    let rest = c.next.new.self.rest.items in
    let here : slice_get ws i ≡ Some w = search rules in
    let first : c.loop-index.parts.rest.items ≡ part ∷ rest = search rules in
    let others = kept_of_parts (drop (i + 1) ws) rest in
    ap (λ xs. xs ++ others) (c.in_ok-push.ensures.ok ∙ ap (λ k. kept ++ k ∷ []) c.in_ok-kept_with.ensures) ∙ append_assoc kept (kept_with w part ∷ []) others
    ∙ ap (λ xs. kept ++ xs) (sym (ap (kept_of_parts (drop i ws)) first ∙ kept_at ws i w part rest here)) ∙ c.loop-index.invariant
