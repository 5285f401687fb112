use Rattle.std.proofs.Common.{◌≡◌, ◌+◌, ◌≤◌, ◌∷◌, ◌++◌, [], List, ℕ, length, take, drop, sym, ap, ◌∙◌, arith, rules}
use Rattle.std.proofs.lemmas.List.{drop-take, drop-drop}
use Rattle.std.proofs.lemmas.Bool.Decides.{nat_tests}
use Rattle.tks_list.specs.Cuts.{cut, CutSoFar}
use Rattle.tks_list.specs.Gives.{behind_list}
use Rattle.tks_list.specs.Reading.{list_of}
use Rattle.tks_list.proofs.Loops.{list_goes, list_ends}
use Rattle.tks_list.proofs.reading.take_next.Goals as goal

pub returns-clause-gives : goal.returns-clause-gives
returns-clause-gives c =
    let text = c.args.text.now in
    let start = c.args.start in
    let front = c.args.list.now.list in
    let rest = drop start text in
    let len = c.bare_len-len.result in
    let space = c.first_space.result in
    let some : 1 ≤ len = grind (arith, nat_tests, c.if-len-eq0.false) in
    let within : len ≤ length rest = rw c.split_at.ensures.back at c.bare_len-len.ensures.bound in
    let step = rw c.split_at.ensures.back at c.bare_len-len.ensures.step some in
    let behind : list_of (drop space (drop (start + len) text)) ≡ list_of (drop (start + len) text) = rw c.split_at-2.ensures.back at c.first_space.ensures.same in
    let passed : list_of (drop (len + space) rest) ≡ list_of (drop len rest) =
    ap list_of (sym (drop-drop space len rest)) ∙ ap (λ t. list_of (drop space t)) (drop-drop len start text) ∙ behind ∙ ap list_of (sym (drop-drop len start text)) in
    ap (λ (s : CutSoFar). behind_list s.list (list_of (drop (len + space) rest))) c.in_ok-add_span.ensures
    ∙ ap (λ (t : List ℕ). behind_list (front ++ cut t (record { start = start; end = start + len }) ∷ []) (list_of (drop (len + space) rest))) c.requires.same
    ∙ ap (λ (e : List ℕ). behind_list (front ++ e ∷ []) (list_of (drop (len + space) rest))) (drop-take start len text)
    ∙ ap (behind_list (front ++ take len rest ∷ [])) passed
    ∙ list_goes front (take len rest ∷ []) len rest some within step

pub returns-then-start-text-clause-gives : goal.returns-then-start-text-clause-gives
returns-then-start-text-clause-gives c = list_ends c.args.list.now.list c.args.start c.args.text.now (search rules)
