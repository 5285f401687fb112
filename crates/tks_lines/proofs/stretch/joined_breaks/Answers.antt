use Rattle.std.proofs.Common.{◌+◌, ◌++◌, List, ℕ, length, ap, ◌∙◌}
use Rattle.tks_lines.specs.Breaks.{breaks_from}
use Rattle.tks_lines.proofs.Breaking.{three_breaks}
use Rattle.tks_lines.proofs.stretch.joined_breaks.Goals as goal

pub returns : goal.returns
returns c =
    let front = c.args.front.now in
    let middle = c.args.middle.now in
    let behind = c.args.behind.now in
    let one = c.in_ok-push_breaks.ensures ∙ ap (λ (bs : List ℕ). bs ++ breaks_from 0 front) c.new-breaks.ensures.items in
    let two = c.in_ok-push_breaks-2.ensures ∙ ap (λ (bs : List ℕ). bs ++ breaks_from c.len-begin.result middle) one ∙ ap (λ n. breaks_from 0 front ++ breaks_from n middle) c.len-begin.ensures.value in
    c.in_ok-push_breaks-3.ensures
    ∙ ap (λ (bs : List ℕ). bs ++ breaks_from (c.len-begin.result + c.len.result) behind) two
    ∙ ap (λ n. (breaks_from 0 front ++ breaks_from (length front) middle) ++ breaks_from (n + c.len.result) behind) c.len-begin.ensures.value
    ∙ ap (λ n. (breaks_from 0 front ++ breaks_from (length front) middle) ++ breaks_from (length front + n) behind) c.len.ensures.value
    ∙ three_breaks front middle behind
