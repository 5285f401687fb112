use Rattle.std.proofs.Common.{◌≡◌, List, ℕ, ◌+◌, ◌-◌, ◌++◌, length, ap, ◌∙◌, arith}
use Rattle.tks_lines.specs.Stretch.{part}
use Rattle.tks_lines.proofs.Parted.{three_parts}
use Rattle.tks_lines.proofs.lined_text.LinedText.part.Goals as goal

pub returns : goal.returns
returns c =
    let p = c.self.inside.pieces in
    let first = c.args.first in
    let last = c.args.last in
    let front = part first last p.front in
    let a = c.saturating_sub-3.result in
    let b = c.saturating_sub-4.result in
    let from = c.saturating_sub.ensures ∙ ap (λ n. first - n) c.len-front.ensures.value in
    let to = c.saturating_sub-2.ensures ∙ ap (λ n. last - n) c.len-front.ensures.value in
    let from_behind : a ≡ first - (length p.front + length p.typed) = omega (arith, c.saturating_sub-3.ensures, c.len-front.ensures.value, c.len.ensures.value) in
    let to_behind : b ≡ last - (length p.front + length p.typed) = omega (arith, c.saturating_sub-4.ensures, c.len-front.ensures.value, c.len.ensures.value) in
    let one = c.in_ok-push_part.ensures ∙ ap (λ (xs : List ℕ). xs ++ front) c.new-text.ensures in
    let two = c.in_ok-push_part-2.ensures ∙ ap (λ (xs : List ℕ). xs ++ part c.saturating_sub.result c.saturating_sub-2.result p.typed) one in
    c.in_ok-push_part-3.ensures
    ∙ ap (λ (xs : List ℕ). xs ++ part a b p.behind) two
    ∙ ap (λ n. (front ++ part n c.saturating_sub-2.result p.typed) ++ part a b p.behind) from
    ∙ ap (λ n. (front ++ part (first - length p.front) n p.typed) ++ part a b p.behind) to
    ∙ three_parts first last a b p.front p.typed p.behind c.requires.0 from_behind to_behind
    ∙ ap (part first last) c.self.view_is
