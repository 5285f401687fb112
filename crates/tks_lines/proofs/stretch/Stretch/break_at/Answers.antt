use Rattle.std.proofs.Common.{List, ℕ, ◌+◌, ◌-◌, Some, ap, ◌∙◌, arith}
use Rattle.std.specs.Prelude.{slice_get}
use Rattle.tks_lines.specs.Breaks.{breaks_from}
use Rattle.tks_lines.specs.Stretch.{part}
use Rattle.tks_lines.proofs.Breaking.{break_within, moved_break, no_break}
use Rattle.tks_lines.proofs.Parted.{part_long}
use Rattle.tks_lines.proofs.stretch.Stretch.break_at.Goals as goal

pub overflow_add-result : goal.overflow_add-result
overflow_add-result c =
    let first = c.self.inside.first in
    let last = c.self.inside.last in
    let breaks = c.breaks_between-breaks.ensures ∙ ap (λ (p : List ℕ). breaks_from first (part first last p)) c.get.ensures in
    let got = c.in-Some.ensures ∙ ap (λ (bs : List ℕ). slice_get bs c.args.others) breaks in
    let inside = break_within first (part first last c.self.inside.piece) c.args.others c.in-Some.place got in
    let long = part_long first last c.self.inside.piece c.self.invariant.0 c.self.invariant.1.0 in
    omega (arith, inside, long, c.saturating_sub.ensures, c.self.invariant.0, c.self.invariant.1.0, c.self.invariant.1.1, c.requires)

pub returns-in-Some : goal.returns-in-Some
returns-in-Some c =
    let first = c.self.inside.first in
    let last = c.self.inside.last in
    let breaks = c.breaks_between-breaks.ensures ∙ ap (λ (p : List ℕ). breaks_from first (part first last p)) c.get.ensures ∙ ap (breaks_from first) c.self.view_is in
    let got = c.in-Some.ensures ∙ ap (λ (bs : List ℕ). slice_get bs c.args.others) breaks in
    ap (λ n. Some (n + c.args.begin)) c.saturating_sub.ensures ∙ moved_break first c.args.begin c.args.self.now c.args.others c.in-Some.place got

pub returns-in-None : goal.returns-in-None
returns-in-None c =
    let first = c.self.inside.first in
    let last = c.self.inside.last in
    let breaks = c.breaks_between-breaks.ensures ∙ ap (λ (p : List ℕ). breaks_from first (part first last p)) c.get.ensures ∙ ap (breaks_from first) c.self.view_is in
    let got = c.in-None.ensures ∙ ap (λ (bs : List ℕ). slice_get bs c.args.others) breaks in
    no_break first c.args.begin c.args.self.now c.args.others got
