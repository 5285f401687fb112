use Rattle.std.proofs.Common.{ℕ, List, Result, Ok, sym, ap, ◌∙◌}
use Rattle.std.specs.Prelude.{position}
use Rattle.tks_text.specs.Text.{same_text}
use Rattle.tks_tcl.specs.Cause.{Cause, after}
use Rattle.tks_tcl.specs.Lists.{place_text}
use Rattle.tks_tcl.proofs.lists.searched.Goals as goal

pub returns : goal.returns
returns c =
    let told : List (List ℕ) → List ℕ = λ l. place_text (position (λ element. same_text element c.args.value.now) l) in
    ap (λ (r : Result (List (List ℕ)) Cause). after r (λ l. Ok (told l))) c.in_ok-list.ensures
    ∙ ap Ok (ap told (sym c.get.ensures) ∙ ap place_text (sym c.position-found.ensures.value) ∙ sym c.in_ok-text.ensures)
