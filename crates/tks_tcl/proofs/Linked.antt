-- Names that were made links all at once.
use Rattle.std.proofs.Common.{◌≡◌, ℕ, ◌<◌, true, if◌then◌else◌, List, [], ◌∷◌, Option, Some, None, Ok, Err, refl, sym, ap, ◌∙◌, arith}
use Rattle.std.specs.Prelude.{IfSome}
use Rattle.std.proofs.lemmas.Bool.Decides.{nat_tests}
use Rattle.tks_text.specs.declared.limits.Limits.{Limits}
use Rattle.tks_vars.specs.Links.{AreLinked}
use Rattle.tks_vars.specs.Variables.{Variables, with_global_link, grown_by_link}
use Rattle.tks_tcl.specs.Cause.{OverLimit, after, value_or_fault}
use Rattle.tks_tcl.specs.Variables.{may_grow, with_global_links}

module _ (limits : Limits) where
  have_room : (o : Option ℕ) → IfSome o (λ n. n < limits.items) → may_grow limits o ≡ true
  have_room None h = refl
  have_room (Some n) h = grind (arith, nat_tests)

  -- links that were made one after the other are those of the command
  pub links_are : (names : List (List ℕ)) (old new : Variables) → AreLinked limits.items names old new → with_global_links limits names old ≡ Ok new
  links_are [] old new h = ap Ok (sym h)
  links_are (name ∷ names) old new (next, room, made, others) =
      ap (λ b. after (if b then value_or_fault (with_global_link old name) else Err OverLimit) (with_global_links limits names)) (have_room (grown_by_link old name) room)
      ∙ ap (λ r. after (value_or_fault r) (with_global_links limits names)) made
      ∙ links_are names next new others
