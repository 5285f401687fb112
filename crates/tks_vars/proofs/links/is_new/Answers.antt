use Rattle.std.proofs.Common.{◌≡◌, true, false, None, sym, ap, ◌∙◌, rules}
use Rattle.std.specs.Prelude.{position}
use Rattle.std.specs.FinMap as map
use Rattle.tks_vars.specs.Names.{named, is_whole}
use Rattle.tks_vars.proofs.Firsts.{is, lacks}
use Rattle.tks_vars.proofs.Linked.{names_itself}
use Rattle.tks_vars.proofs.links.is_new.Goals as goal
use Rattle.tks_vars.proofs.links.is_new.Goals.{then-names_whole, else-names_whole}

pub returns-then-is_none : goal.returns-then-is_none
returns-then-is_none c other =
    let name = c.args.name.now in
    let first = c.args.first.now in
    elim c.if-names_whole.branch [
      | then-names_whole w ↦
          let nowhere : w.place.result ≡ None = search rules in
          let whole : is_whole (named name) ≡ true = search rules in
          let out : map.contains_key c.args.rest.now name ≡ false = search rules in
          record {
            is_whole = names_itself name whole;
            lacking = lacks name first (ap (λ k. position (is k) first) (sym w.as_bytes.ensures.value) ∙ sym w.place.ensures.value ∙ nowhere);
            absent = out;
          }
      | else-names_whole w ↦ absurd (search rules)
    ]
