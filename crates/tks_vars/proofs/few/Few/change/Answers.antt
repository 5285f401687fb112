use Rattle.std.proofs.Common.{◌<◌, length, Some, sym, ap, subst, ◌∙◌}
use Rattle.std.specs.Prelude.{slice_get, slice_set}
use Rattle.std.proofs.lemmas.Option.{slice_get-get_or}
use Rattle.tks_vars.proofs.few.Few.change.Goals as goal

pub returns : goal.returns
returns g c =
    let place = c.args.place in
    let entry = c.index_mut-entry.result.now in
    record {
      name = entry.0;
      before = entry.1;
      after = c.change.new.value;
      found =
          ap (λ es. slice_get es place) (sym c.self.view_is)
          ∙ slice_get-get_or c.self.inside.entries.items place entry (subst (λ es. place < length es) (sym c.self.view_is) c.requires)
          ∙ ap Some (sym c.index_mut-entry.ensures.value);
      given = c.change.ensures;
      now = ap (λ es. slice_set es place (entry.0, c.change.new.value)) c.self.view_is;
    }
