use Rattle.std.proofs.Common.{rules, ◌≡◌, length, sym, subst, ap, ◌∙◌, true≢false, arith}
use Rattle.std.specs.Map.{keys_of}
use Rattle.tks_app.specs.Applications.{AreNames, has, place_for}
use Rattle.tks_app.proofs.Joining.{joined, longer}
use Rattle.tks_app.proofs.Keyed.{keys_length, found_there, entered}
use Rattle.tks_app.proofs.apps.Apps.put.Goals as goal

pub shift_insert-requires-clause-in_bounds : goal.shift_insert-requires-clause-in_bounds
shift_insert-requires-clause-in_bounds g c = omega (arith, c.place_for-place.ensures.bound, ap length c.self.view_is, keys_length c.self.inside.commands)

pub shift_insert-requires-clause-below_len : goal.shift_insert-requires-clause-below_len
shift_insert-requires-clause-below_len g c there =
    let named : c.in-Ok.name ≡ c.args.command.name = search rules in
    let new = (rw (← c.self.view_is) at c.requires.joins) in
    absurd (true≢false (sym there ∙ found_there c.in-Ok.name c.self.inside.commands.entries ∙ ap (has (keys_of c.self.inside.commands.entries)) named ∙ new.1))

pub invariant_of-self-2 : goal.invariant_of-self-2
invariant_of-self-2 g c =
    let es = c.self.inside.commands.entries in
    let command = c.args.command in
    let named : c.in-Ok.name ≡ command.name = search rules in
    let place_is = (rw (← c.self.view_is) at c.place_for-place.ensures.place) ∙ ap (λ n. place_for n (keys_of es)) c.name.ensures in
    let joins = (rw (← c.self.view_is) at c.requires.joins) in
    let both = entered es c.shift_insert.new.self.entries command c.in-Ok.name c.place_for-place.result named place_is joins.1 c.self.invariant.2 c.in_default-shift_insert.ensures.entries in
    (subst AreNames (sym both.0) (joined (keys_of es) command.name c.self.invariant.0 joins), omega (arith, ap length both.0, longer command.name (keys_of es), ap length c.self.view_is, c.requires.room), both.1)

pub returns-clause-ok : goal.returns-clause-ok
returns-clause-ok g c =
    let es = c.self.inside.commands.entries in
    let command = c.args.command in
    let named : c.in-Ok.name ≡ command.name = search rules in
    let place_is = (rw (← c.self.view_is) at c.place_for-place.ensures.place) ∙ ap (λ n. place_for n (keys_of es)) c.name.ensures in
    let joins = (rw (← c.self.view_is) at c.requires.joins) in
    let both = entered es c.shift_insert.new.self.entries command c.in-Ok.name c.place_for-place.result named place_is joins.1 c.self.invariant.2 c.in_default-shift_insert.ensures.entries in
    rw (← c.self.view_is) both.0
