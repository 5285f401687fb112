use Rattle.std.proofs.Common.{◌≡◌, ◌++◌, [], ◌∷◌, subst}
use Rattle.std.proofs.lemmas.Result.{err_from_is_err_and}
use Rattle.tks_spelling.specs.Writing.{flattened}
use Rattle.tks_spelling.proofs.Puts.{put_refused, flattened_then, flattened_last, where_put}
use Rattle.tks_codec_variables.specs.Variables.{variables}
use Rattle.tks_state.specs.World.{windows_of}
use Rattle.tks_codec.specs.Counts.{counts}
use Rattle.tks_codec.specs.Happenings.{happenings}
use Rattle.tks_codec.specs.Windows.{windows}
use Rattle.tks_codec.specs.World.{counts_of, happenings_of, waits_parts}
use Rattle.tks_codec.proofs.OfWorlds.{fields_legal}
use Rattle.tks_codec.proofs.world.put_parts.Goals as goal

pub returns-in_err-put_happenings-clause-puts : goal.returns-in_err-put_happenings-clause-puts
returns-in_err-put_happenings-clause-puts c =
    let p = err_from_is_err_and c.from_residual-in_err-put_happenings.result c.from_residual-in_err-put_happenings.ensures.1 in
    let old = c.args.out.now.items in
    let first = c.put_counts.new.out.items in
    let second = c.put_windows.new.out.items in
    let third = c.put_variables.new.out.items in
    let new = c.put_happenings.new.out.items in
    rw p.1 (put_refused old _ first new c.in_ok-put_counts.ensures (
    put_refused first _ second new c.in_ok-put_windows.ensures.puts (
    put_refused second _ third new c.in_ok-put_variables.ensures.puts c.in_err-put_happenings.ensures.puts)))

pub returns-clause-puts : goal.returns-clause-puts
returns-clause-puts c =
    let w = c.args.world.now in
    let r = c.put_waits.result in
    let old = c.args.out.now.items in
    let first = c.put_counts.new.out.items in
    let second = c.put_windows.new.out.items in
    let third = c.put_variables.new.out.items in
    let fourth = c.put_happenings.new.out.items in
    let new = c.put_waits.new.out.items in
    let numbers = counts.write (counts_of w) in
    let all_windows = (windows w.tree.next).write (windows_of w) in
    let all_variables = variables.write w.variables in
    let happened = (happenings w.bindings.next).write (happenings_of w) in
    let last = flattened (waits_parts w) in
    flattened_then old first new numbers all_windows (all_variables ∷ happened ∷ last ∷ []) r (subst (λ x. first ≡ old ++ counts.write x) c.numbers_of.ensures c.in_ok-put_counts.ensures) (
    flattened_then first second new all_windows all_variables (happened ∷ last ∷ []) r c.in_ok-put_windows.ensures.puts (
    flattened_then second third new all_variables happened (last ∷ []) r (subst (λ v. third ≡ second ++ variables.write v) c.variables.ensures c.in_ok-put_variables.ensures.puts) (
    flattened_then third fourth new happened last [] r c.in_ok-put_happenings.ensures.puts (
    flattened_last r fourth new last c.put_waits.ensures.puts))))

pub returns-clause-legal : goal.returns-clause-legal
returns-clause-legal c =
    let w = c.args.world.now in
    let vs = subst (λ v. v.locals ≡ [] → variables.Legal v) c.variables.ensures c.in_ok-put_variables.ensures.legal in
    where_put c.put_waits.result (λ h. fields_legal w c.stands.ensures c.in_ok-put_windows.ensures.legal vs c.in_ok-put_happenings.ensures.legal h) c.put_waits.ensures.legal
