use Rattle.std.proofs.Common.{◌<◌, ◌^◌, ◌++◌, ℕ, List, ◌≡◌, ◌∷◌, None, drop, length, sym, ap, subst, ◌∙◌, arith, take-append-drop}
use Rattle.std.specs.Prelude.{map}
use Rattle.std.specs.Int.{w64, to_be_bytes}
use Rattle.std.specs.List.{AllByRecursion}
use Rattle.std.proofs.lemmas.Result.{err_from_is_err_and}
use Rattle.tks_pack.specs.declared.packing.Content.{Content}
use Rattle.tks_spelling.specs.Spelling.{members, number}
use Rattle.tks_spelling.proofs.Loop.{one_given, stays_there}
use Rattle.tks_spelling.proofs.Puts.{put_refused}
use Rattle.tks_codec_windows.proofs.contents.put_each.Goals as goal

pub returns-in_err-put_u64-clause-puts : goal.returns-in_err-put_u64-clause-puts
returns-in_err-put_u64-clause-puts c =
    let p = err_from_is_err_and c.from_residual.result c.from_residual.ensures.1 in
    let old = c.args.out.now.items in
    let mid = c.loop-content.out.items in
    let whole = sym (take-append-drop (length old) mid) ∙ ap (λ (w : List ℕ). w ++ drop (length old) mid) c.loop-content.invariant.there in
    rw p.1 (put_refused old (drop (length old) mid) mid c.put_u64.new.out.items whole c.in_err-put_u64.ensures)

pub loop-content-preserved : goal.loop-content-preserved
loop-content-preserved c =
    let s = number w64 in
    let window = λ (c : Content). c.window in
    let old = c.args.out.now.items in
    let now = c.loop-content.out.items in
    let new = c.put_u64.new.out.items in
    let x = c.in-Some.content.now.window in
    let rest = map window c.next.new.self in
    let is : map window c.loop-content.content-iterator ≡ x ∷ rest = ap (map window) c.in-Some.ensures.steps in
    let small : x < 2 ^ 64 = omega (arith, c.number.type_inv, c.number.ensures) in
    let puts : new ≡ now ++ s.write x = c.in_ok-put_u64.ensures ∙ ap (λ n. now ++ to_be_bytes w64 n) c.number.ensures in
    record {
      there = stays_there old now (s.write x) new c.loop-content.invariant.there puts;
      all = one_given s now new (old ++ members (λ before. s) None (map window c.args.contents)) (map window c.loop-content.content-iterator) x rest is puts c.loop-content.invariant.all;
      legal = λ h. c.loop-content.invariant.legal (subst (AllByRecursion s.Legal) (sym is) (small, h));
    }
