use Rattle.std.proofs.Common.{◌-◌, drop, Some, Ok, sym, ap, ◌∙◌, arith}
use Rattle.std.specs.Prelude.{reverse}
use Rattle.std.proofs.lemmas.Bool.Decides.{nat_tests}
use Rattle.std.proofs.lemmas.Result.{err_from_is_err_and}
use Rattle.tks_vars.specs.Variables.{with_link}
use Rattle.tks_vars.proofs.Frames.{found_last, innermost_set, holding, links}
use Rattle.tks_vars.proofs.Changes.{about_after, about_failed, failed}
use Rattle.tks_vars.proofs.vars.Vars.link_global.Goals as goal

pub returns-clause-value : goal.returns-clause-value
returns-clause-value c =
    let items = c.self.inside.locals.items in
    let below = drop 1 (reverse items) in
    let frame = c.in-Some.frame in
    let here = found_last c.args.self.now c.self.inside.globals c.self.inside.procedures items c.len-top.result c.index_mut.result.now frame c.self.view_is (omega arith) (grind (arith, nat_tests)) (sym c.index_mut.ensures.value ∙ c.in-Some.is) in
    let all = holding c.self.inside.globals c.self.inside.procedures below in
    links c.self.inside.globals c.self.inside.procedures below c.args.self.now frame here.held c.args.name.now
    ∙ about_after c.args.name.now (with_link frame c.args.name.now) all c.link.new.frame c.in_ok-link.ensures.value
    ∙ ap (λ ls. Ok (record { globals = c.self.inside.globals; locals = ls; procedures = c.self.inside.procedures })) (sym (innermost_set items (c.len-top.result - 1) (Some c.link.new.frame) here.is_last))

pub returns-in_err-link-clause-value : goal.returns-in_err-link-clause-value
returns-in_err-link-clause-value c =
    let p = err_from_is_err_and c.from_residual.result c.from_residual.ensures.1 in
    let items = c.self.inside.locals.items in
    let below = drop 1 (reverse items) in
    let frame = c.in-Some.frame in
    let here = found_last c.args.self.now c.self.inside.globals c.self.inside.procedures items c.len-top.result c.index_mut.result.now frame c.self.view_is (omega arith) (grind (arith, nat_tests)) (sym c.index_mut.ensures.value ∙ c.in-Some.is) in
    let all = holding c.self.inside.globals c.self.inside.procedures below in
    rw (p.1, p.2) (failed {X = Unit {0}} {X' = Unit {0}} (λ _. frame) (λ _. c.args.self.now) c.in_err-link.field-0.0 _ _ (λ fault e.
    links c.self.inside.globals c.self.inside.procedures below c.args.self.now frame here.held c.args.name.now
    ∙ about_failed c.args.name.now (with_link frame c.args.name.now) all fault e) c.in_err-link.ensures.value)
