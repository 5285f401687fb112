use Rattle.std.proofs.Common.{◌≡◌, ◌-◌, true, None, is_some, sym, ◌∙◌, arith, rules}
use Rattle.std.specs.Prelude.{reverse}
use Rattle.tks_vars.specs.Variables.{innermost}
use Rattle.tks_vars.proofs.Frames.{found_last}
use Rattle.tks_vars.proofs.Linked.{last_linked, none_linked, some_frame}
use Rattle.tks_vars.proofs.vars.Vars.link_new.Goals as goal

pub returns-then-is_none-clause-made : goal.returns-then-is_none-clause-made
returns-then-is_none-clause-made c done =
    let top : innermost c.args.self.now.locals ≡ None = search rules in
    none_linked c.args.most c.args.names.now c.args.self.now top

pub returns-clause-made : goal.returns-clause-made
returns-clause-made c done =
    let items = c.self.inside.locals.items in
    let globals = c.self.inside.globals in
    let procedures = c.self.inside.procedures in
    let frame = c.in-Some.frame in
    let begun : is_some (innermost (reverse items)) ≡ true = search rules in
    let here = found_last c.args.self.now globals procedures items c.len-top.result c.index_mut.result.now frame c.self.view_is (omega arith) (some_frame items begun) (sym c.index_mut.ensures.value ∙ c.in-Some.is) in
    last_linked c.args.most globals procedures items (c.len-top.result - 1) c.args.names.now c.args.self.now frame c.link_new.new.self here (c.in_ok-made.ensures.made done)
