use Rattle.std.proofs.Common.{rules, ◌≡◌, ◌∷◌, [], List, sym, ◌∙◌, subst}
use Rattle.std.proofs.lemmas.List.{nil_from_length}
use Rattle.tks_durable.specs.Calls.{Makes, well}
use Rattle.tks_durable.specs.declared.calls.Call.{Call}
use Rattle.tks_durable.proofs.OfCalls.{none_made, one_then}
use Rattle.tks_durable.proofs.calls.+make_calls.Goals as goal

pub returns-in_ok-make_call-in-Some-clause-makes : goal.returns-in_ok-make_call-in-Some-clause-makes
returns-in_ok-make_call-in-Some-clause-makes g t c = λ works h.
    let old = c.args.durable.now in
    let mid = c.make_call.new.durable in
    let new = c.make_calls.new.durable in
    let m = g.M.Machine.meaning old.machine in
    let all : c.args.calls.now ≡ c.in-Some.call.now ∷ c.in-Some.others.now = search rules in
    let first : Makes m g.D.Disk.failures g.D.Disk.view (c.in-Some.call.now ∷ []) old mid well =
    subst (λ r. Makes m g.D.Disk.failures g.D.Disk.view (c.in-Some.call.now ∷ []) old mid r) c.in_ok-make_call-in-Some.was (c.make_call.ensures.makes works h) in
    let others = c.make_calls.ensures.makes (c.in_ok-make_call-in-Some.ensures.working ∙ works) (c.make_call.ensures.honesty.0 h) in
    subst (λ (calls : List Call). Makes m g.D.Disk.failures g.D.Disk.view calls old new c.make_calls.result) (sym all)
    (one_then m g.D.Disk.failures g.D.Disk.view c.in-Some.call.now c.in-Some.others.now old mid new c.make_calls.result first
    (subst (λ machine. Makes (g.M.Machine.meaning machine) g.D.Disk.failures g.D.Disk.view c.in-Some.others.now mid new c.make_calls.result) c.make_call.ensures.machine others))

pub returns-in-None-clause-makes : goal.returns-in-None-clause-makes
returns-in-None-clause-makes g t c = λ works h.
    let old = c.args.durable.now in
    let m = g.M.Machine.meaning old.machine in
    let none : c.args.calls.now ≡ [] = nil_from_length _ c.in-None.ensures.cases in
    subst (λ (calls : List Call). Makes m g.D.Disk.failures g.D.Disk.view calls old old well) (sym none)
    (none_made m g.D.Disk.failures g.D.Disk.view old (c.stands.ensures.images works h) (λ i left. g.met.D.Disk.only_now old.journal.disk i h left))
