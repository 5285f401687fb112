use Rattle.std.proofs.Common.{rules, ◌≡◌, ◌==◌, true, not, sym, ◌∙◌, ◌≤◌, ◌+◌, ◌^◌, ap, subst, arith}
use Rattle.std.specs.List.{list_all}
use Rattle.tks_bind.specs.Binding.{Content, placed}
use Rattle.tks_bind.specs.Groups.{Groups}
use Rattle.tks_bind.specs.Indexes.{index_of}
use Rattle.tks_bind.specs.Places.{numbers_of, put_at}
use Rattle.tks_bind.specs.declared.binding.Binding.{Binding}
use Rattle.tks_bind.proofs.Forming.{set_differ, set_latest}
use Rattle.tks_bind.proofs.Numbering.{numbers_placed, next_is_new}
use Rattle.tks_bind.proofs.bindings.Bindings.set.Goals as goal

pub put-requires : goal.put-requires
put-requires c =
    subst (λ ns. list_all (λ n. not (n == c.self.inside.next)) ns ≡ true) (sym c.self.invariant.places)
    (next_is_new c.self.inside.next c.self.inside.bindings c.self.invariant.bindings.bindings)

pub invariant_of-self-2 : goal.invariant_of-self-2
invariant_of-self-2 c =
    let b : Binding = record { number = c.self.inside.next; tag = c.args.tag; sequence = c.args.sequence; script = c.args.script } in
    let same = ap (λ (v : Content). v.next) c.self.view_is in
    let within : c.self.inside.next + 1 ≤ 2 ^ 62 = omega (arith, same, c.requires) in
    let bindings : c.place.new.bindings ≡ placed b c.self.inside.bindings = search rules in
    let held : c.in_ok-binding.binding ≡ b = search rules in
    let at : c.index_of-index.result ≡ index_of c.args.tag c.args.sequence c.self.inside.bindings =
    c.index_of-index.ensures ∙ ap (λ (v : Content). index_of c.args.tag c.args.sequence v.bindings) (sym c.self.view_is) in
    rw bindings (record {
      bindings = record { next = within; bindings = set_differ b c.self.inside.bindings c.self.invariant.bindings.bindings };
      tags = subst (λ x. Groups c.in_ok-tags.tags (placed x c.self.inside.bindings)) held (c.in_ok-tags.ensures c.self.inside.bindings c.self.invariant.tags);
      places =
          c.in_ok-put.ensures.ok
          ∙ ap (put_at c.index_of-index.result c.self.inside.next) c.self.invariant.places
          ∙ ap (λ n. put_at n c.self.inside.next (numbers_of c.self.inside.bindings)) at
          ∙ sym (numbers_placed b c.self.inside.bindings);
    })

pub returns-clause-latest : goal.returns-clause-latest
returns-clause-latest c =
    let b : Binding = record { number = c.self.inside.next; tag = c.args.tag; sequence = c.args.sequence; script = c.args.script } in
    let bindings : c.place.new.bindings ≡ placed b c.self.inside.bindings = search rules in
    rw (bindings, ← c.self.view_is) (set_latest b c.self.inside.bindings c.self.invariant.bindings.bindings)
