use Rattle.std.proofs.Common.{rules, ℕ, Bool, true, false, ◌+◌, ◌<◌, ◌^◌, cond, arith, subst, sym, ap, ◌∙◌}
use Rattle.std.specs.Cmp.Lexicographic.{nat_list_cmp_total}
use Rattle.std.specs.FinMap as fin
use Rattle.tks_share.proofs.Mapped.{counted}
use Rattle.tks_share.proofs.map.SharedMap.has_room.Goals as goal

one_more : (b : Bool) (n : ℕ) → n < 4294967295 → cond b n (n + 1) < 2 ^ 32
one_more true n few = omega (arith, few)
one_more false n few = omega (arith, few)

pub returns-then-self-lt-MAX_LEN : goal.returns-then-self-lt-MAX_LEN
returns-then-self-lt-MAX_LEN g c = λ few value.
    let m = c.args.self.now in
    let many = c.self.invariant.1 ∙ sym (counted c.self.inside.tree m c.self.view_is c.self.invariant.0) in
    let fewer : c.self.inside.len < 4294967295 = search rules in
    subst (λ n. n < 2 ^ 32) (sym (fin.len-insert nat_list_cmp_total m c.args.name.now value)) (one_more _ _ (subst (λ n. n < 4294967295) many fewer))

pub returns-else-self-lt-MAX_LEN : goal.returns-else-self-lt-MAX_LEN
returns-else-self-lt-MAX_LEN g c = λ there value.
    let m = c.args.self.now in
    let many = counted c.self.inside.tree m c.self.view_is c.self.invariant.0 in
    let same = fin.len-insert nat_list_cmp_total m c.args.name.now value ∙ ap (λ b. cond b (fin.len m) (fin.len m + 1)) (sym c.contains.ensures ∙ there) in
    subst (λ n. n < 2 ^ 32) (sym (same ∙ many)) c.self.invariant.2
