use Rattle.std.proofs.Common.{◌≡◌, ◌+◌, ◌<◌, ◌∷◌, [], ◌++◌, drop, length, take, Ok, sym, ap, subst, ◌∙◌, arith, rules}
use Rattle.std.specs.FinMap as map
use Rattle.std.proofs.lemmas.Grind.{common_steps}
use Rattle.tks_vars.specs.Few.{put_behind}
use Rattle.tks_vars.specs.Links.{IsNew, IsLinked}
use Rattle.tks_vars.specs.declared.content.Local.TheVariants.{Link}
use Rattle.tks_vars.proofs.Linked.{link_joins, link_counts, front_stays}
use Rattle.tks_vars.proofs.links.add_each.Goals as goal

pub loop-name-preserved : goal.loop-name-preserved
loop-name-preserved c =
    let most = c.args.most in
    let rest = c.args.rest.now in
    let first = c.loop-name.first in
    let name = c.name-item.result in
    let new : IsNew name first rest = search rules in
    let left : drop c.loop-name.name-index c.args.names.now ≡ name ∷ drop (c.loop-name.name-index + 1) c.args.names.now = grind (arith, common_steps) in
    let room : map.len (put_behind rest first) < most = omega (arith, c.loop-name.invariant.1) in
    let pushed : c.push.new.self ≡ first ++ (name, Link) ∷ [] = c.in_ok-push.ensures.ok ∙ ap (λ n. first ++ (n, Link) ∷ []) c.in_ok-try_clone.ensures in
    let made = link_joins rest first name new ∙ ap (λ es. Ok (put_behind rest es)) (sym pushed) in (
      λ frame linked. c.loop-name.invariant.0 frame (subst (λ names. IsLinked most names (put_behind rest first) frame) (sym left) (put_behind rest c.push.new.self, room, made, linked)),
      ap (λ n. n + 1) c.loop-name.invariant.1 ∙ link_counts rest first name new ∙ ap (λ es. map.len (put_behind rest es)) (sym pushed),
      ap (take (length c.args.first.now)) pushed ∙ front_stays c.args.first.now first (name, Link) c.loop-name.invariant.2,
    )
