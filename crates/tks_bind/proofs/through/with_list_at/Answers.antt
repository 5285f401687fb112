use Rattle.std.proofs.Common.{◌≡◌, if◌then◌else◌, ap, ◌∙◌}
use Rattle.tks_text.specs.Text.{same_text}
use Rattle.tks_bind.specs.Endings.{ending_seen}
use Rattle.tks_bind.specs.Groups.{items_in, map_in, Spot}
use Rattle.tks_bind.proofs.Grouping.{spot_put}
use Rattle.tks_bind.proofs.through.with_list_at.Goals as goal

pub returns : goal.returns
returns c =
    let m = c.args.groups.now in
    let e = ending_seen c.args.ending in
    let name = c.args.name.now in
    let list = c.args.list in
    let spot : Spot = record { ending = e; name = name } in
    let lists : c.in_ok-lists.lists ≡ map_in (map_in m e.kind) e.detail = c.in_ok-lists.ensures ∙ ap (λ d. map_in d e.detail) c.in_ok-details.ensures in
    spot_put m c.in_ok-groups.groups c.in_ok-details-2.details c.in_ok-lists-2.lists spot list
    (λ other.
    c.in_ok-lists-2.ensures other
    ∙ ap (λ n. if same_text other n then list else items_in c.in_ok-lists.lists other) c.as_bytes.ensures.value
    ∙ ap (λ l. if same_text other name then list else items_in l other) lists)
    (λ other. c.in_ok-details-2.ensures other ∙ ap (λ d. if same_text other e.detail then c.in_ok-lists-2.lists else map_in d other) c.in_ok-details.ensures)
    c.in_ok-groups.ensures
