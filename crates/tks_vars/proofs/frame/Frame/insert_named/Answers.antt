use Rattle.std.proofs.Common.{◌+◌, sym, if◌then◌else◌, ap, ◌∙◌}
use Rattle.std.specs.FinMap as map
use Rattle.tks_vars.specs.Few.{put_behind}
use Rattle.tks_vars.proofs.Firsts.{looked_up, set_at, lacks, len_at, len_behind}
use Rattle.tks_vars.proofs.frame.Frame.insert_named.Goals as goal

pub invariant_of-self : goal.invariant_of-self
invariant_of-self c =
    let name = c.args.name in
    let rest = c.self.inside.rest in
    let first = c.self.inside.first in
    let at = looked_up name c.as_bytes.result.now first c.place.result c.as_bytes.ensures.value c.place.ensures.value ∙ c.in-Some.is in
    c.self.invariant ∙ len_at name rest c.args.value first c.in-Some.place at
    ∙ ap map.len (sym (ap (put_behind rest) c.set.ensures ∙ set_at name rest c.args.value first c.in-Some.place at))

pub add-requires : goal.add-requires
add-requires c =
    let at = looked_up c.args.name c.as_bytes.result.now c.self.inside.first c.place.result c.as_bytes.ensures.value c.place.ensures.value in
    lacks c.args.name c.self.inside.first (at ∙ c.in-None.is)

pub invariant_of-self-in-None : goal.invariant_of-self-in-None
invariant_of-self-in-None c =
    let name = c.args.name in
    let rest = c.self.inside.rest in
    let first = c.self.inside.first in
    let at = looked_up name c.as_bytes.result.now first c.place.result c.as_bytes.ensures.value c.place.ensures.value in
    c.in_ok-len-in-None.ensures
    ∙ ap (λ q. if map.contains_key rest q then c.self.inside.len else c.self.inside.len + 1) c.as_bytes-in-None.ensures.value
    ∙ ap (λ n. if map.contains_key rest name then n else n + 1) c.self.invariant
    ∙ len_behind name rest c.args.value first (lacks name first (at ∙ c.in-None.is)) ∙ ap map.len (sym c.in_ok-add-in-None.ensures.ok)

pub returns-in-Some-clause-ok : goal.returns-in-Some-clause-ok
returns-in-Some-clause-ok c =
    let name = c.args.name in
    let rest = c.self.inside.rest in
    let first = c.self.inside.first in
    let at = looked_up name c.as_bytes.result.now first c.place.result c.as_bytes.ensures.value c.place.ensures.value in
    ap (put_behind rest) c.set.ensures
    ∙ set_at name rest c.args.value first c.in-Some.place (at ∙ c.in-Some.is) ∙ ap (λ m. map.insert m name c.args.value) c.self.view_is
