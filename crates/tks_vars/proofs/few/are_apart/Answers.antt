use Rattle.std.proofs.Common.{◌≡◌, ◌∷◌, length, None, sym, ap, subst, ◌∙◌, rules, arith}
use Rattle.std.specs.Prelude.{position}
use Rattle.std.proofs.lemmas.List.{nil_from_length}
use Rattle.tks_vars.specs.Few.{AreApart}
use Rattle.tks_vars.proofs.Firsts.{is, lacks, none_apart, joined_apart}
use Rattle.tks_vars.proofs.few.are_apart.Goals as goal

pub loop-entry-preserved : goal.loop-entry-preserved
loop-entry-preserved c apart =
    let e = c.in-Some.entry.now in
    let behind = c.in-Some.behind.now in
    let rest : c.loop-entry.rest.now ≡ e ∷ behind = search rules in
    let nowhere : c.place_in.result ≡ None = search rules in
    let lacking = lacks e.0 behind (ap (λ k. position (is k) behind) (sym c.as_bytes.ensures.value) ∙ sym c.place_in.ensures.value ∙ nowhere) in
    c.loop-entry.invariant (subst AreApart (sym rest) (joined_apart e.0 e.1 behind lacking apart))

pub returns : goal.returns
returns c all =
    let none : length c.loop-entry.rest.now ≡ 0 = grind arith in
    c.loop-entry.invariant (subst AreApart (sym (nil_from_length c.loop-entry.rest.now none)) (none_apart _))
