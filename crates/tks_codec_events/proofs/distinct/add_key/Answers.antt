use Rattle.std.proofs.Common.{◌≡◌, List, ℕ, ◌++◌, ◌||◌, ap, ◌∙◌}
use Rattle.tks_text.specs.Text.{same_text}
use Rattle.tks_codec_events.specs.Keys.{has_key}
use Rattle.tks_codec_events.proofs.Differing.{one_kept}
use Rattle.tks_codec_events.proofs.distinct.add_key.Goals as goal

pub returns-clause-kept : goal.returns-clause-kept
returns-clause-kept g c =
    λ k.
    let key = g.K.Key.bytes c.args.key.now c.args.member.now in
    let is : c.put.new.out.items ≡ key = c.in_ok-put.ensures.puts ∙ ap (λ (l : List ℕ). l ++ key) c.new-bytes.ensures.items in
    one_kept c.args.seen.now c.insert.new.self c.put.new.out c.in_ok-is_new.ensures.keys k ∙ ap (λ (l : List ℕ). same_text l k || has_key c.args.seen.now k) is
