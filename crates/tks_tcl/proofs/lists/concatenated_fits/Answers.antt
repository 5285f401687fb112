use Rattle.std.proofs.Common.{◌≡◌, ◌+◌, ◌<◌, ◌≤◌, nat_le, true, false, ◌∷◌, length, drop, ap, sym, ◌∙◌, arith}
use Rattle.std.proofs.lemmas.Bool.Decides.{nat_tests}
use Rattle.std.proofs.lemmas.List.{drop_more, drop_all}
use Rattle.tks_tcl.specs.Lists.{trimmed}
use Rattle.tks_tcl.specs.Room.{room_of}
use Rattle.tks_tcl.proofs.Lengths.{kept, kept_some, concatenated_room}
use Rattle.tks_tcl.proofs.lists.concatenated_fits.Goals as goal

pub returns-then-len-left : goal.returns-then-len-left
returns-then-len-left c =
    let words = c.args.words.now in
    let limits = c.args.limits.now in
    let index = c.loop-word.word-index in
    let word = c.word-item.result in
    let is : c.trimmed-len.result.now ≡ trimmed word = c.trimmed-len.ensures.value in
    let long : 0 < length (trimmed word) = rw is at c.if-len-gt0.true in
    let more : c.loop-word.left ≤ length (trimmed word) = rw is at c.if-len-left.true in
    let here : drop index words ≡ word ∷ drop (index + 1) words = drop_more words index word c.loop-word-test.true ∙ ap (λ w. w ∷ drop (index + 1) words) (sym c.word-item.is) in
    let rest : room_of 1 (kept (drop index words)) ≡ length (trimmed word) + 1 + room_of 1 (kept (drop (index + 1) words)) = ap (λ ws. room_of 1 (kept ws)) here ∙ kept_some word (drop (index + 1) words) long in
    let all = c.loop-word.invariant in
    let over : limits.text + 1 < room_of 1 (kept words) = omega (arith, more, rest, all) in
    let no : nat_le (room_of 1 (kept words)) (limits.text + 1) ≡ false = grind (arith, nat_tests) in
    sym (sym (concatenated_room limits words) ∙ no)

pub returns : goal.returns
returns c =
    let words = c.args.words.now in
    let limits = c.args.limits.now in
    let all = c.loop-word.invariant in
    let end : room_of 1 (kept (drop c.loop-word.word-index words)) ≡ 0 = ap (λ ws. room_of 1 (kept ws)) (drop_all c.loop-word.word-index words c.loop-word-test.false) in
    let within : room_of 1 (kept words) < limits.text + 1 + 1 = omega (arith, all, end) in
    let yes : nat_le (room_of 1 (kept words)) (limits.text + 1) ≡ true = grind (arith, nat_tests) in
    sym (sym (concatenated_room limits words) ∙ yes)
