use Rattle.std.proofs.Common.{◌≡◌, ℕ, ◌+◌, ◌-◌, ◌<◌, ◌≤◌, ◌^◌, ◌++◌, List, Bool, true, false, None, map, length, drop, take, replicate, sym, ap, ◌∙◌, subst, arith}
use Rattle.tks_lines.specs.declared.range.Range.{Range}
use Rattle.tks_lines.specs.Ranges.{AreRanges, ending_before, beginning_up_to, begin_of, end_of, untagged, moved, unless_empty, flags_of}
use Rattle.tks_lines.proofs.Ends.{flags_long}
use Rattle.tks_lines.proofs.Apart.{begins_rise, ends_rise}
use Rattle.tks_lines.proofs.Replaced.{Put, put, near_of, put_for, two_of, all_for, small_end}
use Rattle.tks_lines.proofs.flag_list.Flags.replace.Goals as goal

pub ending_before-from-requires : goal.ending_before-from-requires
ending_before-from-requires c = rw c.as_slice-ranges.ensures.value (ends_rise c.self.inside.len c.self.inside.ranges.items c.self.invariant.0)

pub beginning_up_to-to-requires : goal.beginning_up_to-to-requires
beginning_up_to-to-requires c = rw c.as_slice-ranges.ensures.value (begins_rise c.self.inside.len c.self.inside.ranges.items c.self.invariant.0)

-- what is known of all that was found
known : (len first last count : ℕ) (value : Bool) (on : List Bool) (ranges : List Range) → flags_of len ranges ≡ on → AreRanges len None ranges × (len ≤ 4294967295) → (first ≤ last) × (last ≤ length on)
    → Put len first last count value ranges × (last ≤ len) × (len ≡ length on)
known len first last count value on ranges is h inside =
    let long : len ≡ length on = sym (flags_long len ranges h.0) ∙ ap length is in
    let below : last ≤ len = omega (arith, inside.1) in
    (put len first last count value ranges inside.0 below h.0, below, long)

pub begin_between-begin-requires : goal.begin_between-begin-requires
begin_between-begin-requires c =
    let ranges = c.self.inside.ranges.items in
    let k = known c.self.inside.len c.args.first c.args.last c.args.count c.args.value c.args.self.now ranges c.self.view_is c.self.invariant c.requires.inside in
    let from = c.ending_before-from.ensures.value ∙ ap (ending_before c.args.first) c.as_slice-ranges.ensures.value in
    let to = c.beginning_up_to-to.ensures.value ∙ ap (beginning_up_to c.args.last) c.as_slice-ranges.ensures.value in
    (omega (arith, from, to, k.0.order), c.beginning_up_to-to.ensures.bound)

pub end_between-requires : goal.end_between-requires
end_between-requires c =
    let ranges = c.self.inside.ranges.items in
    let k = known c.self.inside.len c.args.first c.args.last c.args.count c.args.value c.args.self.now ranges c.self.view_is c.self.invariant c.requires.inside in
    let from = c.ending_before-from.ensures.value ∙ ap (ending_before c.args.first) c.as_slice-ranges.ensures.value in
    let to = c.beginning_up_to-to.ensures.value ∙ ap (beginning_up_to c.args.last) c.as_slice-ranges.ensures.value in
    (omega (arith, from, to, k.0.order), c.beginning_up_to-to.ensures.bound)

-- those between the indices that were found
near_is : (i j first last : ℕ) (found ranges : List Range) → found ≡ ranges → i ≡ ending_before first found → j ≡ beginning_up_to last found → take (j - i) (drop i found) ≡ near_of first last ranges
near_is i j first last found ranges same e f =
    ap (λ n. take (j - n) (drop n found)) e ∙ ap (λ n. take (n - ending_before first found) (drop (ending_before first found) found)) f ∙ ap (near_of first last) same

pub overflow_add-end : goal.overflow_add-end
overflow_add-end c =
    let ranges = c.self.inside.ranges.items in
    let k = known c.self.inside.len c.args.first c.args.last c.args.count c.args.value c.args.self.now ranges c.self.view_is c.self.invariant c.requires.inside in
    let near = near_is c.ending_before-from.result c.beginning_up_to-to.result c.args.first c.args.last c.as_slice-ranges.result.now ranges c.as_slice-ranges.ensures.value c.ending_before-from.ensures.value c.beginning_up_to-to.ensures.value in
    let end = c.end_between.ensures ∙ ap (λ rs. end_of rs c.args.last) near in
    let long : length c.args.self.now ≡ c.self.inside.len = sym k.2 in
    let short : c.args.count ≤ c.args.last - c.args.first + (4294967295 - c.self.inside.len) = omega (arith, c.requires.short, long) in
    let small = small_end (end_of (near_of c.args.first c.args.last ranges) c.args.last) c.args.last c.args.first c.args.count c.self.inside.len k.0.inside k.0.bound c.self.invariant.1 short c.requires.inside.0 in
    omega (arith, end, small)

-- the two that are put
two_is : (begin end first last count : ℕ) (value : Bool) (at : ℕ × ℕ) (ranges : List Range) → begin ≡ begin_of (near_of first last ranges) first → end ≡ end_of (near_of first last ranges) last → at ≡ untagged first (first + count) (end - last + (first + count)) value
    → two_of begin (end - last + (first + count)) at ≡ put_for first last count value ranges
two_is begin end first last count value at ranges e f g =
    ap (two_of begin (end - last + (first + count))) g
    ∙ ap (λ n. two_of n (end - last + (first + count)) (untagged first (first + count) (end - last + (first + count)) value)) e
    ∙ ap (λ n. two_of (begin_of (near_of first last ranges) first) (n - last + (first + count)) (untagged first (first + count) (n - last + (first + count)) value)) f

all_is : (i j first last count : ℕ) (value : Bool) (two new ranges : List Range) → i ≡ ending_before first ranges → j ≡ beginning_up_to last ranges → two ≡ put_for first last count value ranges
    → new ≡ take i ranges ++ (unless_empty two ++ map (moved last (first + count)) (drop j ranges)) → new ≡ all_for first last count value ranges
all_is i j first last count value two new ranges e f g h =
    let moves = map (moved last (first + count)) in
    h
    ∙ ap (λ n. take n ranges ++ (unless_empty two ++ moves (drop j ranges))) e
    ∙ ap (λ n. take (ending_before first ranges) ranges ++ (unless_empty two ++ moves (drop n ranges))) f
    ∙ ap (λ rs. take (ending_before first ranges) ranges ++ (unless_empty rs ++ moves (drop (beginning_up_to last ranges) ranges))) g

pub put_and_move-requires-clause-inside : goal.put_and_move-requires-clause-inside
put_and_move-requires-clause-inside c =
    let ranges = c.self.inside.ranges.items in
    let k = known c.self.inside.len c.args.first c.args.last c.args.count c.args.value c.args.self.now ranges c.self.view_is c.self.invariant c.requires.inside in
    let from = c.ending_before-from.ensures.value ∙ ap (ending_before c.args.first) c.as_slice-ranges.ensures.value in
    let to = c.beginning_up_to-to.ensures.value ∙ ap (beginning_up_to c.args.last) c.as_slice-ranges.ensures.value in
    (omega (arith, from, to, k.0.order), omega (arith, c.beginning_up_to-to.ensures.bound, ap length c.as_slice-ranges.ensures.value))

pub put_and_move-requires-clause-fewer : goal.put_and_move-requires-clause-fewer
put_and_move-requires-clause-fewer c =
    let ranges = c.self.inside.ranges.items in
    let found = c.as_slice-ranges.result.now in
    let k = known c.self.inside.len c.args.first c.args.last c.args.count c.args.value c.args.self.now ranges c.self.view_is c.self.invariant c.requires.inside in
    let from = c.ending_before-from.ensures.value ∙ ap (ending_before c.args.first) c.as_slice-ranges.ensures.value in
    let to = c.beginning_up_to-to.ensures.value ∙ ap (beginning_up_to c.args.last) c.as_slice-ranges.ensures.value in
    let near = near_is c.ending_before-from.result c.beginning_up_to-to.result c.args.first c.args.last found ranges c.as_slice-ranges.ensures.value c.ending_before-from.ensures.value c.beginning_up_to-to.ensures.value in
    let begin = c.begin_between-begin.ensures ∙ ap (λ rs. begin_of rs c.args.first) near in
    let end = c.end_between.ensures ∙ ap (λ rs. end_of rs c.args.last) near in
    let two = two_is c.begin_between-begin.result c.end_between.result c.args.first c.args.last c.args.count c.args.value c.untagged-head.result ranges begin end c.untagged-head.ensures in
    omega (arith, from, to, ap (λ rs. length (unless_empty rs)) two, k.0.one)

pub put_and_move-requires-clause-small : goal.put_and_move-requires-clause-small
put_and_move-requires-clause-small c =
    let ranges = c.self.inside.ranges.items in
    let k = known c.self.inside.len c.args.first c.args.last c.args.count c.args.value c.args.self.now ranges c.self.view_is c.self.invariant c.requires.inside in
    let to = c.beginning_up_to-to.ensures.value ∙ ap (beginning_up_to c.args.last) c.as_slice-ranges.ensures.value in
    let long : length c.args.self.now ≡ c.self.inside.len = sym k.2 in
    let few : c.self.inside.len + (c.args.first + c.args.count) < 2 ^ 63 = omega (arith, c.requires.short, long, c.self.invariant.1, c.requires.inside.0, k.1) in
    rw to (k.0.small few)

pub returns-in_err-put_and_move-clause-fits : goal.returns-in_err-put_and_move-clause-fits
returns-in_err-put_and_move-clause-fits c =
    let ranges = c.self.inside.ranges.items in
    let found = c.as_slice-ranges.result.now in
    let k = known c.self.inside.len c.args.first c.args.last c.args.count c.args.value c.args.self.now ranges c.self.view_is c.self.invariant c.requires.inside in
    let from = c.ending_before-from.ensures.value ∙ ap (ending_before c.args.first) c.as_slice-ranges.ensures.value in
    let to = c.beginning_up_to-to.ensures.value ∙ ap (beginning_up_to c.args.last) c.as_slice-ranges.ensures.value in
    let near = near_is c.ending_before-from.result c.beginning_up_to-to.result c.args.first c.args.last found ranges c.as_slice-ranges.ensures.value c.ending_before-from.ensures.value c.beginning_up_to-to.ensures.value in
    let begin = c.begin_between-begin.ensures ∙ ap (λ rs. begin_of rs c.args.first) near in
    let end = c.end_between.ensures ∙ ap (λ rs. end_of rs c.args.last) near in
    let two = two_is c.begin_between-begin.result c.end_between.result c.args.first c.args.last c.args.count c.args.value c.untagged-head.result ranges begin end c.untagged-head.ensures in
    λ z. let no : false ≡ true = c.in_err-put_and_move.ensures.fits (omega (arith, from, to, ap (λ rs. length (unless_empty rs)) two, k.0.none z)) in absurd cc

pub overflow_sub-self : goal.overflow_sub-self
overflow_sub-self c =
    let k = known c.self.inside.len c.args.first c.args.last c.args.count c.args.value c.args.self.now c.self.inside.ranges.items c.self.view_is c.self.invariant c.requires.inside in
    k.1

pub invariant_of-self-2 : goal.invariant_of-self-2
invariant_of-self-2 c =
    let ranges = c.self.inside.ranges.items in
    let found = c.as_slice-ranges.result.now in
    let len2 = c.self.inside.len - c.args.last + (c.args.first + c.args.count) in
    let k = known c.self.inside.len c.args.first c.args.last c.args.count c.args.value c.args.self.now ranges c.self.view_is c.self.invariant c.requires.inside in
    let from = c.ending_before-from.ensures.value ∙ ap (ending_before c.args.first) c.as_slice-ranges.ensures.value in
    let to = c.beginning_up_to-to.ensures.value ∙ ap (beginning_up_to c.args.last) c.as_slice-ranges.ensures.value in
    let near = near_is c.ending_before-from.result c.beginning_up_to-to.result c.args.first c.args.last found ranges c.as_slice-ranges.ensures.value c.ending_before-from.ensures.value c.beginning_up_to-to.ensures.value in
    let begin = c.begin_between-begin.ensures ∙ ap (λ rs. begin_of rs c.args.first) near in
    let end = c.end_between.ensures ∙ ap (λ rs. end_of rs c.args.last) near in
    let two = two_is c.begin_between-begin.result c.end_between.result c.args.first c.args.last c.args.count c.args.value c.untagged-head.result ranges begin end c.untagged-head.ensures in
    let all = all_is c.ending_before-from.result c.beginning_up_to-to.result c.args.first c.args.last c.args.count c.args.value (two_of c.begin_between-begin.result (c.end_between.result - c.args.last + (c.args.first + c.args.count)) c.untagged-head.result) c.put_and_move.new.ranges.items ranges from to two c.in_ok-put_and_move.ensures.ok in
    let long : length c.args.self.now ≡ c.self.inside.len = sym k.2 in
    (subst (AreRanges len2 None) (sym all) k.0.all.are, omega (arith, c.requires.short, long, c.self.invariant.1, c.requires.inside.0, k.1))

pub returns-clause-ok : goal.returns-clause-ok
returns-clause-ok c =
    let ranges = c.self.inside.ranges.items in
    let found = c.as_slice-ranges.result.now in
    let len2 = c.self.inside.len - c.args.last + (c.args.first + c.args.count) in
    let k = known c.self.inside.len c.args.first c.args.last c.args.count c.args.value c.args.self.now ranges c.self.view_is c.self.invariant c.requires.inside in
    let from = c.ending_before-from.ensures.value ∙ ap (ending_before c.args.first) c.as_slice-ranges.ensures.value in
    let to = c.beginning_up_to-to.ensures.value ∙ ap (beginning_up_to c.args.last) c.as_slice-ranges.ensures.value in
    let near = near_is c.ending_before-from.result c.beginning_up_to-to.result c.args.first c.args.last found ranges c.as_slice-ranges.ensures.value c.ending_before-from.ensures.value c.beginning_up_to-to.ensures.value in
    let begin = c.begin_between-begin.ensures ∙ ap (λ rs. begin_of rs c.args.first) near in
    let end = c.end_between.ensures ∙ ap (λ rs. end_of rs c.args.last) near in
    let two = two_is c.begin_between-begin.result c.end_between.result c.args.first c.args.last c.args.count c.args.value c.untagged-head.result ranges begin end c.untagged-head.ensures in
    let all = all_is c.ending_before-from.result c.beginning_up_to-to.result c.args.first c.args.last c.args.count c.args.value (two_of c.begin_between-begin.result (c.end_between.result - c.args.last + (c.args.first + c.args.count)) c.untagged-head.result) c.put_and_move.new.ranges.items ranges from to two c.in_ok-put_and_move.ensures.ok in
    ap (flags_of len2) all
    ∙ k.0.all.flags
    ∙ ap (λ (on : List Bool). take c.args.first on ++ (replicate c.args.count c.args.value ++ drop c.args.last on)) c.self.view_is
