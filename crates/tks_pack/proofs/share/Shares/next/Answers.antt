use Rattle.std.proofs.Common.{◌<◌, length, sym, ◌∙◌, rules, arith}
use Rattle.tks_pack.proofs.Ready.{in_notes, less_read, first_counts, goes_later, passes, is_share, ready_behind}
use Rattle.tks_pack.proofs.share.Shares.next.Goals as goal

pub returns-then-not-takes_share-clause-ready : goal.returns-then-not-takes_share-clause-ready
returns-then-not-takes_share-clause-ready c =
    ready_behind c.args.self.now.first c.requires.ready c.requires.index c.requires.ready.inside (λ later. c.requires.ready.passed (omega arith))

pub index-note-requires : goal.index-note-requires
index-note-requires c =
    let h : c.args.index < length c.args.self.now.notes.items = in_notes c.requires.ready _ c.requires.index (sym c.takes_share.ensures ∙ c.if-not-takes_share.false) c.args.index (omega arith) in
    search rules

pub passing-init : goal.passing-init
passing-init c = record {
  later = omega arith;
  inside = omega arith;
  passed = first_counts c.requires.ready _ c.requires.index (sym c.takes_share.ensures ∙ c.if-not-takes_share.false) c.max-first.result c.max-first.ensures;
}

pub index-requires : goal.index-requires
index-requires c =
    let h : c.passing.first < length c.args.self.now.notes.items = in_notes c.requires.ready _ c.requires.index (sym c.takes_share.ensures ∙ c.if-not-takes_share.false) c.passing.first c.passing.invariant.inside in
    search rules

pub share-share-requires-clause-asked : goal.share-share-requires-clause-asked
share-share-requires-clause-asked c =
    let h = less_read c.requires.ready _ c.requires.index (sym c.takes_share.ensures ∙ c.if-not-takes_share.false) c.index-note.result.now c.index.result.now c.passing.first c.index-note.ensures c.index.ensures c.passing.invariant.later c.passing.invariant.inside in
    h.0

pub share-share-requires-clause-sharing : goal.share-share-requires-clause-sharing
share-share-requires-clause-sharing c =
    let h = less_read c.requires.ready _ c.requires.index (sym c.takes_share.ensures ∙ c.if-not-takes_share.false) c.index-note.result.now c.index.result.now c.passing.first c.index-note.ensures c.index.ensures c.passing.invariant.later c.passing.invariant.inside in
    h.1

pub index-overtaking-requires : goal.index-overtaking-requires
index-overtaking-requires c =
    let e = c.requires.ready.overtakings.all in
    let h : c.passing.first < length c.args.self.now.overtakings.items = omega (arith, in_notes c.requires.ready _ c.requires.index (sym c.takes_share.ensures ∙ c.if-not-takes_share.false) c.passing.first c.passing.invariant.inside) in
    search rules

pub passing-smaller : goal.passing-smaller
passing-smaller c =
    let o = goes_later c.requires.ready _ c.requires.index (sym c.takes_share.ensures ∙ c.if-not-takes_share.false) c.index-note.result.now c.index.result.now c.passing.first c.index-note.ensures c.index.ensures c.passing.invariant.later c.passing.invariant.inside c.share-share.result c.index-overtaking.result.now c.share-share.ensures.value c.index-overtaking.ensures c.passing.invariant.passed (omega arith) in
    let later : c.passing.first < c.index-overtaking.result.now.by = o.0 in
    let i = c.passing.invariant.inside in
    omega arith

pub passing-preserved : goal.passing-preserved
passing-preserved c =
    let o = goes_later c.requires.ready _ c.requires.index (sym c.takes_share.ensures ∙ c.if-not-takes_share.false) c.index-note.result.now c.index.result.now c.passing.first c.index-note.ensures c.index.ensures c.passing.invariant.later c.passing.invariant.inside c.share-share.result c.index-overtaking.result.now c.share-share.ensures.value c.index-overtaking.ensures c.passing.invariant.passed (omega arith) in
    let later : c.passing.first < c.index-overtaking.result.now.by = o.0 in
    record {
      later = omega arith;
      inside = o.1;
      passed = passes c.requires.ready _ c.requires.index (sym c.takes_share.ensures ∙ c.if-not-takes_share.false) c.index-note.result.now c.index.result.now c.passing.first c.index-note.ensures c.index.ensures c.passing.invariant.later c.passing.invariant.inside c.share-share.result c.index-overtaking.result.now c.share-share.ensures.value c.index-overtaking.ensures c.passing.invariant.passed c.if-share-overtaking.false;
    }

pub returns-clause-share : goal.returns-clause-share
returns-clause-share c = is_share c.requires.ready _ c.requires.index (sym c.takes_share.ensures ∙ c.if-not-takes_share.false) c.index-note.result.now c.index.result.now c.passing.first c.index-note.ensures c.index.ensures c.passing.invariant.later c.passing.invariant.inside c.share-share.result c.index-overtaking.result.now c.share-share.ensures.value c.index-overtaking.ensures c.passing.invariant.passed c.if-share-overtaking.true (omega arith)

pub returns-clause-ready : goal.returns-clause-ready
returns-clause-ready c =
    ready_behind c.passing.first c.requires.ready c.requires.index c.passing.invariant.inside (λ later. c.passing.invariant.passed)
