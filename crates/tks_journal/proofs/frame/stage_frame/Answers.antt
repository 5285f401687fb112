use Rattle.std.proofs.Common.{◌≡◌, ◌+◌, ◌++◌, ◌∷◌, [], ℕ, List, length, take, ap, sym, ◌∙◌, arith}
use Rattle.std.specs.Int.{w32, to_be_bytes}
use Rattle.std.proofs.lemmas.List.{length-append, append_assoc}
use Rattle.tks_disk.specs.DiskModel.{on, beside}
use Rattle.tks_journal.proofs.Stages.{front_long, all_begin, still_begin, and_then, sync_keeps, sync_settles, and_written, reaches, staged_so}
use Rattle.tks_journal.proofs.frame.stage_frame.Goals as goal

pub returns-in_err-write_pieces-clause-any_moment : goal.returns-in_err-write_pieces-clause-any_moment
returns-in_err-write_pieces-clause-any_moment g c h =
    let v0 = g.D.Disk.view c.args.disk.now in
    let live = c.args.live in
    let gate = c.args.gate in
    let x0 = on live v0.reads in
    let other = beside live v0.reads in
    let stem = take (gate + 1) x0 in
    let long : length stem ≡ gate + 1 = front_long (gate + 1) x0 (omega (arith, c.requires.within h)) in
    let a0 = all_begin v0 live (gate + 1) (c.requires.settled h) (omega (arith, c.requires.within h)) in
    let v1 = g.D.Disk.view c.write_pieces.new.disk in
    let k1 = c.write_pieces.ensures.front stem other h (omega (arith, long)) a0 in
    k1.leaves

pub returns-in_err-write_pieces-2-clause-any_moment : goal.returns-in_err-write_pieces-2-clause-any_moment
returns-in_err-write_pieces-2-clause-any_moment g c h =
    let v0 = g.D.Disk.view c.args.disk.now in
    let live = c.args.live in
    let gate = c.args.gate in
    let x0 = on live v0.reads in
    let other = beside live v0.reads in
    let stem = take (gate + 1) x0 in
    let long : length stem ≡ gate + 1 = front_long (gate + 1) x0 (omega (arith, c.requires.within h)) in
    let a0 = all_begin v0 live (gate + 1) (c.requires.settled h) (omega (arith, c.requires.within h)) in
    let v1 = g.D.Disk.view c.write_pieces.new.disk in
    let k1 = c.write_pieces.ensures.front stem other h (omega (arith, long)) a0 in
    let h1 = c.write_pieces.ensures.honesty.0 h in
    let v2 = g.D.Disk.view c.write_pieces-2.new.disk in
    let k2 = and_then live stem other v0 v1 v2 k1 (c.write_pieces-2.ensures.front stem other h1 (omega (arith, long)) (still_begin live stem other v0 v1 k1)) in
    k2.leaves

pub returns-in_err-write_pieces-3-clause-any_moment : goal.returns-in_err-write_pieces-3-clause-any_moment
returns-in_err-write_pieces-3-clause-any_moment g c h =
    let v0 = g.D.Disk.view c.args.disk.now in
    let live = c.args.live in
    let gate = c.args.gate in
    let x0 = on live v0.reads in
    let other = beside live v0.reads in
    let stem = take (gate + 1) x0 in
    let long : length stem ≡ gate + 1 = front_long (gate + 1) x0 (omega (arith, c.requires.within h)) in
    let a0 = all_begin v0 live (gate + 1) (c.requires.settled h) (omega (arith, c.requires.within h)) in
    let v1 = g.D.Disk.view c.write_pieces.new.disk in
    let k1 = c.write_pieces.ensures.front stem other h (omega (arith, long)) a0 in
    let h1 = c.write_pieces.ensures.honesty.0 h in
    let v2 = g.D.Disk.view c.write_pieces-2.new.disk in
    let k2 = and_then live stem other v0 v1 v2 k1 (c.write_pieces-2.ensures.front stem other h1 (omega (arith, long)) (still_begin live stem other v0 v1 k1)) in
    let h2 = c.write_pieces-2.ensures.honesty.0 h1 in
    let v3 = g.D.Disk.view c.write_pieces-3.new.disk in
    let k3 = and_then live stem other v0 v2 v3 k2 (c.write_pieces-3.ensures.front stem other h2 (omega (arith, long)) (still_begin live stem other v0 v2 k2)) in
    k3.leaves

pub returns-in_err-write_pieces-4-clause-any_moment : goal.returns-in_err-write_pieces-4-clause-any_moment
returns-in_err-write_pieces-4-clause-any_moment g c h =
    let v0 = g.D.Disk.view c.args.disk.now in
    let live = c.args.live in
    let gate = c.args.gate in
    let x0 = on live v0.reads in
    let other = beside live v0.reads in
    let stem = take (gate + 1) x0 in
    let long : length stem ≡ gate + 1 = front_long (gate + 1) x0 (omega (arith, c.requires.within h)) in
    let a0 = all_begin v0 live (gate + 1) (c.requires.settled h) (omega (arith, c.requires.within h)) in
    let v1 = g.D.Disk.view c.write_pieces.new.disk in
    let k1 = c.write_pieces.ensures.front stem other h (omega (arith, long)) a0 in
    let h1 = c.write_pieces.ensures.honesty.0 h in
    let v2 = g.D.Disk.view c.write_pieces-2.new.disk in
    let k2 = and_then live stem other v0 v1 v2 k1 (c.write_pieces-2.ensures.front stem other h1 (omega (arith, long)) (still_begin live stem other v0 v1 k1)) in
    let h2 = c.write_pieces-2.ensures.honesty.0 h1 in
    let v3 = g.D.Disk.view c.write_pieces-3.new.disk in
    let k3 = and_then live stem other v0 v2 v3 k2 (c.write_pieces-3.ensures.front stem other h2 (omega (arith, long)) (still_begin live stem other v0 v2 k2)) in
    let h3 = c.write_pieces-3.ensures.honesty.0 h2 in
    let v4 = g.D.Disk.view c.write_pieces-4.new.disk in
    let k4 = and_then live stem other v0 v3 v4 k3 (c.write_pieces-4.ensures.front stem other h3 (omega (arith, long)) (still_begin live stem other v0 v3 k3)) in
    k4.leaves

pub returns-in_err-sync-clause-any_moment : goal.returns-in_err-sync-clause-any_moment
returns-in_err-sync-clause-any_moment g c h =
    let v0 = g.D.Disk.view c.args.disk.now in
    let live = c.args.live in
    let gate = c.args.gate in
    let x0 = on live v0.reads in
    let other = beside live v0.reads in
    let stem = take (gate + 1) x0 in
    let long : length stem ≡ gate + 1 = front_long (gate + 1) x0 (omega (arith, c.requires.within h)) in
    let a0 = all_begin v0 live (gate + 1) (c.requires.settled h) (omega (arith, c.requires.within h)) in
    let v1 = g.D.Disk.view c.write_pieces.new.disk in
    let k1 = c.write_pieces.ensures.front stem other h (omega (arith, long)) a0 in
    let h1 = c.write_pieces.ensures.honesty.0 h in
    let v2 = g.D.Disk.view c.write_pieces-2.new.disk in
    let k2 = and_then live stem other v0 v1 v2 k1 (c.write_pieces-2.ensures.front stem other h1 (omega (arith, long)) (still_begin live stem other v0 v1 k1)) in
    let h2 = c.write_pieces-2.ensures.honesty.0 h1 in
    let v3 = g.D.Disk.view c.write_pieces-3.new.disk in
    let k3 = and_then live stem other v0 v2 v3 k2 (c.write_pieces-3.ensures.front stem other h2 (omega (arith, long)) (still_begin live stem other v0 v2 k2)) in
    let h3 = c.write_pieces-3.ensures.honesty.0 h2 in
    let v4 = g.D.Disk.view c.write_pieces-4.new.disk in
    let k4 = and_then live stem other v0 v3 v4 k3 (c.write_pieces-4.ensures.front stem other h3 (omega (arith, long)) (still_begin live stem other v0 v3 k3)) in
    let h4 = c.write_pieces-4.ensures.honesty.0 h3 in
    let v5 = g.D.Disk.view c.sync.new.self in
    let k5 = sync_keeps live stem other v0 v4 v5 c.sync.result k4 (c.sync.ensures.syncs h4) in
    k5.leaves

pub returns-clause-any_moment : goal.returns-clause-any_moment
returns-clause-any_moment g c h =
    let v0 = g.D.Disk.view c.args.disk.now in
    let live = c.args.live in
    let gate = c.args.gate in
    let x0 = on live v0.reads in
    let other = beside live v0.reads in
    let stem = take (gate + 1) x0 in
    let long : length stem ≡ gate + 1 = front_long (gate + 1) x0 (omega (arith, c.requires.within h)) in
    let a0 = all_begin v0 live (gate + 1) (c.requires.settled h) (omega (arith, c.requires.within h)) in
    let v1 = g.D.Disk.view c.write_pieces.new.disk in
    let k1 = c.write_pieces.ensures.front stem other h (omega (arith, long)) a0 in
    let h1 = c.write_pieces.ensures.honesty.0 h in
    let v2 = g.D.Disk.view c.write_pieces-2.new.disk in
    let k2 = and_then live stem other v0 v1 v2 k1 (c.write_pieces-2.ensures.front stem other h1 (omega (arith, long)) (still_begin live stem other v0 v1 k1)) in
    let h2 = c.write_pieces-2.ensures.honesty.0 h1 in
    let v3 = g.D.Disk.view c.write_pieces-3.new.disk in
    let k3 = and_then live stem other v0 v2 v3 k2 (c.write_pieces-3.ensures.front stem other h2 (omega (arith, long)) (still_begin live stem other v0 v2 k2)) in
    let h3 = c.write_pieces-3.ensures.honesty.0 h2 in
    let v4 = g.D.Disk.view c.write_pieces-4.new.disk in
    let k4 = and_then live stem other v0 v3 v4 k3 (c.write_pieces-4.ensures.front stem other h3 (omega (arith, long)) (still_begin live stem other v0 v3 k3)) in
    let h4 = c.write_pieces-4.ensures.honesty.0 h3 in
    let v5 = g.D.Disk.view c.sync.new.self in
    let k5 = sync_keeps live stem other v0 v4 v5 c.sync.result k4 (c.sync.ensures.syncs h4) in
    k5.leaves

pub returns-clause-staged : goal.returns-clause-staged
returns-clause-staged g c h =
    let v0 = g.D.Disk.view c.args.disk.now in
    let live = c.args.live in
    let gate = c.args.gate in
    let x0 = on live v0.reads in
    let other = beside live v0.reads in
    let stem = take (gate + 1) x0 in
    let long : length stem ≡ gate + 1 = front_long (gate + 1) x0 (omega (arith, c.requires.within h)) in
    let a0 = all_begin v0 live (gate + 1) (c.requires.settled h) (omega (arith, c.requires.within h)) in
    let v1 = g.D.Disk.view c.write_pieces.new.disk in
    let k1 = c.write_pieces.ensures.front stem other h (omega (arith, long)) a0 in
    let h1 = c.write_pieces.ensures.honesty.0 h in
    let v2 = g.D.Disk.view c.write_pieces-2.new.disk in
    let k2 = and_then live stem other v0 v1 v2 k1 (c.write_pieces-2.ensures.front stem other h1 (omega (arith, long)) (still_begin live stem other v0 v1 k1)) in
    let h2 = c.write_pieces-2.ensures.honesty.0 h1 in
    let v3 = g.D.Disk.view c.write_pieces-3.new.disk in
    let k3 = and_then live stem other v0 v2 v3 k2 (c.write_pieces-3.ensures.front stem other h2 (omega (arith, long)) (still_begin live stem other v0 v2 k2)) in
    let h3 = c.write_pieces-3.ensures.honesty.0 h2 in
    let v4 = g.D.Disk.view c.write_pieces-4.new.disk in
    let k4 = and_then live stem other v0 v3 v4 k3 (c.write_pieces-4.ensures.front stem other h3 (omega (arith, long)) (still_begin live stem other v0 v3 k3)) in
    let h4 = c.write_pieces-4.ensures.honesty.0 h3 in
    let v5 = g.D.Disk.view c.sync.new.self in
    let k5 = sync_keeps live stem other v0 v4 v5 c.sync.result k4 (c.sync.ensures.syncs h4) in
    let size = c.write_u32.new.buf in
    let lead = c.args.lead.now in
    let body = c.args.body.now in
    let m = length lead in
    let n = length body in
    let whole : length (lead ++ body) ≡ m + n = length-append lead body in
    let is : size ≡ to_be_bytes w32 (length (lead ++ body)) = c.write_u32.ensures ∙ ap (to_be_bytes w32) (sym whole) in
    let four : length size ≡ 4 = ap length is in
    let w1 : take (gate + 5) (on live v1.reads) ≡ stem ++ size = ap (λ k. take k (on live v1.reads)) (omega (arith, four)) ∙ c.in_ok-write_pieces.ensures.written h (omega (arith, c.requires.within h)) in
    let r1 : length (take (gate + 5) (on live v1.reads)) ≡ gate + 5 = ap length w1 ∙ length-append stem size ∙ omega (arith, long, four) in
    let w2 : take (gate + 5 + m) (on live v2.reads) ≡ stem ++ (size ++ lead) =
    and_written (gate + 5) m stem (on live v1.reads) (on live v2.reads) size lead w1 (c.in_ok-write_pieces-2.ensures.written h1 (reaches (gate + 5) (on live v1.reads) r1)) in
    let r2 : length (take (gate + 5 + m) (on live v2.reads)) ≡ gate + 5 + m = ap length w2 ∙ length-append stem (size ++ lead) ∙ omega (arith, long, four, length-append size lead) in
    let w3 : take (gate + 5 + m + n) (on live v3.reads) ≡ stem ++ (size ++ lead ++ body) =
    and_written (gate + 5 + m) n stem (on live v2.reads) (on live v3.reads) (size ++ lead) body w2 (c.in_ok-write_pieces-3.ensures.written h2 (reaches (gate + 5 + m) (on live v2.reads) r2)) in
    let r3 : length (take (gate + 5 + m + n) (on live v3.reads)) ≡ gate + 5 + m + n = ap length w3 ∙ length-append stem (size ++ lead ++ body) ∙ omega (arith, long, four, length-append size lead, length-append (size ++ lead) body) in
    let w4 : take (gate + 5 + m + n + 1) (on live v4.reads) ≡ stem ++ (size ++ lead ++ body ++ 0 ∷ []) =
    and_written (gate + 5 + m + n) 1 stem (on live v3.reads) (on live v4.reads) (size ++ lead ++ body) (0 ∷ []) w3 (c.in_ok-write_pieces-4.ensures.written h3 (reaches (gate + 5 + m + n) (on live v3.reads) r3)) in
    let bytes = to_be_bytes w32 (length (lead ++ body)) ++ (lead ++ body ++ 0 ∷ []) in
    let parts = size ++ lead ++ body ++ 0 ∷ [] in
    let same : bytes ≡ parts =
    ap (λ (l : List ℕ). l ++ (lead ++ body ++ 0 ∷ [])) (sym is) ∙ sym (append_assoc size (lead ++ body) (0 ∷ [])) ∙ ap (λ (l : List ℕ). l ++ 0 ∷ []) (sym (append_assoc size lead body)) in
    let s = c.in_ok-sync.ensures.syncs h4 in
    staged_so live (gate + 1) (gate + 5 + m + n + 1) bytes parts v0 v4 v5 (sync_settles live stem other v0 v4 v5 c.in_ok-sync.field-0 k5 s) k5.reads.other_side s.same same
    (omega (arith, whole, length-append (lead ++ body) (0 ∷ []), length-append (to_be_bytes w32 (length (lead ++ body))) (lead ++ body ++ 0 ∷ []))) w4
