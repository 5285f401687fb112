use Rattle.std.proofs.Common.{◌≡◌, ℕ, ◌+◌, ◌++◌, ◌∷◌, [], length, take, ap, sym, ◌∙◌, arith}
use Rattle.std.proofs.lemmas.List.{length-append, append_assoc}
use Rattle.tks_disk.specs.DiskModel.{on, beside}
use Rattle.tks_journal.proofs.Stages.{front_long, all_begin, still_begin, and_then, sync_keeps, sync_settles, and_written, reaches, staged_so}
use Rattle.tks_journal.proofs.side.stage_side.Goals as goal

pub returns-in_err-write_pieces-clause-any_moment : goal.returns-in_err-write_pieces-clause-any_moment
returns-in_err-write_pieces-clause-any_moment g c h =
    let v0 = g.D.Disk.view c.args.disk.now in
    let side = c.args.side in
    let x0 = on side v0.reads in
    let other = beside side v0.reads in
    let stem = take 1 x0 in
    let long : length stem ≡ 1 = front_long 1 x0 (omega (arith, c.requires.some h)) in
    let a0 = all_begin v0 side 1 (c.requires.settled h) (omega (arith, c.requires.some h)) in
    let v1 = g.D.Disk.view c.write_pieces.new.disk in
    let k1 = c.write_pieces.ensures.front stem other h (omega (arith, long)) a0 in
    k1.leaves

pub returns-in_err-write_pieces-2-clause-any_moment : goal.returns-in_err-write_pieces-2-clause-any_moment
returns-in_err-write_pieces-2-clause-any_moment g c h =
    let v0 = g.D.Disk.view c.args.disk.now in
    let side = c.args.side in
    let x0 = on side v0.reads in
    let other = beside side v0.reads in
    let stem = take 1 x0 in
    let long : length stem ≡ 1 = front_long 1 x0 (omega (arith, c.requires.some h)) in
    let a0 = all_begin v0 side 1 (c.requires.settled h) (omega (arith, c.requires.some h)) in
    let v1 = g.D.Disk.view c.write_pieces.new.disk in
    let k1 = c.write_pieces.ensures.front stem other h (omega (arith, long)) a0 in
    let h1 = c.write_pieces.ensures.honesty.0 h in
    let v2 = g.D.Disk.view c.write_pieces-2.new.disk in
    let k2 = and_then side stem other v0 v1 v2 k1 (c.write_pieces-2.ensures.front stem other h1 (omega (arith, long)) (still_begin side stem other v0 v1 k1)) in
    k2.leaves

pub returns-in_err-write_pieces-3-clause-any_moment : goal.returns-in_err-write_pieces-3-clause-any_moment
returns-in_err-write_pieces-3-clause-any_moment g c h =
    let v0 = g.D.Disk.view c.args.disk.now in
    let side = c.args.side in
    let x0 = on side v0.reads in
    let other = beside side v0.reads in
    let stem = take 1 x0 in
    let long : length stem ≡ 1 = front_long 1 x0 (omega (arith, c.requires.some h)) in
    let a0 = all_begin v0 side 1 (c.requires.settled h) (omega (arith, c.requires.some h)) in
    let v1 = g.D.Disk.view c.write_pieces.new.disk in
    let k1 = c.write_pieces.ensures.front stem other h (omega (arith, long)) a0 in
    let h1 = c.write_pieces.ensures.honesty.0 h in
    let v2 = g.D.Disk.view c.write_pieces-2.new.disk in
    let k2 = and_then side stem other v0 v1 v2 k1 (c.write_pieces-2.ensures.front stem other h1 (omega (arith, long)) (still_begin side stem other v0 v1 k1)) in
    let h2 = c.write_pieces-2.ensures.honesty.0 h1 in
    let v3 = g.D.Disk.view c.write_pieces-3.new.disk in
    let k3 = and_then side stem other v0 v2 v3 k2 (c.write_pieces-3.ensures.front stem other h2 (omega (arith, long)) (still_begin side stem other v0 v2 k2)) in
    k3.leaves

pub returns-in_err-write_pieces-4-clause-any_moment : goal.returns-in_err-write_pieces-4-clause-any_moment
returns-in_err-write_pieces-4-clause-any_moment g c h =
    let v0 = g.D.Disk.view c.args.disk.now in
    let side = c.args.side in
    let x0 = on side v0.reads in
    let other = beside side v0.reads in
    let stem = take 1 x0 in
    let long : length stem ≡ 1 = front_long 1 x0 (omega (arith, c.requires.some h)) in
    let a0 = all_begin v0 side 1 (c.requires.settled h) (omega (arith, c.requires.some h)) in
    let v1 = g.D.Disk.view c.write_pieces.new.disk in
    let k1 = c.write_pieces.ensures.front stem other h (omega (arith, long)) a0 in
    let h1 = c.write_pieces.ensures.honesty.0 h in
    let v2 = g.D.Disk.view c.write_pieces-2.new.disk in
    let k2 = and_then side stem other v0 v1 v2 k1 (c.write_pieces-2.ensures.front stem other h1 (omega (arith, long)) (still_begin side stem other v0 v1 k1)) in
    let h2 = c.write_pieces-2.ensures.honesty.0 h1 in
    let v3 = g.D.Disk.view c.write_pieces-3.new.disk in
    let k3 = and_then side stem other v0 v2 v3 k2 (c.write_pieces-3.ensures.front stem other h2 (omega (arith, long)) (still_begin side stem other v0 v2 k2)) in
    let h3 = c.write_pieces-3.ensures.honesty.0 h2 in
    let v4 = g.D.Disk.view c.write_pieces-4.new.disk in
    let k4 = and_then side stem other v0 v3 v4 k3 (c.write_pieces-4.ensures.front stem other h3 (omega (arith, long)) (still_begin side stem other v0 v3 k3)) in
    k4.leaves

pub returns-in_err-sync-clause-any_moment : goal.returns-in_err-sync-clause-any_moment
returns-in_err-sync-clause-any_moment g c h =
    let v0 = g.D.Disk.view c.args.disk.now in
    let side = c.args.side in
    let x0 = on side v0.reads in
    let other = beside side v0.reads in
    let stem = take 1 x0 in
    let long : length stem ≡ 1 = front_long 1 x0 (omega (arith, c.requires.some h)) in
    let a0 = all_begin v0 side 1 (c.requires.settled h) (omega (arith, c.requires.some h)) in
    let v1 = g.D.Disk.view c.write_pieces.new.disk in
    let k1 = c.write_pieces.ensures.front stem other h (omega (arith, long)) a0 in
    let h1 = c.write_pieces.ensures.honesty.0 h in
    let v2 = g.D.Disk.view c.write_pieces-2.new.disk in
    let k2 = and_then side stem other v0 v1 v2 k1 (c.write_pieces-2.ensures.front stem other h1 (omega (arith, long)) (still_begin side stem other v0 v1 k1)) in
    let h2 = c.write_pieces-2.ensures.honesty.0 h1 in
    let v3 = g.D.Disk.view c.write_pieces-3.new.disk in
    let k3 = and_then side stem other v0 v2 v3 k2 (c.write_pieces-3.ensures.front stem other h2 (omega (arith, long)) (still_begin side stem other v0 v2 k2)) in
    let h3 = c.write_pieces-3.ensures.honesty.0 h2 in
    let v4 = g.D.Disk.view c.write_pieces-4.new.disk in
    let k4 = and_then side stem other v0 v3 v4 k3 (c.write_pieces-4.ensures.front stem other h3 (omega (arith, long)) (still_begin side stem other v0 v3 k3)) in
    let h4 = c.write_pieces-4.ensures.honesty.0 h3 in
    let v5 = g.D.Disk.view c.sync.new.self in
    let k5 = sync_keeps side stem other v0 v4 v5 c.sync.result k4 (c.sync.ensures.syncs h4) in
    k5.leaves

pub returns-clause-any_moment : goal.returns-clause-any_moment
returns-clause-any_moment g c h =
    let v0 = g.D.Disk.view c.args.disk.now in
    let side = c.args.side in
    let x0 = on side v0.reads in
    let other = beside side v0.reads in
    let stem = take 1 x0 in
    let long : length stem ≡ 1 = front_long 1 x0 (omega (arith, c.requires.some h)) in
    let a0 = all_begin v0 side 1 (c.requires.settled h) (omega (arith, c.requires.some h)) in
    let v1 = g.D.Disk.view c.write_pieces.new.disk in
    let k1 = c.write_pieces.ensures.front stem other h (omega (arith, long)) a0 in
    let h1 = c.write_pieces.ensures.honesty.0 h in
    let v2 = g.D.Disk.view c.write_pieces-2.new.disk in
    let k2 = and_then side stem other v0 v1 v2 k1 (c.write_pieces-2.ensures.front stem other h1 (omega (arith, long)) (still_begin side stem other v0 v1 k1)) in
    let h2 = c.write_pieces-2.ensures.honesty.0 h1 in
    let v3 = g.D.Disk.view c.write_pieces-3.new.disk in
    let k3 = and_then side stem other v0 v2 v3 k2 (c.write_pieces-3.ensures.front stem other h2 (omega (arith, long)) (still_begin side stem other v0 v2 k2)) in
    let h3 = c.write_pieces-3.ensures.honesty.0 h2 in
    let v4 = g.D.Disk.view c.write_pieces-4.new.disk in
    let k4 = and_then side stem other v0 v3 v4 k3 (c.write_pieces-4.ensures.front stem other h3 (omega (arith, long)) (still_begin side stem other v0 v3 k3)) in
    let h4 = c.write_pieces-4.ensures.honesty.0 h3 in
    let v5 = g.D.Disk.view c.sync.new.self in
    let k5 = sync_keeps side stem other v0 v4 v5 c.sync.result k4 (c.sync.ensures.syncs h4) in
    k5.leaves

pub returns-clause-staged : goal.returns-clause-staged
returns-clause-staged g c h =
    let v0 = g.D.Disk.view c.args.disk.now in
    let side = c.args.side in
    let x0 = on side v0.reads in
    let other = beside side v0.reads in
    let stem = take 1 x0 in
    let long : length stem ≡ 1 = front_long 1 x0 (omega (arith, c.requires.some h)) in
    let a0 = all_begin v0 side 1 (c.requires.settled h) (omega (arith, c.requires.some h)) in
    let v1 = g.D.Disk.view c.write_pieces.new.disk in
    let k1 = c.write_pieces.ensures.front stem other h (omega (arith, long)) a0 in
    let h1 = c.write_pieces.ensures.honesty.0 h in
    let v2 = g.D.Disk.view c.write_pieces-2.new.disk in
    let k2 = and_then side stem other v0 v1 v2 k1 (c.write_pieces-2.ensures.front stem other h1 (omega (arith, long)) (still_begin side stem other v0 v1 k1)) in
    let h2 = c.write_pieces-2.ensures.honesty.0 h1 in
    let v3 = g.D.Disk.view c.write_pieces-3.new.disk in
    let k3 = and_then side stem other v0 v2 v3 k2 (c.write_pieces-3.ensures.front stem other h2 (omega (arith, long)) (still_begin side stem other v0 v2 k2)) in
    let h3 = c.write_pieces-3.ensures.honesty.0 h2 in
    let v4 = g.D.Disk.view c.write_pieces-4.new.disk in
    let k4 = and_then side stem other v0 v3 v4 k3 (c.write_pieces-4.ensures.front stem other h3 (omega (arith, long)) (still_begin side stem other v0 v3 k3)) in
    let h4 = c.write_pieces-4.ensures.honesty.0 h3 in
    let v5 = g.D.Disk.view c.sync.new.self in
    let k5 = sync_keeps side stem other v0 v4 v5 c.sync.result k4 (c.sync.ensures.syncs h4) in
    let head = c.args.head.now in
    let world = c.args.world.now in
    let m = length head in
    let n = length world in
    let w1 : take 2 (on side v1.reads) ≡ stem ++ 2 ∷ [] = c.in_ok-write_pieces.ensures.written h (omega (arith, c.requires.some h)) ∙ ap (λ (b : ℕ). stem ++ b ∷ []) c.byte.ensures in
    let r1 : length (take 2 (on side v1.reads)) ≡ 2 = ap length w1 ∙ length-append stem (2 ∷ []) ∙ omega (arith, long) in
    let w2 : take (2 + m) (on side v2.reads) ≡ stem ++ (2 ∷ [] ++ head) =
    and_written 2 m stem (on side v1.reads) (on side v2.reads) (2 ∷ []) head w1 (c.in_ok-write_pieces-2.ensures.written h1 (reaches 2 (on side v1.reads) r1)) in
    let r2 : length (take (2 + m) (on side v2.reads)) ≡ 2 + m = ap length w2 ∙ length-append stem (2 ∷ [] ++ head) ∙ omega (arith, long) in
    let w3 : take (2 + m + n) (on side v3.reads) ≡ stem ++ (2 ∷ [] ++ head ++ world) =
    and_written (2 + m) n stem (on side v2.reads) (on side v3.reads) (2 ∷ [] ++ head) world w2 (c.in_ok-write_pieces-3.ensures.written h2 (reaches (2 + m) (on side v2.reads) r2)) in
    let r3 : length (take (2 + m + n) (on side v3.reads)) ≡ 2 + m + n = ap length w3 ∙ length-append stem (2 ∷ [] ++ head ++ world) ∙ omega (arith, long, length-append (2 ∷ [] ++ head) world) in
    let w4 : take (2 + m + n + 1) (on side v4.reads) ≡ stem ++ (2 ∷ [] ++ head ++ world ++ 0 ∷ []) =
    and_written (2 + m + n) 1 stem (on side v3.reads) (on side v4.reads) (2 ∷ [] ++ head ++ world) (0 ∷ []) w3 (c.in_ok-write_pieces-4.ensures.written h3 (reaches (2 + m + n) (on side v3.reads) r3)) in
    let bytes = 2 ∷ head ++ (world ++ 0 ∷ []) in
    let same : bytes ≡ 2 ∷ [] ++ head ++ world ++ 0 ∷ [] = sym (append_assoc (2 ∷ head) world (0 ∷ [])) in
    let s = c.in_ok-sync.ensures.syncs h4 in
    staged_so side 1 (2 + m + n + 1) bytes (2 ∷ [] ++ head ++ world ++ 0 ∷ []) v0 v4 v5 (sync_settles side stem other v0 v4 v5 c.in_ok-sync.field-0 k5 s) k5.reads.other_side s.same same
    (omega (arith, length-append world (0 ∷ []), length-append (2 ∷ head) (world ++ 0 ∷ []))) w4
