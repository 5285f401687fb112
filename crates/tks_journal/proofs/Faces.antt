-- What faces and frames read as.
use Rattle.std.proofs.Common.{◌≡◌, ◌≢◌, ◌<◌, ◌≤◌, ℕ, zero, suc, ◌+◌, ◌==◌, nat_le, nat_lt, true, false, cond, List, [], ◌∷◌, ◌++◌, length, take, drop, get_or, Some, None, Ok, Err, refl, sym, ◌∙◌, ap, arith, length-append, append_assoc}
use Rattle.std.specs.Int.{w32, from_be_bytes, to_be_bytes}
use Rattle.std.proofs.lemmas.Nat.{from_be_bytes-to_be_bytes_4}
use Rattle.std.proofs.lemmas.Bool.Decides.{nat_tests}
use Rattle.std.proofs.lemmas.List.{take_at, drop_at, drop-drop}
use Rattle.tks_spelling.specs.Header.{header_at}
use Rattle.tks_spelling.specs.Format.{byte_of}
use Rattle.tks_spelling.specs.declared.format.Format.{Format}
use Rattle.tks_spelling.specs.declared.format.Format.TheVariants.{One, Two}
use Rattle.tks_spelling.specs.declared.header.Header.{Header}
use Rattle.tks_disk.specs.declared.disk.Side.{Side}
use Rattle.tks_disk.specs.declared.disk.Side.TheVariants.{A, B}
use Rattle.tks_journal.specs.Sides.{is_closed, format_of, Face, closed, unknown, broken, intact, is_given, headed, face, with_front, size_at, frames_from, frames, kept, content, decided, held, holds, with_frames, pair, framed, AllShort}
use Rattle.tks_journal.specs.declared.fault.SideFault.TheVariants.{Damaged}
use Rattle.tks_journal.specs.Resting.{gives_way, begun_as}
use Rattle.tks_journal.proofs.Closes.{shut_test}

le_test : (m n : ℕ) → m ≤ n → nat_le m n ≡ true
le_test m n le = grind (arith, nat_tests)

ne_test : (m n : ℕ) → m ≢ n → (m == n) ≡ false
ne_test m n ne = grind (arith, nat_tests)

above_differs : (m n : ℕ) → nat_lt n m ≡ true → (m == n) ≡ false
above_differs m n lt = grind (arith, nat_tests)

below_differs : (m n : ℕ) → nat_lt n m ≡ true → (n == m) ≡ false
below_differs m n lt = grind (arith, nat_tests)

not_below : (m n : ℕ) → nat_lt n m ≡ true → nat_lt m n ≡ false
not_below m n lt = grind (arith, nat_tests)

-- ---- frames

pub frames_skip : (skip : ℕ) (bytes : List ℕ) → frames_from skip bytes ≡ frames (drop skip bytes)
frames_skip zero bytes = refl
frames_skip (suc skip) [] = refl
frames_skip (suc skip) (byte ∷ bytes) = frames_skip skip bytes

frame_of : (bytes : List ℕ) (n : ℕ) (body tail : List ℕ) → size_at bytes ≡ n → length body ≡ n → drop 4 bytes ≡ body ++ tail → 4 + n ≤ length bytes → frames (1 ∷ bytes) ≡ with_front body (frames tail)
frame_of bytes n body tail e len parts room =
    let took : take n (drop 4 bytes) ≡ body = ap (λ (l : List ℕ). take n l) parts ∙ take_at body tail n len in
    let left : drop (4 + n) bytes ≡ tail = sym (drop-drop n 4 bytes) ∙ ap (λ (l : List ℕ). drop n l) parts ∙ drop_at body tail n len in
    ap (λ m. cond (nat_le (4 + m) (length bytes)) (with_front (take m (drop 4 bytes)) (frames_from (4 + m) bytes)) None) e
    ∙ ap (λ b. cond b (with_front (take n (drop 4 bytes)) (frames_from (4 + n) bytes)) None) (le_test (4 + n) (length bytes) room)
    ∙ ap (λ l. with_front l (frames_from (4 + n) bytes)) took
    ∙ ap (with_front body) (frames_skip (4 + n) bytes ∙ ap frames left)

-- one whole frame
pub one_frame : (size body tail : List ℕ) → length size ≡ 4 → from_be_bytes w32 size ≡ length body → frames (1 ∷ (size ++ (body ++ tail))) ≡ with_front body (frames tail)
one_frame size body tail four is =
    frame_of (size ++ (body ++ tail)) (length body) body tail (ap (from_be_bytes w32) (take_at size (body ++ tail) 4 four) ∙ is) refl (drop_at size (body ++ tail) 4 four)
    (omega (arith, length-append size (body ++ tail), length-append body tail))

pub shut_frames : (gate : ℕ) (rest : List ℕ) → gate ≢ 1 → frames (gate ∷ rest) ≡ Some []
shut_frames gate rest shut = rw (ne_test gate 1 shut) refl

-- frames, a closed gate, and whatever stands behind it
pub frames_framed : (more : List (List ℕ)) (gate : ℕ) (rest : List ℕ) → AllShort more → gate ≢ 1 → frames (framed more ++ gate ∷ rest) ≡ Some more
frames_framed [] gate rest all shut = shut_frames gate rest shut
frames_framed (body ∷ more) gate rest all shut =
    let tail = framed more ++ gate ∷ rest in
    let size = to_be_bytes w32 (length body) in
    ap (λ (l : List ℕ). frames (1 ∷ (size ++ l))) (append_assoc body (framed more) (gate ∷ rest))
    ∙ one_frame size body tail refl (from_be_bytes-to_be_bytes_4 (length body) all.0)
    ∙ ap (with_front body) (frames_framed more gate rest all.1 shut)

-- ---- faces

pub closed_face : (x : List ℕ) → is_closed x ≡ true → face x ≡ closed
unfolding face
closed_face x shut = rw shut refl

-- a side that begins as one does that has a closed gate
pub closed_front : (x old : List ℕ) → take 1 x ≡ take 1 old → 0 < length old → get_or old 0 0 ≢ 1 → is_closed x ≡ true
closed_front [] old e some shut = refl
closed_front (g ∷ []) old e some shut = refl
closed_front (g ∷ b ∷ rest) [] e some shut = absurd (cc e)
closed_front (g ∷ b ∷ rest) (o ∷ tail) e some shut = shut_test g b rest (λ is. shut (cc (e, is)))

pub closed_gate : (gate : ℕ) (rest : List ℕ) → gate ≢ 1 → is_closed (gate ∷ rest) ≡ true
closed_gate gate [] shut = refl
closed_gate gate (b ∷ rest) shut = shut_test gate b rest shut

-- a side that was just begun
pub begun_face : (format : Format) (header : Header) (head behind : List ℕ) → ((rest : List ℕ) → header_at (head ++ rest) ≡ Ok (header, rest)) → is_given header.generation ≡ true → face (1 ∷ byte_of format ∷ head ++ behind) ≡ intact format header behind
unfolding face format_of
begun_face One header head behind spelled given = ap (headed One) (spelled behind) ∙ rw given refl
begun_face Two header head behind spelled given = ap (headed Two) (spelled behind) ∙ rw given refl

decides_a : (format : Format) (header : Header) (rest : List ℕ) (other : Face) → gives_way header.generation other ≡ true → decided (intact format header rest) other ≡ content A format header rest
decides_a format header rest closed gives = refl
decides_a format header rest unknown gives = absurd (cc gives)
decides_a format header rest broken gives = absurd (cc gives)
decides_a format header rest (intact fk k y) gives = rw (above_differs header.generation k.generation gives, gives) refl

decides_b : (format : Format) (header : Header) (rest : List ℕ) (other : Face) → gives_way header.generation other ≡ true → decided other (intact format header rest) ≡ content B format header rest
decides_b format header rest closed gives = refl
decides_b format header rest unknown gives = absurd (cc gives)
decides_b format header rest broken gives = absurd (cc gives)
decides_b format header rest (intact fk k y) gives = rw (below_differs header.generation k.generation gives, not_below header.generation k.generation gives) refl

-- a side to which the other gives way is live
pub live_holds : (side : Side) (x other : List ℕ) (format : Format) (header : Header) (rest : List ℕ) → face x ≡ intact format header rest → gives_way header.generation (face other) ≡ true → holds (pair side x other) ≡ content side format header rest
unfolding held
live_holds A x other format header rest is gives = ap (λ f. decided f (face other)) is ∙ decides_a format header rest (face other) gives
live_holds B x other format header rest is gives = ap (λ f. decided (face other) f) is ∙ decides_b format header rest (face other) gives

-- ---- what stands behind a header

pub content_is : (live : Side) (format : Format) (header : Header) (world behind : List ℕ) → header.world_length ≡ length world → content live format header (world ++ behind) ≡ kept live format header world (frames behind)
unfolding content
content_is live format header world behind size =
    let n = header.world_length in
    let fits : nat_le n (length (world ++ behind)) ≡ true = le_test n (length (world ++ behind)) (omega (arith, size, length-append world behind)) in
    let took : take n (world ++ behind) ≡ world = take_at world behind n (sym size) in
    let left : drop n (world ++ behind) ≡ behind = drop_at world behind n (sym size) in
    ap (λ b. cond b (kept live format header (take n (world ++ behind)) (frames (drop n (world ++ behind)))) (Err Damaged)) fits
    ∙ ap (λ l. kept live format header l (frames (drop n (world ++ behind)))) took
    ∙ ap (λ l. kept live format header world (frames l)) left

pub begun_content : (live : Side) (header : Header) (world : List ℕ) (more : List (List ℕ)) (gate : ℕ) (rest : List ℕ) → header.world_length ≡ length world → AllShort more → gate ≢ 1
    → content live Two header (world ++ (framed more ++ gate ∷ rest)) ≡ with_frames more (begun_as live header world)
begun_content live header world more gate rest size all shut = content_is live Two header world (framed more ++ gate ∷ rest) size ∙ ap (kept live Two header world) (frames_framed more gate rest all shut)
