-- Frames that are read one after the other.
use Rattle.std.proofs.Common.{◌≡◌, ◌≢◌, ◌<◌, ◌≤◌, ℕ, ◌+◌, nat_le, false, cond, List, [], ◌∷◌, ◌++◌, length, get_or, take, drop, Option, Some, None, Result, Err, refl, sym, ◌∙◌, ap, arith, append_assoc, length-append, take-append-drop}
use Rattle.std.proofs.lemmas.Bool.Decides.{nat_tests}
use Rattle.std.proofs.lemmas.List.{length-drop, length-take, drop_more, drop-drop, take_at, take-take, drop-take}
use Rattle.tks_spelling.specs.declared.format.Format.{Format}
use Rattle.tks_spelling.specs.declared.header.Header.{Header}
use Rattle.tks_disk.specs.DiskModel.{View, Images, on, beside}
use Rattle.tks_disk.specs.declared.disk.Side.{Side}
use Rattle.tks_journal.specs.Loading.{behind, with_behind, StoredAt, extended, so_far, FramesAt, ShutAt, FrameIs}
use Rattle.tks_journal.specs.Moments.{IsSettled}
use Rattle.tks_journal.specs.Resting.{IsLive}
use Rattle.tks_journal.specs.Sides.{with_front, frames, Kept, kept, content, holds, with_frames, live_of, pair, framed}
use Rattle.tks_journal.specs.declared.fault.SideFault.{SideFault}
use Rattle.tks_journal.specs.declared.fault.SideFault.TheVariants.{Damaged}
use Rattle.tks_journal.proofs.Faces.{one_frame, shut_frames, frames_framed, content_is}
use Rattle.tks_journal.proofs.Appends.{no_frames, more_frames, same_live}
use Rattle.tks_journal.proofs.Gates.{pair_of}
use Rattle.tks_journal.proofs.Stages.{front_long}

-- ---- what stands at a place

at_gate : (x : List ℕ) (at : ℕ) → at < length x → drop at x ≡ get_or x at 0 ∷ drop (at + 1) x
at_gate x at lt = drop_more x at 0 lt

pub shut_here : (x : List ℕ) (at : ℕ) → at < length x → get_or x at 0 ≢ 1 → frames (drop at x) ≡ Some []
shut_here x at lt shut = ap frames (at_gate x at lt) ∙ shut_frames (get_or x at 0) (drop (at + 1) x) shut

long_test : (m n : ℕ) → n < m → nat_le m n ≡ false
long_test m n lt = grind (arith, nat_tests)

module _ (x : List ℕ) (at : ℕ) (body : List ℕ) (fits : at + 5 + length body ≤ length x) (is : FrameIs x at body) where
  abbrev n : ℕ
  n = length body

  abbrev size : List ℕ
  size = take 4 (drop (at + 1) x)

  size_long : length size ≡ 4
  size_long = omega (arith, length-take 4 (drop (at + 1) x), length-drop (at + 1) x)

  frame_parts : drop at x ≡ 1 ∷ (size ++ (body ++ drop (at + 5 + n) x))
  frame_parts =
      at_gate x at (omega (arith, fits)) ∙ ap (λ (o : ℕ). o ∷ drop (at + 1) x) is.opens
      ∙ ap (λ (l : List ℕ). 1 ∷ l) (sym (take-append-drop 4 (drop (at + 1) x)))
      ∙ ap (λ (l : List ℕ). 1 ∷ (size ++ l)) (drop-drop 4 (at + 1) x ∙ ap (λ k. drop k x) (omega arith) ∙ sym (take-append-drop n (drop (at + 5) x)))
      ∙ ap (λ (l : List ℕ). 1 ∷ (size ++ l)) (ap (λ (l : List ℕ). l ++ drop n (drop (at + 5) x)) (sym is.body_is) ∙ ap (λ (l : List ℕ). body ++ l) (drop-drop n (at + 5) x))

  -- behind a whole frame stand the others
  pub frame_here : frames (drop at x) ≡ with_front body (frames (drop (at + 5 + n) x))
  frame_here = ap frames frame_parts ∙ one_frame size body (drop (at + 5 + n) x) size_long is.size

  abbrev framed_body : List ℕ
  framed_body = 1 ∷ (size ++ body)

  grouped : x ≡ take at x ++ framed_body ++ drop (at + 5 + n) x
  grouped = sym (take-append-drop at x) ∙ ap (λ (l : List ℕ). take at x ++ l) frame_parts ∙ simp append_assoc

  pub front_on : take (at + 5 + n) x ≡ take at x ++ framed_body
  front_on = ap (λ (l : List ℕ). take (at + 5 + n) l) grouped
      ∙ take_at (take at x ++ framed_body) (drop (at + 5 + n) x) (at + 5 + n) (omega (arith, length-append (take at x) framed_body, length-append size body, size_long, front_long at x (omega (arith, fits))))

-- ---- one frame further

extended_front : (s : Result (Option Kept) SideFault) (body : List ℕ) (o : Option (List (List ℕ))) → extended s (with_front body o) ≡ extended (with_frames (body ∷ []) s) o
extended_front s body None = refl
extended_front s body (Some more) = sym (more_frames (body ∷ []) more s)

-- images, with what stands from a place on named
pub named_behind : (live : Side) (at : ℕ) (reads : Images) → reads ≡ with_behind live at (drop at (on live reads)) reads
named_behind live at reads = pair_of live reads ∙ ap (λ l. pair live l (beside live reads)) (sym (take-append-drop at (on live reads)))

module _ (v : View) (live : Side) (m : Format) (g at len : ℕ) (f : FramesAt v live m g at len) where
  abbrev x : List ℕ
  x = on live v.reads

  abbrev s : Result (Option Kept) SideFault
  s = so_far live at v.reads

  module _ (body : List ℕ) (fits : at + 5 + length body ≤ len) (is : FrameIs x at body) where
    abbrev on_at : ℕ
    on_at = at + 5 + length body

    within_x : at + 5 + length body ≤ length x
    within_x = omega (arith, f.size, fits)

    abbrev head : List ℕ
    head = take 4 (drop (at + 1) x)

    head_long : length head ≡ 4
    head_long = omega (arith, length-take 4 (drop (at + 1) x), length-drop (at + 1) x, within_x)

    longer : (bytes : List ℕ) → take on_at x ++ bytes ≡ take at x ++ (1 ∷ (head ++ (body ++ bytes)))
    longer bytes = ap (λ (l : List ℕ). l ++ bytes) (front_on x at body within_x is) ∙ simp append_assoc

    next_passes : (bytes : List ℕ) → holds (with_behind live on_at bytes v.reads) ≡ extended (with_frames (body ∷ []) s) (frames bytes)
    next_passes bytes =
        ap (λ l. holds (pair live l (beside live v.reads))) (longer bytes)
        ∙ f.passes (1 ∷ (head ++ (body ++ bytes)))
        ∙ ap (extended s) (one_frame head body bytes head_long is.size)
        ∙ extended_front s body (frames bytes)

    next_so_far : so_far live on_at v.reads ≡ with_frames (body ∷ []) s
    next_so_far = next_passes (0 ∷ []) ∙ no_frames (with_frames (body ∷ []) s)

    pub frames_on : FramesAt v live m g on_at len
    frames_on = record {
      settled = f.settled;
      size = f.size;
      within = fits;
      is_live = ap live_of next_so_far ∙ same_live (body ∷ []) s ∙ f.is_live;
      passes = λ bytes. next_passes bytes ∙ ap (λ r. extended r (frames bytes)) (sym next_so_far);
    }

    pub frame_met : frames (behind live at v.reads) ≡ with_front body (frames (behind live on_at v.reads))
    frame_met = frame_here x at body within_x is

  -- at the closed gate the disk is at rest
  module _ (shut : ShutAt live at v.reads) where
    pub none_left : frames (behind live at v.reads) ≡ Some []
    none_left = shut_here x at shut.there shut.shut

    held_so_far : holds v.reads ≡ s
    held_so_far = ap holds (named_behind live at v.reads) ∙ f.passes (drop at x) ∙ ap (extended s) none_left ∙ no_frames s

    pub live_at_end : IsLive v live m g at
    live_at_end = record {
      at_rest = record {
        settled = f.settled;
        within = shut.there;
        shut = shut.shut;
        carries = record {
          carries = λ more gate tail all closed.
              f.passes (framed more ++ gate ∷ tail) ∙ ap (extended s) (frames_framed more gate tail all closed) ∙ ap (with_frames more) (sym held_so_far);
        };
      };
      is_live = ap live_of held_so_far ∙ f.is_live;
    }

pub frames_still : (v m : View) (live : Side) (format : Format) (g at len : ℕ) → FramesAt v live format g at len → IsSettled m → m.reads ≡ v.reads → FramesAt m live format g at len
frames_still v m live format g at len f settled same = record {
  settled = settled;
  size = f.size ∙ ap (λ (i : Images). length (on live i)) (sym same);
  within = f.within;
  is_live = ap (λ (i : Images). live_of (so_far live at i)) same ∙ f.is_live;
  passes = λ bytes. ap (λ (i : Images). holds (with_behind live at bytes i)) same ∙ f.passes bytes ∙ ap (λ (i : Images). extended (so_far live at i) (frames bytes)) (sym same);
}

-- ---- the world

extended_kept : (live : Side) (format : Format) (header : Header) (world : List ℕ) (o : Option (List (List ℕ))) → kept live format header world o ≡ extended (kept live format header world (Some [])) o
extended_kept live format header world None = refl
extended_kept live format header world (Some more) = refl

module _ (v : View) (live : Side) (format : Format) (header : Header) (at len : ℕ) (f : StoredAt v live format header at len) where
  abbrev x' : List ℕ
  x' = on live v.reads

  held_behind : holds v.reads ≡ content live format header (drop at x')
  held_behind = ap holds (named_behind live at v.reads) ∙ f.passes (drop at x')

  -- the world is cut
  pub world_cut : len < at + header.world_length → holds v.reads ≡ Err Damaged
  unfolding content
  world_cut short =
      let n = header.world_length in
      held_behind ∙ ap (λ b. cond b (kept live format header (take n (drop at x')) (frames (drop n (drop at x')))) (Err Damaged)) (long_test n (length (drop at x')) (omega (arith, length-drop at x', f.size, short, f.within)))

  module _ (world : List ℕ) (size : length world ≡ header.world_length) (fits : at + header.world_length ≤ len) (is : world ≡ take header.world_length (drop at x')) where
    abbrev end : ℕ
    end = at + header.world_length

    front_is : take end x' ≡ take at x' ++ world
    front_is = sym (take-append-drop at (take end x')) ∙ ap (λ (l : List ℕ). l ++ drop at (take end x')) (take-take at end x' (omega arith))
        ∙ ap (λ (l : List ℕ). take at x' ++ l) (drop-take at header.world_length x' ∙ sym is)

    world_passes : (bytes : List ℕ) → holds (with_behind live end bytes v.reads) ≡ kept live format header world (frames bytes)
    world_passes bytes =
        ap (λ l. holds (pair live l (beside live v.reads))) (ap (λ (l : List ℕ). l ++ bytes) front_is ∙ append_assoc (take at x') world bytes)
        ∙ f.passes (world ++ bytes) ∙ content_is live format header world bytes (sym size)

    pub world_held : holds v.reads ≡ kept live format header world (frames (behind live end v.reads))
    world_held = ap holds (named_behind live end v.reads) ∙ world_passes (drop end x')

    pub frames_begin : FramesAt v live format header.generation end len
    frames_begin = record {
      settled = f.settled;
      size = f.size;
      within = fits;
      is_live = ap live_of (world_passes (0 ∷ []));
      passes = λ bytes. world_passes bytes ∙ extended_kept live format header world (frames bytes) ∙ ap (λ r. extended r (frames bytes)) (sym (world_passes (0 ∷ [])));
    }
