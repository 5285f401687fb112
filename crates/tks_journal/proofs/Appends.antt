-- A frame behind a gate: what the sides hold while it is written, and once the gate is open.
use Rattle.std.proofs.Common.{◌≡◌, ◌≢◌, ◌<◌, ◌≤◌, inl, inr, ℕ, ◌+◌, ◌^◌, List, [], ◌∷◌, ◌++◌, length, get_or, take, drop, refl, sym, ◌∙◌, ap, arith, append_assoc, length-append, take-append-drop, Option, Some, None, Result, Ok, Err}
use Rattle.std.specs.Int.{w32, to_be_bytes}
use Rattle.std.proofs.lemmas.Bool.{cases_eq}
use Rattle.std.proofs.Math.Seq.{get_or-append_seam}
use Rattle.std.proofs.lemmas.List.{take_at, drop_at, append-nil, get_or-take}
use Rattle.tks_disk.specs.DiskModel.{View, Images, on, beside}
use Rattle.tks_disk.specs.declared.disk.Side.{Side}
use Rattle.tks_journal.specs.Sides.{holds, with_frames, live_of, pair, framed, Kept}
use Rattle.tks_journal.specs.declared.fault.SideFault.{SideFault}
use Rattle.tks_journal.specs.Staging.{Begins, Staged, AtGate, Opened}
use Rattle.tks_journal.specs.Resting.{AtRest, OneOf}
use Rattle.tks_journal.proofs.Gates.{pair_of, on_pair}
use Rattle.tks_journal.proofs.Lists.{at_place, take_less}
use Rattle.tks_journal.proofs.Stages.{front_long, reaches}

pub no_frames : (r : Result (Option Kept) SideFault) → with_frames [] r ≡ r
no_frames (Err fault) = refl
no_frames (Ok None) = refl
no_frames (Ok (Some k)) = ap (λ bodies. Ok (Some (record k { bodies = bodies }))) (append-nil k.bodies)

pub more_frames : (xs ys : List (List ℕ)) (r : Result (Option Kept) SideFault) → with_frames ys (with_frames xs r) ≡ with_frames (xs ++ ys) r
more_frames xs ys (Err fault) = refl
more_frames xs ys (Ok None) = refl
more_frames xs ys (Ok (Some k)) = ap (λ bodies. Ok (Some (record k { bodies = bodies }))) (append_assoc k.bodies xs ys)

pub same_live : (more : List (List ℕ)) (r : Result (Option Kept) SideFault) → live_of (with_frames more r) ≡ live_of r
same_live more (Err fault) = refl
same_live more (Ok None) = refl
same_live more (Ok (Some k)) = refl

module _ (v : View) (live : Side) (gate : ℕ) (rest : AtRest v live gate) (body : List ℕ) (short : length body < 2 ^ 32) where
  abbrev x0 : List ℕ
  x0 = on live v.reads

  abbrev front : List ℕ
  front = take gate x0

  abbrev other : List ℕ
  other = beside live v.reads

  abbrev old : Result (Option Kept) SideFault
  old = holds v.reads

  front_is : length front ≡ gate
  front_is = front_long gate x0 (omega (arith, rest.within))

  stem_is : length (take (gate + 1) x0) ≡ gate + 1
  stem_is = front_long (gate + 1) x0 (omega (arith, rest.within))

  -- while the gate is closed, whatever stands behind it
  shut_holds : (i : Images) (g : ℕ) (tail : List ℕ) → i ≡ pair live (front ++ (g ∷ tail)) other → g ≢ 1 → holds i ≡ old
  shut_holds i g tail is shut = ap holds is ∙ rest.carries.carries [] g tail tt shut ∙ no_frames old

  -- while the frame is written
  pub behind_holds : (i : Images) → Begins live (take (gate + 1) x0) other i → OneOf old (with_frames (body ∷ []) old) i
  behind_holds i b =
      let x = on live i in
      let stem : take (gate + 1) x ≡ take (gate + 1) x0 = ap (λ k. take k x) (sym stem_is) ∙ b.front in
      let long : gate + 1 ≤ length x = reaches (gate + 1) x (ap length stem ∙ stem_is) in
      let same : take gate x ≡ front = take_less gate (gate + 1) x x0 (omega arith) stem in
      let is : x ≡ front ++ (get_or x gate 0 ∷ drop (gate + 1) x) = at_place gate x (omega (arith, long)) ∙ ap (λ l. l ++ (get_or x gate 0 ∷ drop (gate + 1) x)) same in
      let same_gate : get_or x gate 0 ≡ get_or x0 gate 0 = sym (get_or-take (gate + 1) x gate 0 (omega arith)) ∙ ap (λ l. get_or l gate 0) stem ∙ get_or-take (gate + 1) x0 gate 0 (omega arith) in
      inl (shut_holds i (get_or x gate 0) (drop (gate + 1) x)
      (pair_of live i ∙ ap (λ l. pair live l (beside live i)) is ∙ ap (λ l. pair live (front ++ (get_or x gate 0 ∷ drop (gate + 1) x)) l) b.other_side)
      (λ e. rest.shut (sym same_gate ∙ e)))

  abbrev size : List ℕ
  size = to_be_bytes w32 (length body)

  -- what stands behind the gate once the frame is written
  abbrev written : List ℕ
  written = size ++ (body ++ 0 ∷ [])

  abbrev end : ℕ
  end = gate + 5 + length body

  module _ (m : View) (staged : Staged live (gate + 1) written v m) where
    abbrev x1 : List ℕ
    x1 = on live m.reads

    abbrev junk : List ℕ
    junk = drop (gate + 1 + length written) x1

    all_of : x1 ≡ take (gate + 1) x0 ++ (written ++ junk)
    all_of = sym (take-append-drop (gate + 1 + length written) x1) ∙ ap (λ (l : List ℕ). l ++ junk) staged.stands ∙ append_assoc (take (gate + 1) x0) written junk

    pub staged_long : gate < length x1
    staged_long = omega (arith, ap length all_of, length-append (take (gate + 1) x0) (written ++ junk), stem_is)

    front_kept : take gate x1 ≡ front
    front_kept = take_less gate (gate + 1) x1 x0 (omega arith) (ap (λ (l : List ℕ). take (gate + 1) l) all_of ∙ take_at (take (gate + 1) x0) (written ++ junk) (gate + 1) stem_is)

    behind_is : drop (gate + 1) x1 ≡ written ++ junk
    behind_is = ap (λ (l : List ℕ). drop (gate + 1) l) all_of ∙ drop_at (take (gate + 1) x0) (written ++ junk) (gate + 1) stem_is

    parts : (i : Images) → AtGate live gate m.reads i → i ≡ pair live (front ++ (get_or (on live i) gate 0 ∷ (written ++ junk))) other
    parts i a =
        let x = on live i in
        let g = get_or x gate 0 in
        let is : x ≡ front ++ (g ∷ (written ++ junk)) = at_place gate x (omega (arith, a.size, staged_long)) ∙ ap (λ l. l ++ (g ∷ drop (gate + 1) x)) (a.before ∙ front_kept) ∙ ap (λ l. front ++ (g ∷ l)) (a.after ∙ behind_is) in
        pair_of live i ∙ ap (λ l. pair live l (beside live i)) is ∙ ap (λ l. pair live (front ++ (g ∷ (written ++ junk))) l) (a.other_side ∙ staged.other_side)

    framed_so : 1 ∷ (written ++ junk) ≡ framed (body ∷ []) ++ (0 ∷ junk)
    framed_so = simp (append_assoc, append-nil)

    open_holds : (i : Images) → AtGate live gate m.reads i → get_or (on live i) gate 0 ≡ 1 → holds i ≡ with_frames (body ∷ []) old
    open_holds i a is_open =
        ap holds (parts i a) ∙ ap (λ g. holds (pair live (front ++ (g ∷ (written ++ junk))) other)) is_open
        ∙ ap (λ l. holds (pair live (front ++ l) other)) framed_so
        ∙ rest.carries.carries (body ∷ []) 0 junk (short, tt) (omega arith)

    -- while the gate is opened
    pub gate_holds : (i : Images) → AtGate live gate m.reads i → OneOf old (with_frames (body ∷ []) old) i
    gate_holds i a = elim (cases_eq (get_or (on live i) gate 0) 1) [
      | inl is_open ↦ inr (open_holds i a is_open)
      | inr shut ↦ inl (shut_holds i (get_or (on live i) gate 0) (written ++ junk) (parts i a) shut)
    ]

    abbrev pre : List ℕ
    pre = front ++ (1 ∷ (size ++ body))

    pre_long : length pre ≡ end
    pre_long = omega (arith, length-append front (1 ∷ (size ++ body)), length-append size body, front_is)

    regroup : front ++ (1 ∷ (written ++ junk)) ≡ pre ++ (0 ∷ junk)
    regroup = simp append_assoc

    nested : (more : List (List ℕ)) (g : ℕ) (tail : List ℕ) → pre ++ (framed more ++ g ∷ tail) ≡ front ++ (framed (body ∷ more) ++ g ∷ tail)
    nested more g tail = simp append_assoc

    -- the gate is open, all of it on the disk
    module _ (f : View) (opened : Opened live gate m f) where
      pub opened_holds : holds f.reads ≡ with_frames (body ∷ []) old
      opened_holds = open_holds f.reads opened.at_gate opened.is_open

      pub opened_rests : AtRest f live end
      opened_rests =
          let x = on live f.reads in
          let is : x ≡ pre ++ (0 ∷ junk) = ap (on live) (parts f.reads opened.at_gate) ∙ on_pair live _ _ ∙ ap (λ g. front ++ (g ∷ (written ++ junk))) opened.is_open ∙ regroup in
          let taken : take end x ≡ pre = ap (λ (l : List ℕ). take end l) is ∙ take_at pre (0 ∷ junk) end pre_long in
          let last : get_or x end 0 ≡ 0 = ap (λ (l : List ℕ). get_or l end 0) is ∙ ap (λ k. get_or (pre ++ (0 ∷ junk)) k 0) (sym pre_long) ∙ get_or-append_seam pre 0 junk 0 in
          record {
            settled = opened.settled;
            within = omega (arith, ap length is, length-append pre (0 ∷ junk), pre_long);
            shut = λ e. absurd (omega (arith, last, e));
            carries = record {
              carries = λ more g tail all shut.
                  ap (λ l. holds (pair live (l ++ (framed more ++ g ∷ tail)) (beside live f.reads))) taken
                  ∙ ap (λ l. holds (pair live (pre ++ (framed more ++ g ∷ tail)) l)) (opened.at_gate.other_side ∙ staged.other_side)
                  ∙ ap (λ l. holds (pair live l other)) (nested more g tail)
                  ∙ rest.carries.carries (body ∷ more) g tail (short, all) shut
                  ∙ sym (more_frames (body ∷ []) more old)
                  ∙ ap (with_frames more) (sym opened_holds);
            };
          }
