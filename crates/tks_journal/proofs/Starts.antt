-- A side that is begun: what the sides hold while it is written, and once its gate is open.
use Rattle.std.proofs.Common.{◌≡◌, ◌≢◌, ◌<◌, inl, inr, ⊎_elim, ℕ, ◌+◌, true, List, [], ◌∷◌, ◌++◌, length, get_or, take, drop, sym, ◌∙◌, ap, arith, append_assoc, length-append, take-append-drop, Option, Result, Ok}
use Rattle.std.proofs.lemmas.Bool.{cases_eq}
use Rattle.std.proofs.Math.Seq.{get_or-append_seam}
use Rattle.std.proofs.lemmas.List.{take_at, drop_at}
use Rattle.tks_spelling.specs.Header.{header_at}
use Rattle.tks_spelling.specs.declared.format.Format.TheVariants.{Two}
use Rattle.tks_spelling.specs.declared.header.Header.{Header}
use Rattle.tks_disk.specs.DiskModel.{View, Images, on, beside}
use Rattle.tks_disk.specs.declared.disk.Side.{Side}
use Rattle.tks_journal.specs.Sides.{is_closed, Kept, holds, with_frames, is_given, pair, framed, AllShort}
use Rattle.tks_journal.specs.declared.fault.SideFault.{SideFault}
use Rattle.tks_journal.specs.Staging.{Begins, Staged, AtGate, Opened, Closing, Shut}
use Rattle.tks_journal.specs.Resting.{AtRest, OneOf, Vacant, begun_as}
use Rattle.tks_journal.proofs.Gates.{pair_of, on_pair, exact}
use Rattle.tks_journal.proofs.Lists.{at_place}
use Rattle.tks_journal.proofs.Stages.{front_long}
use Rattle.tks_journal.proofs.Faces.{closed_front, closed_gate, begun_face, live_holds, begun_content}

module _ (v : View) (side : Side) (header : Header) (head world : List ℕ) (spelled : (rest : List ℕ) → header_at (head ++ rest) ≡ Ok (header, rest)) (given : is_given header.generation ≡ true)
    (size : header.world_length ≡ length world) (vacant : Vacant side header.generation v.reads) where
  abbrev other : List ℕ
  other = beside side v.reads

  abbrev old : Result (Option Kept) SideFault
  old = holds v.reads

  abbrev new : Result (Option Kept) SideFault
  new = begun_as side header world

  shut_holds : (i : Images) (x : List ℕ) → i ≡ pair side x other → is_closed x ≡ true → holds i ≡ old
  shut_holds i x is shut = ap holds is ∙ vacant.ignored x shut

  beside_kept : (i : Images) → beside side i ≡ other → i ≡ pair side (on side i) other
  beside_kept i e = pair_of side i ∙ ap (λ l. pair side (on side i) l) e

  -- while the gate is closed
  pub closing_holds : (i : Images) → Closing side v.reads i → OneOf old new i
  closing_holds i c = inl (⊎_elim (λ same. ap holds (exact side i v.reads same c.other_side)) (λ shut. shut_holds i (on side i) (beside_kept i c.other_side) shut) c.either)

  module _ (m : View) (shut : Shut side v m) where
    -- while the body is written
    pub behind_holds : (i : Images) → Begins side (take 1 (on side m.reads)) (beside side m.reads) i → OneOf old new i
    behind_holds i b =
        let stem : take 1 (on side i) ≡ take 1 (on side m.reads) = ap (λ k. take k (on side i)) (sym (front_long 1 (on side m.reads) (omega (arith, shut.some)))) ∙ b.front in
        inl (shut_holds i (on side i) (beside_kept i (b.other_side ∙ shut.other_side)) (closed_front (on side i) (on side m.reads) stem shut.some shut.shut))

    abbrev body : List ℕ
    body = 2 ∷ head ++ (world ++ 0 ∷ [])

    module _ (n : View) (staged : Staged side 1 body m n) where
      abbrev x : List ℕ
      x = on side n.reads

      abbrev junk : List ℕ
      junk = drop (1 + length body) x

      stem_long : length (take 1 (on side m.reads)) ≡ 1
      stem_long = front_long 1 (on side m.reads) (omega (arith, shut.some))

      all_of : x ≡ take 1 (on side m.reads) ++ (body ++ junk)
      all_of = sym (take-append-drop (1 + length body) x) ∙ ap (λ (l : List ℕ). l ++ junk) staged.stands ∙ append_assoc (take 1 (on side m.reads)) body junk

      pub staged_long : 0 < length x
      staged_long = omega (arith, ap length all_of, length-append (take 1 (on side m.reads)) (body ++ junk), stem_long)

      behind_is : drop 1 x ≡ body ++ junk
      behind_is = ap (λ (l : List ℕ). drop 1 l) all_of ∙ drop_at (take 1 (on side m.reads)) (body ++ junk) 1 stem_long

      parts : (i : Images) → AtGate side 0 n.reads i → i ≡ pair side (get_or (on side i) 0 0 ∷ (body ++ junk)) other
      parts i a =
          let y = on side i in
          let is : y ≡ get_or y 0 0 ∷ (body ++ junk) = at_place 0 y (omega (arith, a.size, staged_long)) ∙ ap (λ (l : List ℕ). get_or y 0 0 ∷ l) (a.after ∙ behind_is) in
          beside_kept i (a.other_side ∙ staged.other_side ∙ shut.other_side) ∙ ap (λ l. pair side l other) is

      -- the side with an open gate and frames
      open_holds : (more : List (List ℕ)) (g : ℕ) (tail : List ℕ) → AllShort more → g ≢ 1 → holds (pair side (1 ∷ 2 ∷ head ++ (world ++ (framed more ++ g ∷ tail))) other) ≡ with_frames more new
      open_holds more g tail all closed =
          live_holds side (1 ∷ 2 ∷ head ++ (world ++ (framed more ++ g ∷ tail))) other Two header (world ++ (framed more ++ g ∷ tail)) (begun_face Two header head (world ++ (framed more ++ g ∷ tail)) spelled given) vacant.yields
          ∙ begun_content side header world more g tail size all closed

      regroup : 1 ∷ (body ++ junk) ≡ 1 ∷ 2 ∷ head ++ (world ++ (framed [] ++ 0 ∷ junk))
      regroup = simp append_assoc

      opened_so : (i : Images) → AtGate side 0 n.reads i → get_or (on side i) 0 0 ≡ 1 → holds i ≡ new
      opened_so i a is_open =
          ap holds (parts i a) ∙ ap (λ g. holds (pair side (g ∷ (body ++ junk)) other)) is_open
          ∙ ap (λ l. holds (pair side l other)) regroup
          ∙ open_holds [] 0 junk tt (omega arith)

      -- while the gate is opened
      pub gate_holds : (i : Images) → AtGate side 0 n.reads i → OneOf old new i
      gate_holds i a = elim (cases_eq (get_or (on side i) 0 0) 1) [
        | inl is_open ↦ inr (opened_so i a is_open)
        | inr closed ↦ inl (shut_holds i (get_or (on side i) 0 0 ∷ (body ++ junk)) (parts i a) (closed_gate (get_or (on side i) 0 0) (body ++ junk) closed))
      ]

      abbrev front : List ℕ
      front = 1 ∷ 2 ∷ head ++ world

      abbrev end : ℕ
      end = 2 + length head + length world

      front_is : length front ≡ end
      front_is = omega (arith, length-append (1 ∷ 2 ∷ head) world)

      split : 1 ∷ (body ++ junk) ≡ front ++ (0 ∷ junk)
      split = simp append_assoc

      module _ (f : View) (opened : Opened side 0 n f) where
        pub opened_holds : holds f.reads ≡ new
        opened_holds = opened_so f.reads opened.at_gate opened.is_open

        pub opened_rests : AtRest f side end
        opened_rests =
            let y = on side f.reads in
            let is : y ≡ front ++ (0 ∷ junk) = ap (on side) (parts f.reads opened.at_gate) ∙ on_pair side _ _ ∙ ap (λ g. g ∷ (body ++ junk)) opened.is_open ∙ split in
            let taken : take end y ≡ front = ap (λ (l : List ℕ). take end l) is ∙ take_at front (0 ∷ junk) end front_is in
            let last : get_or y end 0 ≡ 0 = ap (λ (l : List ℕ). get_or l end 0) is ∙ ap (λ k. get_or (front ++ (0 ∷ junk)) k 0) (sym front_is) ∙ get_or-append_seam front 0 junk 0 in
            record {
              settled = opened.settled;
              within = omega (arith, ap length is, length-append front (0 ∷ junk), front_is);
              shut = λ e. absurd (omega (arith, last, e));
              carries = record {
                carries = λ more g tail all closed.
                    ap (λ l. holds (pair side (l ++ (framed more ++ g ∷ tail)) (beside side f.reads))) taken
                    ∙ ap (λ l. holds (pair side (front ++ (framed more ++ g ∷ tail)) l)) (opened.at_gate.other_side ∙ staged.other_side ∙ shut.other_side)
                    ∙ ap (λ l. holds (pair side l other)) (append_assoc (1 ∷ 2 ∷ head) world (framed more ++ g ∷ tail))
                    ∙ open_holds more g tail all closed
                    ∙ ap (with_frames more) (sym opened_holds);
              };
            }
