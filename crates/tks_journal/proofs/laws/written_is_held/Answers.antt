use Rattle.std.proofs.Common.{◌∷◌, ◌++◌, ◌∙◌, ap}
use Rattle.tks_spelling.specs.Format.{byte_of}
use Rattle.tks_journal.specs.Sides.{framed, kept}
use Rattle.tks_journal.proofs.Faces.{begun_face, live_holds, content_is, frames_framed}
use Rattle.tks_journal.proofs.laws.written_is_held.Goals as goal

pub returns : goal.returns
returns c live format header head world other bodies gate rest spelled given size short shut gives =
    let behind = world ++ (framed bodies ++ gate ∷ rest) in
    live_holds live (1 ∷ byte_of format ∷ head ++ behind) other format header behind (begun_face format header head behind spelled.reads given) gives
    ∙ content_is live format header world (framed bodies ++ gate ∷ rest) size ∙ ap (kept live format header world) (frames_framed bodies gate rest short shut)
