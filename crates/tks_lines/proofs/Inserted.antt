-- What characters come into stays formed.
use Rattle.std.proofs.Common.{◌≡◌, ℕ, ◌≤◌, List, length, map}
use Rattle.tks_lines.specs.declared.parts.Tag.{Tag}
use Rattle.tks_lines.specs.declared.parts.Mark.{Mark}
use Rattle.tks_lines.specs.Lines.{Lines, Formed, grown, is_around, is_among, moved_on, spliced}
use Rattle.tks_lines.proofs.Inside.{inserted_inside}
use Rattle.tks_lines.proofs.Lengths.{around_long, among_long}
use Rattle.tks_lines.proofs.Names.{around_differ, among_differ, on_differ, on_first}

pub around_formed : (t : Lines) (place : ℕ) (more text : List ℕ) (tags : List Tag) (marks : List Mark) → Formed t → place ≤ length t.text
    → text ≡ spliced place more t.text → tags ≡ map (λ g. grown place (length more) (is_around place g) g) t.tags → marks ≡ map (moved_on place (length more)) t.marks
    → Formed (record t { text = text; tags = tags; marks = marks })
around_formed t place more text tags marks f here e g h =
    rw (e, g, h) (record {
      class = f.class;
      inside = inserted_inside place more t.text t.marks here f.inside;
      long = around_long place more t.text t.tags here f.long;
      tags_differ = around_differ place (length more) t.tags f.tags_differ;
      marks_differ = on_differ place (length more) t.marks f.marks_differ;
      cursor_first = on_first place (length more) t.marks f.cursor_first;
    })

pub among_grown_formed : (t : Lines) (place : ℕ) (more : List ℕ) (names : List (List ℕ)) (text : List ℕ) (tags : List Tag) (marks : List Mark) → Formed t → place ≤ length t.text
    → text ≡ spliced place more t.text → tags ≡ map (λ g. grown place (length more) (is_among names g) g) t.tags → marks ≡ map (moved_on place (length more)) t.marks
    → Formed (record t { text = text; tags = tags; marks = marks })
among_grown_formed t place more names text tags marks f here e g h =
    rw (e, g, h) (record {
      class = f.class;
      inside = inserted_inside place more t.text t.marks here f.inside;
      long = among_long place more t.text names t.tags here f.long;
      tags_differ = among_differ place (length more) names t.tags f.tags_differ;
      marks_differ = on_differ place (length more) t.marks f.marks_differ;
      cursor_first = on_first place (length more) t.marks f.cursor_first;
    })
