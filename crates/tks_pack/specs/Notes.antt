-- What the code of shares rests on: the most that contents ask for, as that of finitely many notes, each of which
-- grows evenly with what a content that shares gets more.
use Rattle.std.specs.Prelude.{◌≡◌, ℕ, ◌+◌, ◌*◌, ◌<◌, ◌≤◌, max, if◌then◌else◌, length, get_or, drop, List, [], ◌∷◌}
use Rattle.tks_pack.specs.declared.note.Note.{Note}
use Rattle.tks_pack.specs.declared.overtaking.Overtaking.{Overtaking}
use Rattle.tks_pack.specs.declared.stretch.Stretch.{Stretch}
use Rattle.tks_pack.specs.Packer.{more}
use Rattle.tks_pack.specs.Requests.{too_long}
use Rattle.tks_pack.specs.Stretch.{lies_along, outer}

abbrev pub no_note : Note
no_note = record { asked = 0; sharing = 0 }

-- what a note asks for where each that shares gets x more
abbrev pub asked_with : ℕ → Note → ℕ
asked_with x n = n.asked + x * n.sharing

-- ---- the notes of contents

-- what is asked for past a content
abbrev pub past : Note → Stretch → Note
past n s = if lies_along s.edge then record { asked = n.asked + outer s; sharing = n.sharing + more s } else n

-- what is noted at it: where it takes the whole length, itself counts; else nothing is added to what is asked for
-- before it, which is never more than what is noted behind it
abbrev pub note_at : Note → Stretch → Note
note_at n s = if lies_along s.edge then n else record { asked = n.asked + outer s; sharing = n.sharing }

-- what is noted at each content, and behind all
abbrev pub notes : Note → List Stretch → List Note
notes n [] = n ∷ []
notes n (s ∷ rest) = note_at n s ∷ notes (past n s) rest

-- the most that any of them asks for
abbrev pub most_asked : ℕ → List Note → ℕ
most_asked x [] = 0
most_asked x (n ∷ rest) = max (asked_with x n) (most_asked x rest)

-- ---- which asks for the most

-- later ones grow at least as fast
pub record Rise (ns : List Note) : Type 0 where
  pub sharing : (i k : ℕ) → i ≤ k → k < length ns → (get_or ns i no_note).sharing ≤ (get_or ns k no_note).sharing

-- the note at i asks for the most of all from it on, up to so many cells; from then on those from another one on do
pub record Overtaken (i : ℕ) (ns : List Note) (o : Overtaking) : Type 0 where
  pub inside : o.by < length ns
  pub later : o.from < too_long → i < o.by
  pub before : (x : ℕ) → x < o.from → most_asked x (drop i ns) ≡ asked_with x (get_or ns i no_note)
  pub after : (x : ℕ) → o.from ≤ x → x < too_long → most_asked x (drop i ns) ≡ most_asked x (drop o.by ns)

abbrev pub no_overtaking : Overtaking
no_overtaking = record { from = 0; by = 0 }

-- it is known of all from i on
pub record AreOvertaken (i : ℕ) (ns : List Note) (os : List Overtaking) : Type 0 where
  pub all : length os ≡ length ns
  pub each : (k : ℕ) → i ≤ k → k < length ns → Overtaken k ns (get_or os k no_overtaking)
