-- What the calls that read answer (this project's own rule).
use Rattle.std.specs.Prelude.{◌≡◌, ℕ, suc, ◌<◌, ◌≤◌, ◌-◌, ◌++◌, List, length, take, drop, Result, Ok, Err}
use Rattle.tks_spelling.specs.declared.fault.CodecFault.{CodecFault}
use Rattle.tks_spelling.specs.declared.fault.CodecFault.TheVariants.{Bad, NoMemory}
use Rattle.tks_spelling.specs.declared.unread.Unread.{Unread}
use Rattle.tks_spelling.specs.declared.unread.Unread.TheVariants as unread
use Rattle.tks_spelling.specs.Spelling.{Read, Spelling}

-- A value and the length of its spelling, or where the fault is: just as reading says, unless memory was refused.
abbrev pub FindsSo : {T : Type 0} → Result (T × ℕ) CodecFault → List ℕ → Read T → Type 0
FindsSo (Ok found) bytes read = (found.1 ≤ length bytes) × (read ≡ Ok (found.0, drop found.1 bytes))
FindsSo (Err (Bad position)) bytes read = (position ≤ length bytes) × (read ≡ Err (length bytes - position))
FindsSo (Err NoMemory) bytes read = Unit {0}

-- Why the first fault is at this position, or at the end where the position is the number of bytes: what stands
-- before it only ends too early, and no spelling begins with the bytes up to this one.
pub record StopsAt {T : Type 0} (s : Spelling T) (bytes : List ℕ) (position : ℕ) : Type 0 where
  pub within : position ≤ length bytes
  pub before : s.read (take position bytes) ≡ Err 0
  pub none : position < length bytes → (value : T) (rest other : List ℕ) → s.Legal value → take (suc position) bytes ++ other ≡ s.write value ++ rest → ⊥

-- What a reader of one value answers, seen by view: just what reading gives, unless memory was refused.
abbrev pub Fails : {Y : Type 0} → Unread → Result Y ℕ → Type 0
Fails (unread.Left left) read = read ≡ Err left
Fails unread.NoMemory read = Unit {0}

abbrev pub Gives : {X Y : Type 0} → (X → Y) → Result X Unread → Result Y ℕ → Type 0
Gives view (Ok x) read = read ≡ Ok (view x)
Gives view (Err e) read = Fails e read
